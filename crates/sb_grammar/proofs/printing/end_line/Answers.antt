use Rattle.sb_grammar.proofs.Lines.{end_of}
use Rattle.sb_grammar.proofs.printing.end_line.Goals as goal

pub returns-in_ok-push-in-Some : goal.returns-in_ok-push-in-Some
returns-in_ok-push-in-Some c = end_of c.args.lines.now.items c.pop.new.self.items c.push.new.self.items c.in-Some.field-0 c.in-Some.ensures.items c.in_ok-push-in-Some.ensures.items
