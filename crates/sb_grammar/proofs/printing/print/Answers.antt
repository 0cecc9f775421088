use Rattle.std.proofs.Common.{◌∙◌, ◌++◌, ap}
use Rattle.sb_grammar.proofs.Lines.{program_lines}
use Rattle.sb_grammar.proofs.printing.print.Goals as goal

pub returns-clause-ok : goal.returns-clause-ok
returns-clause-ok c = λ parts is.
    c.in_ok-extend_from_slice.ensures.items
    ∙ ap (λ l. c.args.out.now.items ++ l) (c.as_slice.ensures.value ∙ c.in_ok-lines.ensures ∙ program_lines c.args.p.now parts is)
