use Rattle.std.proofs.Common.{◌≡◌, drop}
use Rattle.sb_grammar.specs.Text.{lines_text}
use Rattle.sb_grammar.proofs.printing.push_statements.Given as goal

abbrev pub invariant-loop-statement : goal.invariant-loop-statement
invariant-loop-statement l = lines_text l.lines.items (drop l.statement-index l.statements) ≡ lines_text l.fn.lines.items l.statements
