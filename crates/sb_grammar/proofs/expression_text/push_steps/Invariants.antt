use Rattle.std.proofs.Common.{◌≡◌, ◌++◌, codes, drop, map}
use Rattle.sb_grammar.specs.Text.{each_behind, step_text}
use Rattle.sb_grammar.proofs.expression_text.push_steps.Given as goal

abbrev pub invariant-loop-step : goal.invariant-loop-step
invariant-loop-step l = l.out.items ++ each_behind (codes ". ") (map step_text (drop l.step-index l.steps)) ≡ l.fn.out.items ++ each_behind (codes ". ") (map step_text l.steps)
