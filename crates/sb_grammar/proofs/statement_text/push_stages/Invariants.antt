use Rattle.std.proofs.Common.{◌≡◌, ◌++◌, codes, drop, map}
use Rattle.sb_grammar.specs.Text.{each_behind, stage_text}
use Rattle.sb_grammar.proofs.statement_text.push_stages.Given as goal

abbrev pub invariant-loop-stage : goal.invariant-loop-stage
invariant-loop-stage l = l.out.items ++ each_behind (codes "| ") (map stage_text (drop l.stage-index l.stages)) ≡ l.fn.out.items ++ each_behind (codes "| ") (map stage_text l.stages)
