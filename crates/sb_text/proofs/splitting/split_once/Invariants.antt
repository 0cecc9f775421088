use Rattle.std.proofs.Common.{take}
use Rattle.sb_text.specs.Columns.{Lacks}
use Rattle.sb_text.proofs.splitting.split_once.Given as goal

abbrev pub invariant-loop-at : goal.invariant-loop-at
invariant-loop-at l = Lacks l.separator (take l.at l.bytes)
