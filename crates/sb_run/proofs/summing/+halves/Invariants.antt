use Rattle.std.proofs.Common.{◌+◌, ◌*◌}
use Rattle.sb_run.proofs.summing.+halves.Given as goal

-- a half is halved once less, and a closure stands between the two calls
abbrev pub decreases-add_halves : goal.decreases-add_halves
decreases-add_halves g l = l.depth * 2

abbrev pub decreases-join+arg2 : goal.decreases-join+arg2
decreases-join+arg2 g l = l.less * 2 + 1

abbrev pub decreases-join+arg3 : goal.decreases-join+arg3
decreases-join+arg3 g l = l.less * 2 + 1
