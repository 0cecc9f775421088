use Rattle.std.proofs.Common.{◌≡◌}
use Rattle.sb_job.proofs.key_set.keys_of.Given as goal

abbrev pub invariant-loop-key : goal.invariant-loop-key
invariant-loop-key l = l.list.items ≡ l.yielded
