use Rattle.std.proofs.Common.{◌≡◌, ◌≤◌, ◌&&◌}
use Rattle.std.specs.Prelude.{nat_lt}
use Rattle.sb_job.specs.Emitted.{parts_where, is_between}
use Rattle.sb_session.proofs.emitting.parts_between.Given as goal

abbrev pub invariant-loop-i : goal.invariant-loop-i
invariant-loop-i g l = record {
  from : l.fn.from ≤ l.i;
  parts : l.parts.items ≡ parts_where (λ k. is_between l.fn.from l.fn.to k && nat_lt k l.i) 0 (g.F.Feed.records l.feed);
}
