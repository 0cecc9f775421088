use Rattle.std.proofs.Common.{◌≡◌, ◌++◌, drop, map}
use Rattle.sb_check.specs.Log.{logged_of}
use Rattle.sb_meaning.specs.Streams.{at_of, records}
use Rattle.sb_meaning.proofs.stages.records.Given as goal

abbrev pub invariant-loop-line : goal.invariant-loop-line
invariant-loop-line l = map at_of l.out.items ++ records l.source (map logged_of (drop l.line-index l.log)) ≡ records l.source (map logged_of l.log)
