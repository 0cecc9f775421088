use Rattle.std.proofs.Common.{◌≡◌, drop}
use Rattle.sb_check.specs.Declarations.{declarations_of, streamed_of}
use Rattle.sb_check.specs.Streams.{stages_walk, stream_walk}
use Rattle.sb_check.proofs.streams.+walk.Given as goal

abbrev pub invariant-stream-loop-next : goal.invariant-stream-loop-next
invariant-stream-loop-next l =
    stages_walk (declarations_of l.declared) (drop l.next-index l.next-items) (streamed_of l.whole) ≡ stream_walk l.tree (declarations_of l.declared)
