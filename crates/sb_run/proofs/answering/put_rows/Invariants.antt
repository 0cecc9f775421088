use Rattle.std.proofs.Common.{[], ◌≤◌}
use Rattle.std.specs.List.{flat_map}
use Rattle.std.specs.Vec.Iter.{into_iter_items}
use Rattle.sb_feed.specs.Jobs.{AreValid}
use Rattle.sb_run.specs.Answering.{online, runner_row}
use Rattle.sb_run.specs.Blocks.{Sends}
use Rattle.sb_run.proofs.answering.put_rows.Given as goal

abbrev pub invariant-loop-key : goal.invariant-loop-key
invariant-loop-key g l = record {
  sent : Sends (flat_map (runner_row l.feed) l.fn.rows) (g.K.Sink.written l.fn.sink) [] (g.K.Sink.written l.sink) (flat_map (runner_row l.feed) (into_iter_items l.key-iterator));
  valid : AreValid (online l.feed) (into_iter_items l.key-iterator);
  later : g.K.Sink.faults l.fn.sink ≤ g.K.Sink.faults l.sink;
}
