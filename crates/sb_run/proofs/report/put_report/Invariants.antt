use Rattle.std.proofs.Common.{[], ◌++◌, ◌≤◌, drop}
use Rattle.std.specs.List.{flat_map}
use Rattle.sb_feed.specs.Jobs.{AreValid}
use Rattle.sb_run.specs.Blocks.{Sends}
use Rattle.sb_run.specs.Batching.{batch_row, stores}
use Rattle.sb_run.proofs.report.put_report.Given as goal

abbrev pub invariant-loop-row : goal.invariant-loop-row
invariant-loop-row g l = record {
  sent : Sends (flat_map (batch_row l.family) l.rows) (g.K.Sink.written l.fn.sink) [] (g.K.Sink.written l.sink)
      (l.block.items ++ flat_map (batch_row l.family) (drop l.row-index l.rows));
  valid : AreValid (stores l.family) (drop l.row-index l.rows);
  later : g.K.Sink.faults l.fn.sink ≤ g.K.Sink.faults l.sink;
}
