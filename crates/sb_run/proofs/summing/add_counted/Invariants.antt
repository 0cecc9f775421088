use Rattle.std.proofs.Common.{◌≡◌, [], List, map}
use Rattle.sb_check.specs.CheckedView.{checked_of}
use Rattle.sb_check.specs.Log.{Logged}
use Rattle.sb_feed.specs.Jobs.{AreValid}
use Rattle.sb_log.specs.Reader.{left_of, lines_left, program_of}
use Rattle.sb_log.specs.Reading.{records_behind}
use Rattle.sb_service.specs.Views.{view_service}
use Rattle.sb_run.specs.Batching.{AreSummed, stores}
use Rattle.sb_run.proofs.summing.add_counted.Given as goal

abbrev pub invariant-loop-fed : goal.invariant-loop-fed
invariant-loop-fed g l = record {
  program : program_of l.records ≡ checked_of l.c;
  none : l.fed.items ≡ [];
  valid : AreValid (stores l.runner) l.sums;
  summed : (given : List Logged) × (records_behind given (left_of l.records) ≡ left_of l.fn.records)
      × AreSummed (checked_of l.c) (map view_service l.services) l.runner given l.sums;
}

abbrev pub decreases-loop-fed : goal.decreases-loop-fed
decreases-loop-fed g l = lines_left l.records
