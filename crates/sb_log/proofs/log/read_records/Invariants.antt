use Rattle.std.proofs.Common.{◌≡◌, true}
use Rattle.sb_check.specs.CheckedView.{checked_of}
use Rattle.sb_check.specs.Log.{are_in_batches, log_of}
use Rattle.sb_log.specs.Reader.{left_of, lines_left, program_of}
use Rattle.sb_log.specs.Reading.{records_behind, records_view}
use Rattle.sb_log.proofs.log.read_records.Given as goal

abbrev pub invariant-loop-records : goal.invariant-loop-records
invariant-loop-records l = record {
  program : program_of l.reader ≡ checked_of l.c;
  read : records_behind (records_view l.records) (left_of l.reader) ≡ log_of (checked_of l.c) l.bytes;
  batches : are_in_batches (checked_of l.c).batching (records_view l.records) ≡ true;
}

abbrev pub decreases-loop-records : goal.decreases-loop-records
decreases-loop-records l = lines_left l.reader
