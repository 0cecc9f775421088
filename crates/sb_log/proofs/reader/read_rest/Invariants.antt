use Rattle.std.proofs.Common.{◌≡◌}
use Rattle.sb_check.specs.CheckedView.{checked_of}
use Rattle.sb_check.specs.Log.{records_of}
use Rattle.sb_log.specs.PieceLines.{lines_behind}
use Rattle.sb_log.specs.Reading.{fault_in}
use Rattle.sb_log.proofs.reader.read_rest.Given as goal

abbrev pub invariant-loop-line : goal.invariant-loop-line
invariant-loop-line l = fault_in (records_of (checked_of l.program) (lines_behind l.before l.line-iterator)) ≡ fault_in (records_of (checked_of l.program) (lines_behind l.before l.fn.lines))
