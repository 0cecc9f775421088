use Rattle.std.proofs.Common.{◌+◌, ◌∙◌, ap}
use Rattle.sb_check.specs.CheckedView.{checked_of}
use Rattle.sb_check.specs.Log.{most_records, records_of}
use Rattle.sb_text.specs.Lines.{lines_from}
use Rattle.sb_log.specs.PieceLines.{lines_behind}
use Rattle.sb_log.specs.Reader.{within_room}
use Rattle.sb_log.proofs.PieceLines.{behind_from, room_is_limit}
use Rattle.sb_log.proofs.reader.Records.new.Goals as goal

pub returns-clause-left : goal.returns-clause-left
returns-clause-left c =
    let p = checked_of c.args.program.now in
    ap (λ lines. within_room most_records (records_of p (lines_behind 0 lines))) c.new.ensures
    ∙ (ap (λ lines. within_room most_records (records_of p lines)) (behind_from 0 1 c.args.bytes.now) ∙ room_is_limit (records_of p (lines_from (0 + 1) c.args.bytes.now)))
