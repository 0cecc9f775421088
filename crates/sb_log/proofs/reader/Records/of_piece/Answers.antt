use Rattle.std.proofs.Common.{◌∙◌, ap, arith}
use Rattle.sb_check.specs.CheckedView.{checked_of}
use Rattle.sb_check.specs.Log.{records_of}
use Rattle.sb_log.specs.PieceLines.{lines_behind, piece_lines}
use Rattle.sb_log.specs.Reader.{within_room}
use Rattle.sb_log.proofs.PieceLines.{behind_from, room_for}
use Rattle.sb_log.proofs.reader.Records.of_piece.Goals as goal

pub returns-clause-left : goal.returns-clause-left
returns-clause-left c =
    let p = checked_of c.args.program.now in
    let piece = c.args.piece in
    ap (λ lines. within_room piece.lines (records_of p (lines_behind piece.before lines))) c.new.ensures
    ∙ (ap (λ lines. within_room piece.lines (records_of p lines)) (behind_from piece.before 1 piece.bytes.now)
    ∙ room_for p piece.lines (piece_lines piece) (let count = c.requires in omega (arith, count)))
