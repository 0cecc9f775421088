use Rattle.std.proofs.Common.{◌≡◌, ◌+◌, rules}
use Rattle.sb_log.proofs.PieceLines.{both_lines, first_count, second_count}
use Rattle.sb_log.proofs.pieces.Piece.split.Goals as goal

pub returns-clause-first : goal.returns-clause-first
returns-clause-first c =
    let piece = c.args.self in
    let sum : c.in_ok-behind.behind ≡ piece.before + c.in_ok-count.count = search rules in
    first_count piece.bytes.now c.first_piece.result.0.now c.first_piece.result.1.now piece.before c.in_ok-count.count c.in_ok-behind.behind c.first_piece.ensures.lines c.in_ok-count.ensures sum

pub returns-clause-second : goal.returns-clause-second
returns-clause-second c =
    let piece = c.args.self in
    let sum : c.in_ok-behind.behind ≡ piece.before + c.in_ok-count.count = search rules in
    second_count piece.bytes.now c.first_piece.result.0.now c.first_piece.result.1.now piece.before c.in_ok-count.count c.in_ok-behind.behind c.first_piece.ensures.lines c.in_ok-count.ensures sum
    piece.lines c.saturating_sub.result c.requires c.saturating_sub.ensures

pub returns-clause-lines : goal.returns-clause-lines
returns-clause-lines c =
    let piece = c.args.self in
    let sum : c.in_ok-behind.behind ≡ piece.before + c.in_ok-count.count = search rules in
    both_lines piece.bytes.now c.first_piece.result.0.now c.first_piece.result.1.now piece.before c.in_ok-count.count c.in_ok-behind.behind c.first_piece.ensures.lines c.in_ok-count.ensures sum
