use Rattle.sb_log.proofs.PieceLines.{cut_at}
use Rattle.sb_log.proofs.pieces.first_piece.Goals as goal

pub returns-then-bytes-at-eq-LF-clause-lines : goal.returns-then-bytes-at-eq-LF-clause-lines
returns-then-bytes-at-eq-LF-clause-lines c =
    cut_at c.args.bytes.now c.loop-at.at c.split_at.result.0.now c.split_at.result.1.now c.loop-at-test.true c.if-bytes-at-eq-LF.true c.split_at.ensures.front c.split_at.ensures.back
