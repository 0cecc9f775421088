use Rattle.sb_text.proofs.Splits.{pieces-split, pieces-whole}
use Rattle.sb_text.proofs.range_texts.first_piece.Goals as goal

pub returns-in-Some-clause-value : goal.returns-in-Some-clause-value
returns-in-Some-clause-value c = rw c.in-Some.ensures.1 (pieces-split 44 c.in-Some.piece.now c.in-Some.rest.now c.in-Some.ensures.0)

pub returns-in-None-clause-value : goal.returns-in-None-clause-value
returns-in-None-clause-value c = pieces-whole 44 c.args.text.now c.in-None.ensures
