use Rattle.std.proofs.Common.{◌∙◌, sym, arith}
use Rattle.sb_meaning.proofs.Blanks.{pieces_at, pieces_whole, lacks_whole, utf8_before, utf8_behind}
use Rattle.sb_meaning.proofs.words.first_piece.Goals as goal

pub returns-then-is_blank-clause-value : goal.returns-then-is_blank-clause-value
returns-then-is_blank-clause-value c = pieces_at c.args.bytes.now c.loop-at.at c.loop-at-test.true c.loop-at.invariant (sym c.is_blank.ensures ∙ c.if-is_blank.true)

pub returns-then-is_blank-clause-piece : goal.returns-then-is_blank-clause-piece
returns-then-is_blank-clause-piece c = utf8_before c.args.bytes.now c.loop-at.at c.requires c.loop-at-test.true (sym c.is_blank.ensures ∙ c.if-is_blank.true)

pub returns-then-is_blank-clause-rest : goal.returns-then-is_blank-clause-rest
returns-then-is_blank-clause-rest c = utf8_behind c.args.bytes.now c.loop-at.at c.requires c.loop-at-test.true (sym c.is_blank.ensures ∙ c.if-is_blank.true)

pub returns-clause-value : goal.returns-clause-value
returns-clause-value c = pieces_whole c.args.bytes.now (lacks_whole c.args.bytes.now c.loop-at.at (omega arith) c.loop-at.invariant)
