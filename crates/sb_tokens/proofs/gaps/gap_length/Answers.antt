use Rattle.std.proofs.Common.{◌∙◌, sym}
use Rattle.sb_tokens.specs.Lexed.{lexed_from}
use Rattle.sb_tokens.proofs.Passing.{in_comment_moved, comment_moved, blank_moved}
use Rattle.sb_tokens.proofs.gaps.gap_length.Goals.{then-in_comment, else-in_comment+then-byte-eq35, else-in_comment+else-byte-eq35+else-not-is_blank}
use Rattle.sb_tokens.proofs.gaps.gap_length.Goals as goal

pub loop-at-preserved : goal.loop-at-preserved
loop-at-preserved c = λ offset. elim c.if-in_comment.branch [
  | then-in_comment w ↦ in_comment_moved (lexed_from offset c.args.bytes.now) c.loop-at.in_comment c.if-in_comment.in_comment offset c.loop-at.at c.args.bytes.now
      c.loop-at-test.true (c.loop-at.invariant offset) w.if-in_comment.true w.in_comment-is
  | else-in_comment+then-byte-eq35 w ↦ comment_moved (lexed_from offset c.args.bytes.now) c.loop-at.in_comment c.if-in_comment.in_comment offset c.loop-at.at c.args.bytes.now
      c.loop-at-test.true (c.loop-at.invariant offset) w.if-in_comment.false w.if-byte-eq35.true w.in_comment-is
  | else-in_comment+else-byte-eq35+else-not-is_blank w ↦ blank_moved (lexed_from offset c.args.bytes.now) c.loop-at.in_comment c.if-in_comment.in_comment offset c.loop-at.at c.args.bytes.now
      c.loop-at-test.true (c.loop-at.invariant offset) w.if-in_comment.false (sym w.is_blank.ensures ∙ w.if-not-is_blank.false) w.in_comment-is
]
