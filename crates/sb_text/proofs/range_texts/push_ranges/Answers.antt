use Rattle.std.proofs.Common.{◌∙◌, ◌++◌, append_assoc, ap, sym}
use Rattle.sb_text.specs.Ranges.{range_text}
use Rattle.sb_text.proofs.RangeReads.{following, joined_following}
use Rattle.sb_text.proofs.range_texts.push_ranges.Goals as goal

pub loop-range-init : goal.loop-range-init
loop-range-init c = record {
  written =
      rw (c.in_ok-push_range.ensures.ok, c.in-Some.ensures.cases.0)
      (append_assoc c.args.out.now.items (range_text c.in-Some.first.now) (following c.in-Some.rest.now)
      ∙ ap (λ text. c.args.out.now.items ++ text) (sym (joined_following c.in-Some.first.now c.in-Some.rest.now)));
  front = c.in_ok-push_range.ensures.front;
}
