use Rattle.std.proofs.Common.{ℕ, ◌<◌, ◌≤◌, ◌-◌, length}
use Rattle.sb_text.specs.MaximalRanges.{last_at}
use Rattle.sb_text.proofs.RangeEdits.{place_from_searches}
use Rattle.sb_text.proofs.maximal.place_of.Goals as goal

pub returns : goal.returns
returns c =
    let before : (k : ℕ) → k < c.count_before-from.result → last_at c.args.ranges.now k < c.args.range.0 - 1 = rw c.saturating_sub.ensures at c.count_before-from.ensures.before in
    let ends : (k : ℕ) → c.count_before-from.result ≤ k → k < length c.args.ranges.now → c.args.range.0 - 1 ≤ last_at c.args.ranges.now k = rw c.saturating_sub.ensures at c.count_before-from.ensures.after in
    place_from_searches c.args.ranges.now c.args.range c.count_before-from.result c.end_of_touched.result c.requires.maximal c.count_before-from.ensures.bound c.end_of_touched.ensures.bound
    before ends c.end_of_touched.ensures.before c.end_of_touched.ensures.end
