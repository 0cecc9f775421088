use Rattle.std.proofs.Common.{arith}
use Rattle.sb_text.proofs.RangeNumbers.{all_ranges, all_at, few_numbers, numbers_at}
use Rattle.sb_text.proofs.maximal.count_numbers.Goals as goal

pub loop-range-init : goal.loop-range-init
loop-range-init c = record { counted = omega arith; all = all_ranges 0 c.args.ranges.now c.requires }

pub overflow_add-count-in-loop-range : goal.overflow_add-count-in-loop-range
overflow_add-count-in-loop-range c =
    let more = numbers_at c.args.ranges.now c.loop-range.range-index (omega (arith, c.loop-range-test.true)) in
    omega (arith, more, few_numbers 0 c.args.ranges.now c.requires, c.loop-range.invariant.counted)

pub loop-range-preserved : goal.loop-range-preserved
loop-range-preserved c =
    let more = numbers_at c.args.ranges.now c.loop-range.range-index (omega (arith, c.loop-range-test.true)) in
    record {
      counted = omega (arith, more, c.loop-range.invariant.counted);
      all = (all_at c.args.ranges.now c.loop-range.range-index (omega (arith, c.loop-range-test.true)) c.loop-range.invariant.all).1;
    }
