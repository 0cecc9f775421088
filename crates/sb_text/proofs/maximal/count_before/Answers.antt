use Rattle.std.proofs.Common.{length, ◌-◌, ◌<◌, arith}
use Rattle.std.proofs.lemmas.Bool.Decides.{nat_tests}
use Rattle.sb_text.specs.MaximalRanges.{last_at}
use Rattle.sb_text.proofs.RangeEdits.{last_rises}
use Rattle.sb_text.proofs.maximal.count_before.Goals as goal

pub returns-then-ranges-len-clause-before : goal.returns-then-ranges-len-clause-before
returns-then-ranges-len-clause-before c = λ k less.
    let rises = last_rises c.args.ranges.now c.requires k (length c.args.ranges.now - 1) (omega (arith, less)) (omega (arith, less)) in
    let end : last_at c.args.ranges.now (length c.args.ranges.now - 1) < c.args.number = grind (arith, nat_tests, c.if-ranges-len.true) in
    omega (arith, rises, end)

pub returns-then-ranges-len-2-clause-before : goal.returns-then-ranges-len-2-clause-before
returns-then-ranges-len-2-clause-before c = λ k less.
    let rises = last_rises c.args.ranges.now c.requires k (length c.args.ranges.now - 2) (omega (arith, less)) (omega (arith, less)) in
    let end : last_at c.args.ranges.now (length c.args.ranges.now - 2) < c.args.number = grind (arith, nat_tests, c.if-ranges-len-2.true) in
    omega (arith, rises, end)
