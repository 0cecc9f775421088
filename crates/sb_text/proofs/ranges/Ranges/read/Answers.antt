use Rattle.std.proofs.Common.{◌≡◌, ◌∙◌, Some, None, ap}
use Rattle.sb_text.specs.Ranges.{ranges_of}
use Rattle.sb_text.specs.RangesRead.{ranges_read}
use Rattle.sb_text.proofs.RangeNumbers.{numbers-ranges}
use Rattle.sb_text.proofs.RangeReads.{read_maximal, read_spelled, read_every}
use Rattle.sb_text.proofs.ranges.Ranges.read.Goals as goal

pub invariant_of-result : goal.invariant_of-result
invariant_of-result c =
    let reads : Some c.in-Some.ranges.items ≡ ranges_read c.args.bytes.now = rw c.in-Some.is at c.in_ok-ranges.ensures in
    read_maximal c.args.bytes.now c.in-Some.ranges.items reads

pub returns-in-Some-clause-spelled : goal.returns-in-Some-clause-spelled
returns-in-Some-clause-spelled c =
    let reads : Some c.in-Some.ranges.items ≡ ranges_read c.args.bytes.now = rw c.in-Some.is at c.in_ok-ranges.ensures in
    read_spelled c.args.bytes.now c.in-Some.ranges.items reads

pub returns-in-Some-clause-every : goal.returns-in-Some-clause-every
returns-in-Some-clause-every c = λ numbers set is.
    let reads : Some c.in-Some.ranges.items ≡ ranges_read c.args.bytes.now = rw c.in-Some.is at c.in_ok-ranges.ensures in
    let same : c.in-Some.ranges.items ≡ ranges_of numbers = let both : Some c.in-Some.ranges.items ≡ Some (ranges_of numbers) = reads ∙ read_every c.args.bytes.now numbers set is in cc in
    rw same (ap Some (numbers-ranges numbers set))

pub returns-in-None-clause-every : goal.returns-in-None-clause-every
returns-in-None-clause-every c = λ numbers set is.
    let reads : None ≡ ranges_read c.args.bytes.now = rw c.in-None.is at c.in_ok-ranges.ensures in
    let no : None ≡ Some (ranges_of numbers) = reads ∙ read_every c.args.bytes.now numbers set is in
    cc
