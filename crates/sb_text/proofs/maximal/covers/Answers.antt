use Rattle.std.proofs.Common.{◌≡◌, ◌∙◌, ◌&&◌, true, false, length, leb, ltb, sym, ap, arith}
use Rattle.std.proofs.lemmas.Bool.Decides.{nat_tests}
use Rattle.sb_text.specs.MaximalRanges.{first_at}
use Rattle.sb_text.proofs.RangeEdits.{covered_here}
use Rattle.sb_text.proofs.maximal.covers.Goals as goal

pub returns-then-at-ranges : goal.returns-then-at-ranges
returns-then-at-ranges c =
    let e = c.count_before-at.ensures in
    let on : ltb c.count_before-at.result (length c.args.ranges.now) ≡ true = grind (arith, nat_tests, c.if-at-ranges.true) in
    sym (covered_here c.args.number 0 c.args.ranges.now c.count_before-at.result c.requires e.bound e.before e.after ∙ ap (λ b. b && leb (first_at c.args.ranges.now c.count_before-at.result) c.args.number) on)

pub returns-else-at-ranges : goal.returns-else-at-ranges
returns-else-at-ranges c =
    let e = c.count_before-at.ensures in
    let off : ltb c.count_before-at.result (length c.args.ranges.now) ≡ false = grind (arith, nat_tests, c.if-at-ranges.false) in
    off ∙ sym (covered_here c.args.number 0 c.args.ranges.now c.count_before-at.result c.requires e.bound e.before e.after ∙ ap (λ b. b && leb (first_at c.args.ranges.now c.count_before-at.result) c.args.number) off)
