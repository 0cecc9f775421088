use Rattle.std.proofs.Common.{ap, ◌∙◌, arith}
use Rattle.sb_laws.proofs.Tables.{truly}
use Rattle.sb_job.proofs.Placing.{all_after, there}
use Rattle.sb_job.proofs.by_batch.place_of.Goals.{else-at-sums-via-then-at-sums+else-sums-at, else-at-sums-via-else-at-sums}
use Rattle.sb_job.proofs.by_batch.place_of.Goals as goal

pub returns-else-at-sums : goal.returns-else-at-sums
returns-else-at-sums g c =
    let sums = c.args.sums.now in
    let at = c.first_from-at.result in
    record {
      within = c.first_from-at.ensures.within;
      before = c.first_from-at.ensures.before;
      after = all_after c.args.batch sums (truly _ c.requires) at c.first_from-at.ensures.after (λ d within same. elim c.else-at-sums.branch [
        | else-at-sums-via-then-at-sums+else-sums-at w ↦ w.if-sums-at.false (ap (λ pair. pair.0) (there sums at w.index-sums-at.result d within) ∙ same)
        | else-at-sums-via-else-at-sums w ↦ absurd (omega (arith, w.if-at-sums.false, within))
      ]);
    }
