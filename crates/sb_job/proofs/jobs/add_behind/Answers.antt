use Rattle.std.proofs.Common.{subst}
use Rattle.std.specs.Result.{IfOk}
use Rattle.sb_feed.specs.Jobs.{meant}
use Rattle.sb_job.specs.Sums.{AreKeySums}
use Rattle.sb_job.proofs.jobs.add_behind.Goals as goal

pub returns-in-Ok : goal.returns-in-Ok
returns-in-Ok g c = λ values later valid valid_later of_first of_second.
    let d = meant g.F.M.Semigroup.valid g.F.M.Semigroup.add (g.F.Family.monoids c.args.family.now) in
    let first = subst (λ r. IfOk r (AreKeySums d values)) c.in_ok-sums.was of_first in
    let second = subst (λ r. IfOk r (AreKeySums d later)) c.in_ok-more.was of_second in
    record { valid = c.in-Ok.ensures.valid; sums = c.in-Ok.ensures.behind values later valid valid_later first.sums second.sums }
