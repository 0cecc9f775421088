use Rattle.std.proofs.Common.{◌∙◌, ap}
use Rattle.std.specs.FinMap.{find}
use Rattle.sb_feed.specs.Keys.{key_order}
use Rattle.sb_job.proofs.Sorting.{rising, same_sums}
use Rattle.sb_job.proofs.key_sums.KeySums.into_rows.Goals as goal

pub from_vec-requires : goal.from_vec-requires
from_vec-requires g c = rising _ _ c.in_ok-rows.ensures.apart (rw c.in_ok-rows.ensures.entries at c.sort_rows.ensures.same) c.sort_rows.ensures.sorted

pub returns-clause-found : goal.returns-clause-found
returns-clause-found g c =
    rw c.from_vec.ensures (λ q. same_sums _ _ c.in_ok-rows.ensures.apart (rw c.in_ok-rows.ensures.entries at c.sort_rows.ensures.same) q ∙ ap (find key_order q) c.self.view_is)
