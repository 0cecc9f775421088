use Rattle.std.proofs.Common.{ap, ◌∙◌}
use Rattle.std.specs.FinMap.{find}
use Rattle.sb_feed.specs.Keys.{key_order}
use Rattle.sb_job.proofs.Growing.{lookup_is_find, lent_is}
use Rattle.sb_job.proofs.key_sums.KeySums.get.Goals as goal

pub returns : goal.returns
returns g c =
    let key = c.args.key.now in
    lent_is c.get.result _ (c.get.ensures.value ∙ (lookup_is_find key c.self.inside.sums.entries ∙ ap (find key_order key) c.self.view_is))
