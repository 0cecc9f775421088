use Rattle.std.proofs.Common.{◌||◌, ap, ◌∙◌}
use Rattle.std.specs.List.{list_any}
use Rattle.sb_feed.specs.Keys.{same_key}
use Rattle.sb_job.proofs.KeySets.{any_key}
use Rattle.sb_job.proofs.key_sums.KeySums.put_keys.Goals as goal

pub loop-key-init : goal.loop-key-init
loop-key-init g c q =
    ap (λ t. list_any (same_key q) c.args.keys.now || t)
    (ap (list_any (same_key q)) (c.into_iter-key-iterator.ensures.into_iter_gives ∙ c.keys-key-items.ensures.rest)
    ∙ (any_key q c.self.inside.sums.entries ∙ ap (list_any (λ row. same_key q row.0)) c.self.view_is))
