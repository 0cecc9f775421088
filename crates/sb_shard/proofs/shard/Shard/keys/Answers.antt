use Rattle.std.proofs.Common.{◌≡◌, ◌||◌, ◌&&◌, ap, subst, ◌∙◌, rules}
use Rattle.std.specs.Prelude.{nat_le}
use Rattle.std.specs.List.{list_any}
use Rattle.std.proofs.lemmas.Result.{IfOk-weaker}
use Rattle.sb_feed.specs.Keys.{same_key}
use Rattle.sb_offline.specs.Offlines as offline
use Rattle.sb_online.specs.Onlines.{parts_of}
use Rattle.sb_shard.specs.Shards.{shard_sums}
use Rattle.sb_shard.specs.Asks.{HasKeys}
use Rattle.sb_shard.proofs.HeldKeys.{held_keys}
use Rattle.sb_shard.proofs.shard.Shard.keys.Goals as goal

pub returns : goal.returns
returns g c =
    let h = c.self.inside in
    let count : c.published.result ≡ offline.published_to h.offline = search rules in
    IfOk-weaker c.into_keys.result _ _ (λ list made add.
    subst (λ held. HasKeys (shard_sums add held) list.items) c.self.view_is
    (held_keys (record { offline = h.offline; online = h.online }) c.new-keys.result c.put_keys.new.keys c.put_keys-2.new.keys list.items made.1 c.new-keys.ensures made.0 c.in_ok-put_keys.ensures
    (λ q. c.in_ok-put_keys-2.ensures q ∙ ap (λ n. list_any (same_key q) c.put_keys.new.keys || list_any (λ part. same_key q part.key && nat_le n part.batch) (parts_of h.online)) count) add)) c.into_keys.ensures
