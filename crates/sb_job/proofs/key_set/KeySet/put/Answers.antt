use Rattle.std.proofs.Common.{◌≡◌, ◌||◌, sym, subst, ◌∙◌}
use Rattle.std.specs.List.{list_any}
use Rattle.sb_feed.specs.Keys.{same_key}
use Rattle.sb_job.proofs.KeySets.{with_new, with_old}
use Rattle.sb_job.proofs.key_set.KeySet.put.Goals as goal

pub returns-in_ok-insert : goal.returns-in_ok-insert
returns-in_ok-insert c q =
    subst (λ keys. list_any (same_key q) c.insert.new.self.keys ≡ (list_any (same_key q) keys || same_key q c.args.key.now)) c.self.view_is
    (with_new c.self.inside.keys.keys c.insert.new.self.keys c.args.key.now c.in_ok-copy.copy q c.in_ok-copy.ensures (c.in_ok-insert.ensures.updates.0 q))

pub returns-else-not-contains : goal.returns-else-not-contains
returns-else-not-contains c q =
    subst (λ keys. list_any (same_key q) keys ≡ (list_any (same_key q) keys || same_key q c.args.key.now)) c.self.view_is
    (with_old c.self.inside.keys.keys c.args.key.now q (sym c.contains.ensures ∙ c.if-not-contains.false))
