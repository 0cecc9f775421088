use Rattle.std.proofs.Common.{◌∙◌, sym, subst}
use Rattle.std.proofs.lemmas.Result.{IfOk-weaker}
use Rattle.sb_shard.specs.Asks.{Drains}
use Rattle.sb_session.proofs.Places.{last_first, same_some}
use Rattle.sb_session.proofs.draining.drain_only.Goals as goal

pub into_rows-requires : goal.into_rows-requires
into_rows-requires g c = record { kept = c.requires.kept 0 c.in-Some.shard (last_first c.args.shards.items _ c.in-Some.shard c.requires.one c.in-Some.ensures.items) }

pub returns-in-Some : goal.returns-in-Some
returns-in-Some g c =
    IfOk-weaker c.into_rows.result _ _ (λ rows drains shard there.
    subst (λ s. Drains g.F.M.Semigroup.valid g.F.M.Semigroup.add (g.F.Family.monoids c.args.feed.now) s rows) (same_some _ _ (sym (last_first c.args.shards.items _ c.in-Some.shard c.requires.one c.in-Some.ensures.items) ∙ there)) drains) c.into_rows.ensures
