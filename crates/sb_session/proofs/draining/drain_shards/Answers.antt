use Rattle.std.proofs.Common.{◌≡◌, ◌∙◌, ◌++◌, ◌∷◌, [], length, refl, sym, ap, subst, append_assoc, arith}
use Rattle.std.specs.Vec.Iter.{into_iter_items}
use Rattle.std.proofs.lemmas.List.{length-append}
use Rattle.std.proofs.lemmas.Result.{IfOk-weaker}
use Rattle.sb_feed.specs.Jobs.{AreValid, meant}
use Rattle.sb_feed.proofs.Meant.{stores_commute}
use Rattle.sb_job.proofs.Shards.{all_yielded}
use Rattle.sb_shard.proofs.Outcomes.{if_both}
use Rattle.sb_shard.specs.Shards.{published_to, cover_of}
use Rattle.sb_session.specs.Sessions.{job_by}
use Rattle.sb_session.proofs.Merged.{AreMerged, none_merged, merge_more, whole_folds, merged_rows, only_rows}
use Rattle.sb_session.proofs.Places.{one_there, next_there}
use Rattle.sb_session.proofs.draining.drain_shards.Goals as goal

pub drain_only-requires-clause-kept : goal.drain_only-requires-clause-kept
drain_only-requires-clause-kept g c = λ place shard there. (c.requires.shards place shard there).stands.valid

pub returns-then-shards-eq1 : goal.returns-then-shards-eq1
returns-then-shards-eq1 g c =
    let V = g.F.M.Semigroup.valid in
    let A = g.F.M.Semigroup.add in
    let monoids = g.F.Family.monoids c.args.feed.now in
    let records = g.F.Feed.records c.args.feed.now in
    let commute = stores_commute V A (λ m. record {
      semigroup = record { keeps_valid = g.met.F.M.Semigroup.keeps_valid m; associates = g.met.F.M.Semigroup.associates m };
      commutes = g.met.F.M.Commuting.commutes m;
    }) monoids in
    let cut = c.args.cut.now in
    let one : cut.shards ≡ 1 = omega (arith, c.if-shards-eq1.true, c.shards.ensures.number) in
    let first = one_there c.args.shards.items (c.requires.number ∙ one) in
    let whole = c.requires.shards 0 first.0 first.1 in
    IfOk-weaker c.drain_only.result _ _ (λ rows drains.
    only_rows V A monoids records cut (published_to first.0) (cover_of first.0) rows one c.requires.chunk c.requires.length c.requires.log whole.cover
    (drains first.0 first.1 (job_by monoids records cut) 0 refl (record { commute = commute; records = c.requires.log }) whole.stands)) c.drain_only.ensures

pub loop-shard-init : goal.loop-shard-init
loop-shard-init g c = record {
  merged = none_merged g.F.M.Semigroup.valid g.F.M.Semigroup.add (g.F.Family.monoids c.args.feed.now) (g.F.Feed.records c.args.feed.now) c.args.cut.now c.new-all.result c.new-all.ensures;
  valid = subst (AreValid (meant g.F.M.Semigroup.valid g.F.M.Semigroup.add (g.F.Family.monoids c.args.feed.now))) (sym c.new-all.ensures) tt;
  split = c.into_iter-shard-iterator.ensures.into_iter_gives.0;
}

pub into_sums-requires : goal.into_sums-requires
into_sums-requires g c =
    let V = g.F.M.Semigroup.valid in
    let A = g.F.M.Semigroup.add in
    let monoids = g.F.Family.monoids c.args.feed.now in
    let records = g.F.Feed.records c.args.feed.now in
    let shard = c.in-Some.shard in
    let cut = c.args.cut.now in
    let job = job_by monoids records cut in
    let there = next_there c.loop-shard.yielded shard (into_iter_items c.next.new.self) c.args.shards.items (ap (λ l. c.loop-shard.yielded ++ l) (sym c.in-Some.ensures.steps.0) ∙ c.loop-shard.invariant.split) in
    let whole = c.requires.shards (length c.loop-shard.yielded) shard there in
    record { kept = whole.stands.valid }

pub add_sums-requires-clause-more : goal.add_sums-requires-clause-more
add_sums-requires-clause-more g c =
    let V = g.F.M.Semigroup.valid in
    let A = g.F.M.Semigroup.add in
    let monoids = g.F.Family.monoids c.args.feed.now in
    let records = g.F.Feed.records c.args.feed.now in
    let commute = stores_commute V A (λ m. record {
      semigroup = record { keeps_valid = g.met.F.M.Semigroup.keeps_valid m; associates = g.met.F.M.Semigroup.associates m };
      commutes = g.met.F.M.Commuting.commutes m;
    }) monoids in
    let shard = c.in-Some.shard in
    let cut = c.args.cut.now in
    let job = job_by monoids records cut in
    let there = next_there c.loop-shard.yielded shard (into_iter_items c.next.new.self) c.args.shards.items (ap (λ l. c.loop-shard.yielded ++ l) (sym c.in-Some.ensures.steps.0) ∙ c.loop-shard.invariant.split) in
    let whole = c.requires.shards (length c.loop-shard.yielded) shard there in
    let drained = c.in_ok-sums.ensures job (length c.loop-shard.yielded) refl (record { commute = commute; records = c.requires.log }) whole.stands in
    drained.elements

pub loop-shard-preserved : goal.loop-shard-preserved
loop-shard-preserved g c =
    let V = g.F.M.Semigroup.valid in
    let A = g.F.M.Semigroup.add in
    let monoids = g.F.Family.monoids c.args.feed.now in
    let records = g.F.Feed.records c.args.feed.now in
    let commute = stores_commute V A (λ m. record {
      semigroup = record { keeps_valid = g.met.F.M.Semigroup.keeps_valid m; associates = g.met.F.M.Semigroup.associates m };
      commutes = g.met.F.M.Commuting.commutes m;
    }) monoids in
    let shard = c.in-Some.shard in
    let cut = c.args.cut.now in
    let job = job_by monoids records cut in
    let there = next_there c.loop-shard.yielded shard (into_iter_items c.next.new.self) c.args.shards.items (ap (λ l. c.loop-shard.yielded ++ l) (sym c.in-Some.ensures.steps.0) ∙ c.loop-shard.invariant.split) in
    let whole = c.requires.shards (length c.loop-shard.yielded) shard there in
    let drained = c.in_ok-sums.ensures job (length c.loop-shard.yielded) refl (record { commute = commute; records = c.requires.log }) whole.stands in
    record {
      merged = subst (λ n. AreMerged V A monoids records cut n c.add_sums.new.self) (sym (length-append c.loop-shard.yielded (shard ∷ [])))
          (merge_more V A monoids records cut (length c.loop-shard.yielded) c.loop-shard.all c.in_ok-sums.sums c.add_sums.new.self c.loop-shard.invariant.merged c.in_ok-add_sums.ensures.sums c.in_ok-add_sums.ensures.apart
          (whole_folds V A monoids records cut (length c.loop-shard.yielded) (published_to shard) (cover_of shard) c.in_ok-sums.sums c.requires.chunk c.requires.length c.requires.log whole.cover drained));
      valid = c.in_ok-add_sums.ensures.valid;
      split = append_assoc c.loop-shard.yielded (shard ∷ []) (into_iter_items c.next.new.self) ∙ (ap (λ l. c.loop-shard.yielded ++ l) (sym c.in-Some.ensures.steps.0) ∙ c.loop-shard.invariant.split);
    }

pub returns : goal.returns
returns g c =
    let V = g.F.M.Semigroup.valid in
    let A = g.F.M.Semigroup.add in
    let monoids = g.F.Family.monoids c.args.feed.now in
    let records = g.F.Feed.records c.args.feed.now in
    let all : c.loop-shard.yielded ≡ c.args.shards.items = all_yielded c.loop-shard.yielded (into_iter_items c.loop-shard.shard-iterator) c.args.shards.items (omega (arith, c.in-None.ensures.steps.0, c.loop-shard.shard-iterator.rest.ok)) c.loop-shard.invariant.split in
    if_both c.into_rows.result c.into_rows.ensures.same c.into_rows.ensures.found (λ rows same found.
    merged_rows V A monoids records c.args.cut.now (length c.loop-shard.yielded) c.loop-shard.all rows c.loop-shard.invariant.merged (omega (arith, ap length all, c.requires.number)) (omega (arith, c.shards.ensures.number, c.shards.ensures.limits.0)) c.loop-shard.invariant.valid same found)
