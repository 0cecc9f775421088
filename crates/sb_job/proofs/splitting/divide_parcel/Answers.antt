use Rattle.std.proofs.Common.{◌≡◌, ◌∙◌, ◌++◌, ◌∷◌, [], map, sym, ap, append_assoc, arith}
use Rattle.std.specs.List.{range_with_len}
use Rattle.std.proofs.lemmas.Result.{IfOk-weaker}
use Rattle.std.specs.Vec.Iter.{into_iter_items}
use Rattle.sb_job.specs.Parcels.{parts_in}
use Rattle.sb_job.proofs.Shards.{all_yielded, no_items, shard_more, lists_count, parcels_are}
use Rattle.sb_job.proofs.splitting.divide_parcel.Goals as goal

pub loop-part-init : goal.loop-part-init
loop-part-init g c = record {
  lists = no_items (λ part. part.key) c.args.cut.now.shards c.shards.result _ c.shards.ensures.number c.in_ok-lists.ensures;
  split = c.into_iter-part-iterator.ensures.into_iter_gives.0 ∙ c.into_vec-part-items.ensures;
}

pub push_part-requires : goal.push_part-requires
push_part-requires g c = lists_count (λ part. part.key) c.args.cut.now.shards c.loop-part.yielded c.loop-part.lists.items c.loop-part.invariant.lists

pub loop-part-preserved : goal.loop-part-preserved
loop-part-preserved g c = record {
  lists = shard_more (λ part. part.key) c.args.cut.now.shards c.loop-part.yielded _ _ _ c.loop-part.invariant.lists c.in_ok-push_part.ensures;
  split = append_assoc c.loop-part.yielded (c.in-Some.part ∷ []) (into_iter_items c.next.new.self) ∙ (ap (λ l. c.loop-part.yielded ++ l) (sym c.in-Some.ensures.steps.0) ∙ c.loop-part.invariant.split);
}

pub returns : goal.returns
returns g c =
    let all : c.loop-part.yielded ≡ c.args.parcel.parts = all_yielded c.loop-part.yielded (into_iter_items c.loop-part.part-iterator) c.args.parcel.parts (omega (arith, c.in-None.ensures.steps.0, c.loop-part.part-iterator.rest.ok)) c.loop-part.invariant.split in
    IfOk-weaker c.parcels_of.result _ _ (λ split e. parcels_are c.args.cut.now.shards c.args.parcel c.loop-part.lists.items split.items
    (c.loop-part.invariant.lists ∙ ap (λ parts. map (parts_in c.args.cut.now.shards parts) (range_with_len 0 c.args.cut.now.shards)) all) e) c.parcels_of.ensures
