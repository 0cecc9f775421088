use Rattle.std.proofs.Common.{◌≡◌, ◌∙◌, ◌++◌, ◌∷◌, [], true, map, sym, ap, subst, append_assoc, arith}
use Rattle.std.specs.FinMap.{is_sorted}
use Rattle.std.specs.List.{range_with_len}
use Rattle.std.proofs.lemmas.Result.{IfOk-weaker}
use Rattle.std.specs.Vec.Iter.{into_iter_items}
use Rattle.sb_feed.specs.Keys.{key_order}
use Rattle.sb_job.specs.Batches.{rows_in}
use Rattle.sb_job.proofs.Shards.{all_yielded, no_items, shard_more, lists_count, lists_rise, lists_are}
use Rattle.sb_job.proofs.splitting.divide_rows.Goals as goal

pub loop-row-init : goal.loop-row-init
loop-row-init g c = record {
  lists = no_items (λ row. row.0) c.args.cut.now.shards c.shards.result _ c.shards.ensures.number c.in_ok-lists.ensures;
  split = c.into_iter-row-iterator.ensures.into_iter_gives.0 ∙ c.into_vec-row-items.ensures.rows;
}

pub push_row-requires : goal.push_row-requires
push_row-requires g c = lists_count (λ row. row.0) c.args.cut.now.shards c.loop-row.yielded c.loop-row.lists.items c.loop-row.invariant.lists

pub loop-row-preserved : goal.loop-row-preserved
loop-row-preserved g c = record {
  lists = shard_more (λ row. row.0) c.args.cut.now.shards c.loop-row.yielded _ _ _ c.loop-row.invariant.lists c.in_ok-push_row.ensures;
  split = append_assoc c.loop-row.yielded (c.in-Some.row ∷ []) (into_iter_items c.next.new.self) ∙ (ap (λ l. c.loop-row.yielded ++ l) (sym c.in-Some.ensures.steps.0) ∙ c.loop-row.invariant.split);
}

pub rows_of-requires : goal.rows_of-requires
rows_of-requires g c =
    let all : c.loop-row.yielded ≡ c.args.rows.rows = all_yielded c.loop-row.yielded (into_iter_items c.loop-row.row-iterator) c.args.rows.rows (omega (arith, c.in-None.ensures.steps.0, c.loop-row.row-iterator.rest.ok)) c.loop-row.invariant.split in
    let rising : is_sorted key_order c.args.rows.rows ≡ true = subst (λ rows. is_sorted key_order rows ≡ true) c.into_vec-row-items.ensures.rows c.into_vec-row-items.ensures.rising in
    lists_rise c.args.cut.now.shards c.args.rows.rows c.loop-row.lists.items rising
    (c.loop-row.invariant.lists ∙ ap (λ rows. map (rows_in c.args.cut.now.shards rows) (range_with_len 0 c.args.cut.now.shards)) all)

pub returns : goal.returns
returns g c =
    let all : c.loop-row.yielded ≡ c.args.rows.rows = all_yielded c.loop-row.yielded (into_iter_items c.loop-row.row-iterator) c.args.rows.rows (omega (arith, c.in-None.ensures.steps.0, c.loop-row.row-iterator.rest.ok)) c.loop-row.invariant.split in
    IfOk-weaker c.rows_of.result _ _ (λ split e. lists_are c.args.cut.now.shards c.args.rows c.loop-row.lists.items split.items
    (c.loop-row.invariant.lists ∙ ap (λ rows. map (rows_in c.args.cut.now.shards rows) (range_with_len 0 c.args.cut.now.shards)) all) e) c.rows_of.ensures
