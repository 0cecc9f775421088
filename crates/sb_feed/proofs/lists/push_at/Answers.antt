use Rattle.std.proofs.Common.{refl}
use Rattle.std.proofs.lemmas.Option.{slice_get_read}
use Rattle.sb_feed.proofs.Indexed.{on_err_of, set_same, set_more}
use Rattle.sb_feed.proofs.lists.push_at.Goals as goal

pub returns-in_err-push-clause-err : goal.returns-in_err-push-clause-err
returns-in_err-push-clause-err g c =
    on_err_of c.from_residual.result (set_same c.args.lists.now.items c.args.at c.index_mut-list.result.now c.push.new.self
    (slice_get_read c.args.lists.now.items _ c.args.at _ refl c.requires c.index_mut-list.ensures.value) c.in_err-push.ensures.items)

pub returns-clause-ok : goal.returns-clause-ok
returns-clause-ok g c =
    set_more c.args.lists.now.items c.args.at c.index_mut-list.result.now c.push.new.self c.args.item
    (slice_get_read c.args.lists.now.items _ c.args.at _ refl c.requires c.index_mut-list.ensures.value) c.in_ok-push.ensures.items
