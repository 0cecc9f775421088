use Rattle.std.proofs.Common.{ap, subst, ◌∙◌, set}
use Rattle.std.proofs.lemmas.Result.{on_ok_weaker}
use Rattle.sb_job.specs.ByBatch.{IsHere, IsGap}
use Rattle.sb_job.proofs.Placing.{added_there, added_between}
use Rattle.sb_job.proofs.by_batch.add_value.Goals as goal

pub returns-in-Ok : goal.returns-in-Ok
returns-in-Ok g c =
    let add = g.M.Semigroup.add c.args.m.now in
    let items = c.args.sums.now.items in
    let row = c.index_mut.result.now in
    let here = subst (λ pairs. IsHere c.args.batch pairs c.in-Ok.at) c.as_slice.ensures.value c.in-Ok.ensures in
    on_ok_weaker c.plus.result (λ e.
    ap (λ sum. set items c.in-Ok.at (row.0, sum)) e
    ∙ (ap (λ pair. set items c.in-Ok.at (pair.0, add pair.1 c.args.value)) c.index_mut.ensures.value
    ∙ added_there add c.args.batch c.args.value items c.in-Ok.at row here.before here.within (here.same row))) c.plus.ensures.ok

pub returns-in_ok-insert-in-Err : goal.returns-in_ok-insert-in-Err
returns-in_ok-insert-in-Err g c =
    let items = c.args.sums.now.items in
    let gap = subst (λ pairs. IsGap c.args.batch pairs c.in-Err.at) c.as_slice.ensures.value c.in-Err.ensures in
    c.in_ok-insert-in-Err.ensures.items ∙ added_between (g.M.Semigroup.add c.args.m.now) c.args.batch c.args.value items c.in-Err.at gap.before gap.after gap.within
