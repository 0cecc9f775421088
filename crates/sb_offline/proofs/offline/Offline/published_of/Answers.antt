use Rattle.std.proofs.Common.{◌≡◌, ◌+◌, drop, take, sym, subst, ap, ◌∙◌}
use Rattle.std.specs.Prelude.{IsTrue}
use Rattle.std.specs.Ordering.{nat_cmp}
use Rattle.std.specs.FinMap.{is_sorted}
use Rattle.sb_laws.proofs.Tables.{is_true}
use Rattle.sb_feed.specs.Jobs.{AreValid, meant}
use Rattle.sb_feed.specs.Stands.{HasSums}
use Rattle.sb_job.specs.ByBatch.{rows_from}
use Rattle.sb_job.proofs.Listed.{rows_rise}
use Rattle.sb_offline.specs.Offlines.{kept_by, published_sum}
use Rattle.sb_offline.proofs.Settled.{published_has}
use Rattle.sb_offline.proofs.offline.Offline.published_of.Goals as goal

pub from_vec-requires : goal.from_vec-requires
from_vec-requires g c = subst (λ sums. IsTrue (is_sorted nat_cmp sums)) (sym c.in_ok-sums.ensures) (is_true _ (rows_rise c.args.key.now c.self.inside.floor (drop c.self.inside.floor c.up_to-lists.result.now)))

pub returns-clause-sums : goal.returns-clause-sums
returns-clause-sums g c =
    let d = meant g.F.M.Semigroup.valid g.F.M.Semigroup.add (g.F.Family.monoids c.args.family.now) in
    let key = c.args.key.now in
    let h = c.self.inside in
    let made : c.from_vec.result ≡ rows_from key h.floor (drop h.floor (take (c.args.upto + 1) h.rows.items)) =
    c.from_vec.ensures ∙ (c.in_ok-sums.ensures ∙ ap (λ l. rows_from key h.floor (drop h.floor l)) (c.up_to-lists.ensures ∙ ap (take (c.args.upto + 1)) c.as_slice.ensures.value)) in
    subst (λ held. HasSums (d.valid key.store) c.args.upto (published_sum held key) c.from_vec.result) c.self.view_is
    (published_has d key (record { base = h.base; waiting = h.waiting.items; rows = h.rows.items; floor = h.floor }) c.args.upto c.from_vec.result c.self.invariant
    (subst (λ held. AreValid d (kept_by held)) (sym c.self.view_is) c.requires.kept) made)
