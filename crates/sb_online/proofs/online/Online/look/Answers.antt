use Rattle.std.proofs.Common.{◌≡◌, ◌++◌, ◌+◌, take, drop, sym, subst, ap, ◌∙◌}
use Rattle.std.specs.Prelude.{IsTrue}
use Rattle.std.specs.List.{AllByRecursion}
use Rattle.std.specs.Ordering.{nat_cmp}
use Rattle.std.specs.Cmp.{nat_cmp_total}
use Rattle.std.specs.FinMap.{is_sorted}
use Rattle.sb_laws.specs.Tables.{add_all}
use Rattle.sb_laws.proofs.Tables.{is_true, sorted_add_all}
use Rattle.sb_laws.proofs.Positions.{ap_both}
use Rattle.sb_feed.specs.Jobs.{AreValid, meant, valid_by, add_by}
use Rattle.sb_feed.specs.Stands.{keyed_values, HasSums}
use Rattle.sb_feed.proofs.Meant.{stores_add}
use Rattle.sb_job.specs.ByBatch.{asked, rows_from}
use Rattle.sb_job.proofs.Listed.{rows_rise, listed_valid, asked_valid}
use Rattle.sb_online.specs.Onlines.{tables_parts, sum_from, kept_by}
use Rattle.sb_online.proofs.Tabled.{to_tables, flat_tables, keyed_left, keyed_right}
use Rattle.sb_online.proofs.Looked.{online_has}
use Rattle.sb_online.proofs.online.Online.look.Goals as goal

pub gather-requires-clause-tables : goal.gather-requires-clause-tables
gather-requires-clause-tables g c =
    let d = meant g.F.M.Semigroup.valid g.F.M.Semigroup.add (g.F.Family.monoids c.args.family.now) in
    let V = g.F.M.Semigroup.valid in
    let h = c.self.inside in
    let key = c.args.key.now in
    let kept : AreValid d (keyed_values (tables_parts 0 h.tables.items ++ h.waiting.items)) = subst (λ held. AreValid d (kept_by held)) (sym c.self.view_is) c.requires.kept in
    let is : c.up_to-tables.result.now ≡ take (c.args.upto + 1) h.tables.items = c.up_to-tables.ensures ∙ ap (take (c.args.upto + 1)) c.as_slice.ensures.value in
    rw is (subst (λ o. AllByRecursion (λ pair. valid_by V o pair.1) (rows_from key c.args.from (drop c.args.from (take (c.args.upto + 1) h.tables.items)))) c.monoid-m.ensures
    (listed_valid d key c.args.from c.args.upto h.tables.items (flat_tables d h.tables.items (to_tables d 0 h.tables.items (keyed_left d (tables_parts 0 h.tables.items) h.waiting.items kept)))))

pub gather-requires-clause-parts : goal.gather-requires-clause-parts
gather-requires-clause-parts g c =
    let d = meant g.F.M.Semigroup.valid g.F.M.Semigroup.add (g.F.Family.monoids c.args.family.now) in
    let V = g.F.M.Semigroup.valid in
    let h = c.self.inside in
    let key = c.args.key.now in
    let kept : AreValid d (keyed_values (tables_parts 0 h.tables.items ++ h.waiting.items)) = subst (λ held. AreValid d (kept_by held)) (sym c.self.view_is) c.requires.kept in
    rw c.as_slice-waiting.ensures.value (subst (λ o. AllByRecursion (λ pair. valid_by V o pair.1) (asked key c.args.from c.args.upto h.waiting.items)) c.monoid-m.ensures
    (asked_valid key c.args.from c.args.upto h.waiting.items d (keyed_right d (tables_parts 0 h.tables.items) h.waiting.items kept)))

pub from_vec-requires : goal.from_vec-requires
from_vec-requires g c =
    let key = c.args.key.now in
    let lists = drop c.args.from c.up_to-tables.result.now in
    subst (λ sums. IsTrue (is_sorted nat_cmp sums)) (sym c.in_ok-sums.ensures)
    (is_true _ (sorted_add_all nat_cmp nat_cmp_total (g.F.M.Semigroup.add c.monoid-m.result.now) (rows_from key c.args.from lists) (asked key c.args.from c.args.upto c.as_slice-waiting.result.now) (rows_rise key c.args.from lists)))

pub returns-clause-sums : goal.returns-clause-sums
returns-clause-sums g c =
    let d = meant g.F.M.Semigroup.valid g.F.M.Semigroup.add (g.F.Family.monoids c.args.family.now) in
    let V = g.F.M.Semigroup.valid in
    let A = g.F.M.Semigroup.add in
    let h = c.self.inside in
    let key = c.args.key.now in
    let from = c.args.from in
    let upto = c.args.upto in
    let kept : AreValid d (keyed_values (tables_parts 0 h.tables.items ++ h.waiting.items)) = subst (λ held. AreValid d (kept_by held)) (sym c.self.view_is) c.requires.kept in
    let laws = stores_add V A (λ m. record { keeps_valid = g.met.F.M.Semigroup.keeps_valid m; associates = g.met.F.M.Semigroup.associates m }) (g.F.Family.monoids c.args.family.now) key.store c.requires.store in
    let tables : c.up_to-tables.result.now ≡ take (upto + 1) h.tables.items = c.up_to-tables.ensures ∙ ap (take (upto + 1)) c.as_slice.ensures.value in
    let made = subst (λ o. c.from_vec.result ≡ add_all nat_cmp (add_by A o) (rows_from key from (drop from c.up_to-tables.result.now)) (asked key from upto c.as_slice-waiting.result.now)) (sym c.monoid-m.ensures)
    (c.from_vec.ensures ∙ c.in_ok-sums.ensures) in
    subst (λ held. HasSums (d.valid key.store) upto (sum_from d.add held from key) c.from_vec.result) c.self.view_is
    (online_has d key (record { tables = h.tables.items; waiting = h.waiting.items; cover = h.cover }) c.self.invariant from upto c.from_vec.result laws.keeps_valid kept
    (made ∙ ap_both (λ l w. add_all nat_cmp (d.add key.store) (rows_from key from (drop from l)) (asked key from upto w)) tables c.as_slice-waiting.ensures.value))
