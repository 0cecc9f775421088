use Rattle.std.proofs.Common.{◌≡◌, ◌++◌, drop, length, min, sym, subst, ap, ◌∙◌, append_assoc, arith, rules}
use Rattle.std.specs.Prelude.{nat_le}
use Rattle.std.specs.List.{flat_map}
use Rattle.std.proofs.lemmas.Result.{on_ok_weaker}
use Rattle.sb_laws.proofs.Positions.{ap_both}
use Rattle.sb_feed.specs.Jobs.{AreValid, meant}
use Rattle.sb_feed.specs.Stands.{keyed_values}
use Rattle.sb_feed.proofs.PartSums.{keyed_filter}
use Rattle.sb_job.specs.Sums.{HasKeySums}
use Rattle.sb_online.specs.Onlines.{tables_parts, parts_of, parts_from, kept_by}
use Rattle.sb_online.proofs.Tabled.{keyed_left, keyed_right, tables_from, values_from}
use Rattle.sb_online.proofs.Changed.{fewer}
use Rattle.sb_online.proofs.online.Online.add_to.Goals as goal

pub add_tables-requires-clause-tables : goal.add_tables-requires-clause-tables
add_tables-requires-clause-tables g c =
    let d = meant g.F.M.Semigroup.valid g.F.M.Semigroup.add (g.F.Family.monoids c.args.family.now) in
    let h = c.self.inside in
    let from = c.args.from in
    let kept : AreValid d (keyed_values (tables_parts 0 h.tables.items ++ h.waiting.items)) = subst (λ held. AreValid d (kept_by held)) (sym c.self.view_is) c.requires.kept in
    let count : c.len.result ≡ length h.tables.items = search rules in
    let is : c.drop_first.new.list.items ≡ drop from h.tables.items = c.drop_first.ensures ∙ (ap (λ n. drop n h.tables.items) (c.min-below.ensures ∙ ap (min from) count) ∙ fewer from h.tables.items) in
    rw is (subst (AreValid d) (tables_from d from 0 from h.tables.items (omega arith)) (keyed_filter d (λ part. nat_le from part.batch) (tables_parts 0 h.tables.items) (keyed_left d (tables_parts 0 h.tables.items) h.waiting.items kept)))

pub add_parts-requires-clause-parts : goal.add_parts-requires-clause-parts
add_parts-requires-clause-parts g c =
    let d = meant g.F.M.Semigroup.valid g.F.M.Semigroup.add (g.F.Family.monoids c.args.family.now) in
    let h = c.self.inside in
    let kept : AreValid d (keyed_values (tables_parts 0 h.tables.items ++ h.waiting.items)) = subst (λ held. AreValid d (kept_by held)) (sym c.self.view_is) c.requires.kept in
    rw c.keep_from.ensures (keyed_filter d (λ part. nat_le c.args.from part.batch) h.waiting.items (keyed_right d (tables_parts 0 h.tables.items) h.waiting.items kept))

pub returns-clause-sums : goal.returns-clause-sums
returns-clause-sums g c =
    let d = meant g.F.M.Semigroup.valid g.F.M.Semigroup.add (g.F.Family.monoids c.args.family.now) in
    let h = c.self.inside in
    let from = c.args.from in
    let new = c.add_parts.new.self in
    let count : c.len.result ≡ length h.tables.items = search rules in
    let is : c.drop_first.new.list.items ≡ drop from h.tables.items = c.drop_first.ensures ∙ (ap (λ n. drop n h.tables.items) (c.min-below.ensures ∙ ap (min from) count) ∙ fewer from h.tables.items) in
    on_ok_weaker c.add_parts.result (λ added values has.
    subst (λ held. HasKeySums d (values ++ keyed_values (parts_from from (parts_of held))) new) c.self.view_is
    (subst (λ l. HasKeySums d l new)
    (append_assoc values (flat_map (λ table. table) c.drop_first.new.list.items) (keyed_values c.keep_from.new.parts.items)
    ∙ ap (λ l. values ++ l) (ap_both (λ l m. flat_map (λ table. table) l ++ keyed_values m) is c.keep_from.ensures ∙ sym (values_from d from h.tables.items h.waiting.items)))
    (added (values ++ flat_map (λ table. table) c.drop_first.new.list.items) (c.in_ok-add_tables.ensures.sums values has)))) c.add_parts.ensures.sums
