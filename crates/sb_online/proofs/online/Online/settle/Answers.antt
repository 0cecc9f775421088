use Rattle.std.proofs.Common.{◌≡◌, ◌++◌, drop, sym, subst, ap, ◌∙◌}
use Rattle.sb_feed.specs.Jobs.{AreValid, meant}
use Rattle.sb_feed.specs.Stands.{keyed_values, sum_at}
use Rattle.sb_feed.proofs.PartSums.{keyed_append}
use Rattle.sb_online.specs.Onlines.{tables_parts, online_sum, kept_by}
use Rattle.sb_online.proofs.Tabled.{keyed_left, keyed_right}
use Rattle.sb_online.proofs.Changed.{keyed_drop}
use Rattle.sb_online.proofs.online.Online.settle.Goals as goal

pub add_copies-added-requires-clause-parts : goal.add_copies-added-requires-clause-parts
add_copies-added-requires-clause-parts g c =
    let d = meant g.F.M.Semigroup.valid g.F.M.Semigroup.add (g.F.Family.monoids c.args.family.now) in
    let h = c.self.inside in
    let kept : AreValid d (keyed_values (tables_parts 0 h.tables.items ++ h.waiting.items)) = subst (λ held. AreValid d (kept_by held)) (sym c.self.view_is) c.requires.kept in
    rw c.as_slice.ensures.value (keyed_right d (tables_parts 0 h.tables.items) h.waiting.items kept)

pub add_copies-added-requires-clause-tables : goal.add_copies-added-requires-clause-tables
add_copies-added-requires-clause-tables g c =
    let d = meant g.F.M.Semigroup.valid g.F.M.Semigroup.add (g.F.Family.monoids c.args.family.now) in
    let h = c.self.inside in
    let kept : AreValid d (keyed_values (tables_parts 0 h.tables.items ++ h.waiting.items)) = subst (λ held. AreValid d (kept_by held)) (sym c.self.view_is) c.requires.kept in
    keyed_left d (tables_parts 0 h.tables.items) h.waiting.items kept

pub returns-clause-sums : goal.returns-clause-sums
returns-clause-sums g c key j =
    let d = meant g.F.M.Semigroup.valid g.F.M.Semigroup.add (g.F.Family.monoids c.args.family.now) in
    let h = c.self.inside in
    let new = c.add_copies-added.new.tables.items in
    let n = c.add_copies-added.result in
    ap (λ w. sum_at d.add key j (tables_parts 0 new ++ w)) c.drop_first.ensures
    ∙ (subst (λ w. sum_at d.add key j (tables_parts 0 new ++ drop n w) ≡ sum_at d.add key j (tables_parts 0 h.tables.items ++ w)) c.as_slice.ensures.value (c.add_copies-added.ensures.sums key j)
    ∙ ap (λ held. online_sum d.add held key j) c.self.view_is)

pub returns-clause-valid : goal.returns-clause-valid
returns-clause-valid g c =
    let d = meant g.F.M.Semigroup.valid g.F.M.Semigroup.add (g.F.Family.monoids c.args.family.now) in
    let h = c.self.inside in
    let kept : AreValid d (keyed_values (tables_parts 0 h.tables.items ++ h.waiting.items)) = subst (λ held. AreValid d (kept_by held)) (sym c.self.view_is) c.requires.kept in
    keyed_append d (tables_parts 0 c.add_copies-added.new.tables.items) c.drop_first.new.list.items c.add_copies-added.ensures.valid
    (subst (λ l. AreValid d (keyed_values l)) (sym c.drop_first.ensures) (keyed_drop d c.add_copies-added.result h.waiting.items (keyed_right d (tables_parts 0 h.tables.items) h.waiting.items kept)))
