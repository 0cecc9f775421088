use Rattle.std.proofs.Common.{◌++◌, ◌∷◌, [], ap, sym, subst, ◌∙◌, append_assoc, append-nil}
use Rattle.std.specs.List.{flat_map}
use Rattle.std.proofs.lemmas.Grind.{flat_map-append}
use Rattle.sb_laws.proofs.Sums.{valid_left, valid_right}
use Rattle.sb_feed.specs.Jobs.{AreValid, meant}
use Rattle.sb_job.specs.Sums.{HasKeySums}
use Rattle.sb_online.proofs.tables.add_tables.Goals as goal

pub add_sums-requires-clause-more : goal.add_sums-requires-clause-more
add_sums-requires-clause-more g c =
    let d = meant g.F.M.Semigroup.valid g.F.M.Semigroup.add (g.F.Family.monoids c.args.family.now) in
    valid_left _ c.in-Some.table _ (subst (λ lists. AreValid d (flat_map (λ table. table) lists)) c.in-Some.ensures.steps.0 c.loop-table.invariant.later)

pub loop-table-preserved : goal.loop-table-preserved
loop-table-preserved g c =
    let d = meant g.F.M.Semigroup.valid g.F.M.Semigroup.add (g.F.Family.monoids c.args.family.now) in
    let table = c.in-Some.table in
    let before = c.loop-table.yielded in
    record {
      valid = c.in_ok-add_sums.ensures.valid;
      later = valid_right _ table _ (subst (λ lists. AreValid d (flat_map (λ table. table) lists)) c.in-Some.ensures.steps.0 c.loop-table.invariant.later);
      sums = λ values has.
          subst (λ l. HasKeySums d l c.add_sums.new.self)
          (append_assoc values (flat_map (λ table. table) before) table ∙ ap (λ l. values ++ l) (sym (flat_map-append (λ table. table) before (table ∷ []) ∙ ap (λ l. flat_map (λ table. table) before ++ l) (append-nil table))))
          (c.in_ok-add_sums.ensures.sums (values ++ flat_map (λ table. table) before) (c.loop-table.invariant.sums values has));
    }
