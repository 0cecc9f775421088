use Rattle.std.proofs.Common.{◌++◌, ◌∷◌, [], ap, sym, subst, ◌∙◌, append_assoc, append-nil}
use Rattle.std.specs.List.{flat_map}
use Rattle.std.proofs.lemmas.Grind.{flat_map-append}
use Rattle.sb_laws.proofs.Sums.{valid_append, valid_left, valid_right}
use Rattle.sb_feed.specs.Jobs.{AreValid, meant}
use Rattle.sb_job.specs.Sums.{HasKeySums}
use Rattle.sb_offline.proofs.draining.add_lists.Goals as goal

pub add_rows-requires-clause-rows : goal.add_rows-requires-clause-rows
add_rows-requires-clause-rows g c =
    let d = meant g.F.M.Semigroup.valid g.F.M.Semigroup.add (g.F.Family.monoids c.args.family.now) in
    valid_left _ c.in-Some.rows _ (subst (λ lists. AreValid d (flat_map (λ rows. rows) lists)) c.in-Some.ensures.steps.0 c.loop-rows.invariant.later)

pub loop-rows-preserved : goal.loop-rows-preserved
loop-rows-preserved g c =
    let d = meant g.F.M.Semigroup.valid g.F.M.Semigroup.add (g.F.Family.monoids c.args.family.now) in
    let rows = c.in-Some.rows in
    let before = c.loop-rows.yielded in
    record {
      valid = c.add_rows.ensures.valid;
      later = valid_right _ rows _ (subst (λ lists. AreValid d (flat_map (λ rows. rows) lists)) c.in-Some.ensures.steps.0 c.loop-rows.invariant.later);
      sums = λ values has.
          subst (λ l. HasKeySums d l c.add_rows.new.self)
          (append_assoc values (flat_map (λ rows. rows) before) rows ∙ ap (λ l. values ++ l) (sym (flat_map-append (λ rows. rows) before (rows ∷ []) ∙ ap (λ l. flat_map (λ rows. rows) before ++ l) (append-nil rows))))
          (c.in_ok-add_rows.ensures.sums (values ++ flat_map (λ rows. rows) before) (c.loop-rows.invariant.sums values has));
      rising = valid_append _ before (rows ∷ []) c.loop-rows.invariant.rising (c.in_ok-add_rows.ensures.rising, tt);
    }
