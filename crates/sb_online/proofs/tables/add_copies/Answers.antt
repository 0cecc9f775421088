use Rattle.std.proofs.Common.{◌≡◌, ◌+◌, ◌++◌, ◌∷◌, false, drop, ap, sym, subst, ◌∙◌, arith}
use Rattle.std.specs.Prelude.{is_err}
use Rattle.std.proofs.lemmas.List.{drop_more}
use Rattle.sb_feed.specs.Jobs.{AreValid, meant}
use Rattle.sb_feed.specs.Stands.{keyed_values, sum_at}
use Rattle.sb_online.specs.Onlines.{tables_parts}
use Rattle.sb_online.proofs.Changed.{holds}
use Rattle.sb_online.proofs.tables.add_copies.Goals as goal

pub loop-part-preserved : goal.loop-part-preserved
loop-part-preserved g c =
    let d = meant g.F.M.Semigroup.valid g.F.M.Semigroup.add (g.F.Family.monoids c.args.family.now) in
    let i = c.loop-part.part-index in
    let parts = c.args.parts.now in
    let item = c.part-item.result in
    let ok : is_err c.add_copy.result ≡ false = sym c.is_err.ensures.value ∙ c.if-is_err.false in
    let step : drop i parts ≡ item ∷ drop (i + 1) parts = drop_more parts i item c.loop-part-test.true ∙ ap (λ p. p ∷ drop (i + 1) parts) (sym c.part-item.is) in
    record {
      added = omega (arith, c.loop-part.invariant.added);
      valid = c.add_copy.ensures.valid;
      apart = c.add_copy.ensures.apart;
      later = (subst (λ l. AreValid d (keyed_values l)) step c.loop-part.invariant.later).1;
      sums = λ key j.
          holds c.add_copy.result ok c.add_copy.ensures.ok key j (drop (i + 1) parts)
          ∙ (ap (λ l. sum_at d.add key j (tables_parts 0 c.loop-part.tables.items ++ l)) (sym step) ∙ c.loop-part.invariant.sums key j);
    }

pub add_copy-requires-clause-part : goal.add_copy-requires-clause-part
add_copy-requires-clause-part g c =
    let d = meant g.F.M.Semigroup.valid g.F.M.Semigroup.add (g.F.Family.monoids c.args.family.now) in
    let i = c.loop-part.part-index in
    let parts = c.args.parts.now in
    let item = c.part-item.result in
    let step : drop i parts ≡ item ∷ drop (i + 1) parts = drop_more parts i item c.loop-part-test.true ∙ ap (λ p. p ∷ drop (i + 1) parts) (sym c.part-item.is) in
    ((subst (λ l. AreValid d (keyed_values l)) step c.loop-part.invariant.later).0, tt)
