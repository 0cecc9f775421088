-- What is picked is of the store's monoid.
use Rattle.std.proofs.Common.{ℕ, Bool, true, false, cond, List, [], ◌∷◌, map, filter}
use Rattle.std.specs.List.{AllByRecursion}
use Rattle.std.specs.Ordering.{eq_by_cmp}
use Rattle.sb_kind.specs.Elements.{IsOf}
use Rattle.sb_kind.specs.Monoids.{Monoid}
use Rattle.sb_kind.specs.declared.agg.Agg.{Agg}
use Rattle.sb_types.specs.Order.{value_cmp}
use Rattle.sb_types.specs.Value.{Value}
use Rattle.sb_types.specs.ValView.{value_of}
use Rattle.sb_meaning.specs.declared.emissions.Emitted.{Emitted}
use Rattle.sb_meaning.specs.Emissions.{emission_of}
use Rattle.sb_meaning.specs.Fold.{elements_with, picked}

pub valid_picked : (m : Monoid) (key : Value) (passes : ℕ → Bool) (all : List Emitted) → AllByRecursion (λ e. IsOf m e.value) all
    → AllByRecursion (IsOf m) (picked key passes (map emission_of all))
valid_picked m key passes [] valid = tt
valid_picked m key passes (e ∷ all) valid =
    let rest = valid_picked m key passes all valid.1 in
    elim (eq_by_cmp value_cmp key (value_of e.key)) as (λ has. AllByRecursion (IsOf m) (map {A = ℕ × Agg} (λ x. x.1) (filter (λ x. passes x.0) (map (λ e. (e.position, e.value))
    (cond has (emission_of e ∷ filter (λ e. eq_by_cmp value_cmp key e.key) (map emission_of all)) (filter (λ e. eq_by_cmp value_cmp key e.key) (map emission_of all))))))) [
      | true ↦ elim (passes e.position) as (λ is. AllByRecursion (IsOf m) (map {A = ℕ × Agg} (λ x. x.1)
          (cond is ((e.position, e.value) ∷ filter (λ x. passes x.0) (elements_with key (map emission_of all))) (filter (λ x. passes x.0) (elements_with key (map emission_of all)))))) [
            | true ↦ (valid.0, rest)
            | false ↦ rest
          ]
      | false ↦ rest
    ]
