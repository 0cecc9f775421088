-- Folds of what a store's stream emits.
use Rattle.std.specs.Prelude.{ℕ, Bool, ◌==◌, List, map, filter, Option}
use Rattle.std.specs.List.{list_any}
use Rattle.std.specs.Ordering.{eq_by_cmp}
use Rattle.sb_types.specs.Order.{value_cmp}
use Rattle.sb_types.specs.Value.{Value}
use Rattle.sb_laws.specs.Folds.{fold_over}
use Rattle.sb_kind.specs.Elements.{plus}
use Rattle.sb_kind.specs.declared.agg.Agg.{Agg}
use Rattle.sb_check.specs.Log.{Logged}
use Rattle.sb_check.specs.Programs.{CheckedProgram}
use Rattle.sb_service.specs.Rows.{Rows}
use Rattle.sb_meaning.specs.Emissions.{Emission, emissions, monoid_at}

-- the number is one of the list's
abbrev pub is_in : List ℕ → ℕ → Bool
is_in numbers n = list_any (λ m. m == n) numbers

-- the elements that are emitted with this key, at their positions
abbrev pub elements_with : Value → List Emission → List (ℕ × Agg)
elements_with key all = map (λ e. (e.position, e.value)) (filter (λ e. eq_by_cmp value_cmp key e.key) all)

-- those of them whose positions pass
abbrev pub picked : Value → (ℕ → Bool) → List Emission → List Agg
picked key passes all = map (λ x. x.1) (filter (λ x. passes x.0) (elements_with key all))

-- the sum, in the order of the log, of what is emitted with a key at the positions that pass
abbrev pub fold_of : CheckedProgram → List Logged → List Rows → ℕ → Value → (ℕ → Bool) → Option Agg
fold_of c log services store key passes =
    fold_over (plus (monoid_at c store)) (elements_with key (emissions c log services store)) passes
