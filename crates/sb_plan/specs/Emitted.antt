-- What is emitted into a store, by the texts of keys, and the folds of it.
use Rattle.std.specs.Prelude.{ℕ, Bool, true, List, map, filter, Option}
use Rattle.std.specs.Str.{bytes_eq}
use Rattle.sb_laws.specs.Folds.{fold_over}
use Rattle.sb_types.specs.Text.{value_text}
use Rattle.sb_kind.specs.declared.agg.Agg.{Agg}
use Rattle.sb_check.specs.Log.{Logged}
use Rattle.sb_check.specs.Programs.{CheckedProgram}
use Rattle.sb_service.specs.Rows.{Rows}
use Rattle.sb_meaning.specs.Emissions as meaning
use Rattle.sb_meaning.specs.Emissions.{emissions}

-- the position of a record, the text of a key, and the element that it adds there
pub record Emission (E : Type 0) : Type 0 where
  pub position : ℕ
  pub key : List ℕ
  pub value : E

abbrev pub by_text : meaning.Emission → Emission Agg
by_text e = record { position = e.position; key = value_text e.key; value = e.value }

-- the emissions into the store of this number, in log order
abbrev pub emitted : CheckedProgram → List Logged → List Rows → ℕ → List (Emission Agg)
emitted c log services store = map by_text (emissions c log services store)

-- the values of a key with their positions, in log order
abbrev pub of_key : {E : Type 0} → List ℕ → List (Emission E) → List (ℕ × E)
of_key key all = map (λ e. (e.position, e.value)) (filter (λ e. bytes_eq e.key key) all)

-- the fold of a key over the positions of a set, by the plus of the store's dictionary
abbrev pub fold_of : {E : Type 0} → (E → E → E) → List (Emission E) → List ℕ → (ℕ → Bool) → Option E
fold_of add all key positions = fold_over add (of_key key all) positions

-- all positions
abbrev pub everywhere : ℕ → Bool
everywhere position = true
