-- The report: for each store, each key with a value, in rising order of its text's bytes, with its fold.
use Rattle.std.specs.Prelude.{ℕ, List, [], ◌∷◌, ◌++◌, codes, Option, Some, None}
use Rattle.std.specs.BTreeSet.{insert_key}
use Rattle.std.specs.Cmp.Lexicographic.{slice_cmp}
use Rattle.std.specs.List.{flat_map, fold}
use Rattle.std.specs.Ordering.{nat_cmp}
use Rattle.sb_feed.specs.declared.key.KeyBytes.{KeyBytes}

-- STORE, tab, KEY, tab, VALUE, LF
abbrev pub row_text : List ℕ → List ℕ → List ℕ → List ℕ
row_text store key value = store ++ (9 ∷ key ++ (9 ∷ value ++ 10 ∷ []))

-- the row of a key, by the names of the stores and the texts of their elements
abbrev pub printed_row : {E : Type 0} → (ℕ → List ℕ) → (ℕ → E → List ℕ) → KeyBytes × E → List ℕ
printed_row name printed row = row_text (name row.0.store) row.0.text (printed row.0.store row.1)

-- the text of a fold; no contribution is `()`
abbrev pub fold_text : {E : Type 0} → (E → List ℕ) → Option E → List ℕ
fold_text value_text None = codes "()"
fold_text value_text (Some value) = value_text value

-- these keys, each once, in rising order of their bytes
abbrev pub rising_keys : List (List ℕ) → List (List ℕ)
rising_keys keys = fold (insert_key (slice_cmp nat_cmp)) [] keys

-- the rows of a store: its name, the keys that have a value, and the fold of each
abbrev pub store_report : {E : Type 0} → (E → List ℕ) → List ℕ → List (List ℕ) → (List ℕ → Option E) → List ℕ
store_report value_text store keys fold_of = flat_map (λ key. row_text store key (fold_text value_text (fold_of key))) (rising_keys keys)
