-- A look-up in the rows that were read finds what the first line with the key says.
use Rattle.std.proofs.Common.{◌≡◌, ◌∙◌, ℕ, refl, sym, ap, subst, Bool, true, false, cond, List, [], ◌∷◌, Option, Some, None, option_map, Result, Ok, Err, IfOk}
use Rattle.std.specs.BTreeMap.{insert_entry, is_at}
use Rattle.std.specs.Map.{lookup}
use Rattle.std.specs.Ordering.{is_eq, match_ordering}
use Rattle.std.specs.declared.cmp.Ordering.{Ordering}
use Rattle.std.specs.declared.cmp.Ordering.TheVariants.{Less, Equal, Greater}
use Rattle.std.proofs.lemmas.Map.Made.{lookup-map_values}
use Rattle.sb_text.specs.Lines.{Line, lines_of}
use Rattle.sb_types.specs.Order.{value_cmp}
use Rattle.sb_types.specs.Value.{Value}
use Rattle.sb_types.specs.ValueType.{ValueType}
use Rattle.sb_types.proofs.OrderEqual.{value_equal, value_cmp-same}
use Rattle.sb_service.specs.Adding.{PlacedRows, PlacedValue, and_then, line_added, line_of, lines_added, row_placed, service_of, unplaced}
use Rattle.sb_service.specs.Rows.{Row, Rows, onto_rows, row_of, row_on, rows_said}
use Rattle.sb_service.specs.declared.service_error.ServiceError.{ServiceError}
use Rattle.sb_service.proofs.Views.{insert_seen}

is_equal : (o : Ordering) → is_eq o ≡ true → o ≡ Equal
is_equal Less e = cc
is_equal Equal e = refl
is_equal Greater e = cc

-- a key at which a look-up stops is the one that is looked for
same_key : (k q : Value) → is_at (value_cmp k) q ≡ true → k ≡ q
same_key k q e = value_equal k q (is_equal (value_cmp k q) e)

-- ---- a look-up after an insertion

module _ {X : Type 0} (x y : X) (z : Option X) where
  same_test : (b : Bool) → cond b (Some x) z ≡ cond b (Some x) (cond b (Some y) z)
  same_test true = refl
  same_test false = refl

  other_order : (a b : Bool) → (a ≡ true → b ≡ true → ⊥) → cond a (Some x) (cond b (Some y) z) ≡ cond b (Some y) (cond a (Some x) z)
  other_order true true apart = absurd (apart refl refl)
  other_order true false apart = refl
  other_order false true apart = refl
  other_order false false apart = refl

module _ {X : Type 0} (k key : Value) (x : X) where
  abbrev at : Value → Bool
  at = is_at (value_cmp k)

  by_order : (e : Value × X) (es more : List (Value × X)) (o : Ordering) → value_cmp key e.0 ≡ o
      → lookup at more ≡ cond (at key) (Some x) (lookup at es)
      → lookup at (match_ordering o ((key, x) ∷ e ∷ es) ((e.0, x) ∷ es) (e ∷ more)) ≡ cond (at key) (Some x) (lookup at (e ∷ es))
  by_order e es more Less is same = refl
  by_order e es more Equal is same =
      same_test x e.1 (lookup at es) (at e.0)
      ∙ ap (λ q. cond (at q) (Some x) (cond (at e.0) (Some e.1) (lookup at es))) (sym (value_equal key e.0 is))
  by_order e es more Greater is same =
      ap (cond (at e.0) (Some e.1)) same ∙ other_order e.1 x (lookup at es) (at e.0) (at key) (λ first second. apart first second) where
        apart : at e.0 ≡ true → at key ≡ true → ⊥
        apart first second =
            let equal : value_cmp key e.0 ≡ Equal = value_cmp-same key e.0 (sym (same_key k key second) ∙ same_key k e.0 first) in
            let differ : Greater ≡ Equal = sym is ∙ equal in
            cc

  found_inserted : (rows : List (Value × X)) → lookup at (insert_entry value_cmp rows key x) ≡ cond (at key) (Some x) (lookup at rows)
  found_inserted [] = refl
  found_inserted (e ∷ es) = by_order e es _ (value_cmp key e.0) refl (found_inserted es)

-- ---- line by line

abbrev or_else : Option Value → Option Value → Option Value
or_else (Some v) other = Some v
or_else None other = other

or_none : (o : Option Value) → o ≡ or_else o None
or_none None = refl
or_none (Some v) = refl

choose : (v : Value) (o other : Option Value) (b : Bool) → (b ≡ true → o ≡ None) → or_else (cond b (Some v) o) other ≡ or_else o (cond b (Some v) other)
choose v o other true none = ap (λ p. or_else p (Some v)) (sym (none refl))
choose v o other false none = refl

no_value : (o : Option PlacedValue) → option_map (λ row. row.line) o ≡ None → option_map (λ row. row.value) o ≡ None
no_value None e = refl
no_value (Some row) e = cc

-- rows of which none has the key of another
no_row : (k : Value) (rows : PlacedRows) (row : Row) → line_of row.0 rows ≡ None → is_at (value_cmp k) row.0 ≡ true → row_of k (unplaced rows) ≡ None
no_row k rows row none e =
    ap (λ q. row_of q (unplaced rows)) (same_key k row.0 e)
    ∙ (lookup-map_values (λ r. r.value) (is_at (value_cmp row.0)) rows ∙ no_value (lookup (is_at (value_cmp row.0)) rows) none)

found_more : (k : Value) (rows : PlacedRows) (row : Row) (line : ℕ)
    → row_of k (unplaced (insert_entry value_cmp rows row.0 (record { value = row.1; line = line })))
    ≡ cond (is_at (value_cmp k) row.0) (Some row.1) (row_of k (unplaced rows))
found_more k rows row line =
    ap (row_of k) (sym (insert_seen (λ (q : Value). q) (λ (r : PlacedValue). r.value) value_cmp rows row.0 (record { value = row.1; line = line })))
    ∙ found_inserted k row.0 row.1 (unplaced rows)

module _ (k : Value) (key value : ValueType) where
  abbrev Goes : PlacedRows → Rows → PlacedRows → Type 0
  Goes rows said more = row_of k (unplaced more) ≡ or_else (row_of k (unplaced rows)) (row_of k said)

  module _ (line : Line) (lines : List Line) (more : PlacedRows) (rest : (rows : PlacedRows) → lines_added key value rows lines ≡ Ok more → Goes rows (rows_said key value lines) more) where
    placed : (rows : PlacedRows) (row : Row) (first : Option ℕ) → line_of row.0 rows ≡ first
        → and_then (row_placed line.number rows row first) (λ next. lines_added key value next lines) ≡ Ok more
        → Goes rows (row ∷ rows_said key value lines) more
    placed rows row (Some first) is e = cc
    placed rows row None is e =
        rest (insert_entry value_cmp rows row.0 (record { value = row.1; line = line.number })) e
        ∙ (ap (λ o. or_else o (row_of k (rows_said key value lines))) (found_more k rows row line.number)
        ∙ choose row.1 (row_of k (unplaced rows)) (row_of k (rows_said key value lines)) (is_at (value_cmp k) row.0) (no_row k rows row is))

    one : (rows : PlacedRows) (row : Option Row) → and_then (line_added line.number rows row) (λ next. lines_added key value next lines) ≡ Ok more
        → Goes rows (onto_rows row (rows_said key value lines)) more
    one rows None e = cc
    one rows (Some row) e = placed rows row (line_of row.0 rows) refl e

  goes_on : (rows : PlacedRows) (lines : List Line) (more : PlacedRows) → lines_added key value rows lines ≡ Ok more → Goes rows (rows_said key value lines) more
  goes_on rows [] more e = subst (λ (r : Result PlacedRows ServiceError). IfOk r (Goes rows [])) e (or_none (row_of k (unplaced rows)))
  goes_on rows (line ∷ lines) more e = one line lines more (λ after. goes_on after lines more) rows (row_on key value line) e

  all_said : (lines : List Line) (result : Result PlacedRows ServiceError) (rows : Rows) → lines_added key value [] lines ≡ result
      → and_then result (λ more. Ok (unplaced more)) ≡ Ok rows → row_of k rows ≡ row_of k (rows_said key value lines)
  all_said lines (Err error) rows is e = cc
  all_said lines (Ok more) rows is e =
      subst (λ (r : Result Rows ServiceError). IfOk r (λ (all : Rows). row_of k all ≡ row_of k (rows_said key value lines))) e (goes_on [] lines more is)

pub found_as_said : (key value : ValueType) (bytes : List ℕ) (rows : Rows) → service_of key value bytes ≡ Ok rows
    → (k : Value) → row_of k rows ≡ row_of k (rows_said key value (lines_of bytes))
found_as_said key value bytes rows e k = all_said k key value (lines_of bytes) (lines_added key value [] (lines_of bytes)) rows refl e
