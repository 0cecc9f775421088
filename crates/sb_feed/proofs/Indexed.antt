-- Lists at places, and the positions of records by their batches.
use Rattle.std.proofs.Common.{◌≡◌, ◌≢◌, ℕ, zero, suc, ◌+◌, ◌<◌, Bool, true, false, cond, List, [], ◌∷◌, ◌++◌, length, map, Vec, Global, Some, None, refl, sym, ap, ◌∙◌, arith, append_assoc, append-nil}
use Rattle.std.specs.Prelude.{◌==◌, slice_get, slice_set, unwrap_or}
use Rattle.std.proofs.lemmas.Bool.{eqb-true, eqb-false}
use Rattle.std.specs.Result.{OnErr}
use Rattle.std.specs.declared.result.Result.{Result}
use Rattle.std.specs.declared.result.Result.TheVariants.{Ok, Err}
use Rattle.sb_feed.specs.Index.{positions_from, list_at, with_item, IsIndex}

pub on_err_of : {T E P : Type 0} (r : Result T E) → P → OnErr r P
on_err_of (Ok _) p = tt
on_err_of (Err _) p = p

unlike : (a b : ℕ) (t : Bool) → (a == b) ≡ t → a ≢ b → t ≡ false
unlike a b true e h = absurd (h (eqb-true a b e))
unlike a b false e h = refl

both_later : (a b : ℕ) (s t : Bool) → (a == b) ≡ s → (suc a == suc b) ≡ t → s ≡ t
both_later a b true true e f = refl
both_later a b true false e f = absurd (omega (arith, eqb-true, eqb-false))
both_later a b false true e f = absurd (omega (arith, eqb-true, eqb-false))
both_later a b false false e f = refl

module _ {X : Type 0} where
  -- the items of each list
  abbrev pub items_of : List (Vec X Global) → List (List X)
  items_of = map (λ list. list.items)

  -- a list with the same items put in its place
  pub set_same : (lists : List (Vec X Global)) (at : ℕ) (old now : Vec X Global) → slice_get lists at ≡ Some old → now.items ≡ old.items → items_of (slice_set lists at now) ≡ items_of lists
  set_same [] at old now is e = refl
  set_same (list ∷ lists) zero old now is e = ap (λ items. items ∷ items_of lists) (e ∙ ap (λ o. (unwrap_or o list).items) (sym is))
  set_same (list ∷ lists) (suc at) old now is e = ap (λ rest. list.items ∷ rest) (set_same lists at old now is e)

  -- a list with an item more put in its place
  pub set_more : (lists : List (Vec X Global)) (at : ℕ) (old now : Vec X Global) (item : X) → slice_get lists at ≡ Some old → now.items ≡ old.items ++ item ∷ [] → items_of (slice_set lists at now) ≡ with_item at item (items_of lists)
  set_more [] at old now item is e = refl
  set_more (list ∷ lists) zero old now item is e = ap (λ items. items ∷ items_of lists) (e ∙ ap (λ o. (unwrap_or o list).items ++ item ∷ []) (sym is))
  set_more (list ∷ lists) (suc at) old now item is e = ap (λ rest. list.items ∷ rest) (set_more lists at old now item is e)

  pub list_there : (lists : List (Vec X Global)) (at : ℕ) (list : Vec X Global) → slice_get lists at ≡ Some list → list_at (items_of lists) at ≡ list.items
  list_there [] at list is = cc
  list_there (first ∷ lists) zero list is = ap (λ o. (unwrap_or o first).items) is
  list_there (first ∷ lists) (suc at) list is = list_there lists at list is

  pub list_none : (lists : List (Vec X Global)) (at : ℕ) → slice_get lists at ≡ None → list_at (items_of lists) at ≡ []
  list_none [] at is = refl
  list_none (first ∷ lists) zero is = cc
  list_none (first ∷ lists) (suc at) is = list_none lists at is

  -- an empty list more changes nothing
  pub empty_more : (lists : List (Vec X Global)) (list : Vec X Global) → list.items ≡ [] → (at : ℕ) → list_at (items_of (lists ++ list ∷ [])) at ≡ list_at (items_of lists) at
  empty_more [] list e zero = e
  empty_more [] list e (suc at) = refl
  empty_more (first ∷ lists) list e zero = refl
  empty_more (first ∷ lists) list e (suc at) = empty_more lists list e at

  none_of : (b : Bool) (item : X) (xs : List X) → b ≡ false → xs ++ [] ≡ xs ++ cond b (item ∷ []) []
  none_of b item xs e = ap (λ t. xs ++ cond t (item ∷ []) []) (sym e)

  list_with_item : (lists : List (List X)) (place : ℕ) (item : X) (at : ℕ) → place < length lists → list_at (with_item place item lists) at ≡ list_at lists at ++ cond (place == at) (item ∷ []) []
  list_with_item [] place item at there = absurd (omega (arith, there))
  list_with_item (list ∷ lists) zero item zero there = refl
  list_with_item (list ∷ lists) zero item (suc at) there = sym (append-nil (list_at lists at)) ∙ none_of (0 == suc at) item (list_at lists at) (unlike 0 (suc at) _ refl (omega arith))
  list_with_item (list ∷ lists) (suc place) item zero there = sym (append-nil list) ∙ none_of (suc place == 0) item list (unlike (suc place) 0 _ refl (omega arith))
  list_with_item (list ∷ lists) (suc place) item (suc at) there = list_with_item lists place item at (omega (arith, there)) ∙ ap (λ b. list_at lists at ++ cond b (item ∷ []) []) (both_later place at _ _ refl refl)

-- the positions of one record more
pub positions_more : (passes : ℕ → Bool) (i next batch : ℕ) (batches : List ℕ) → next ≡ i + length batches → positions_from passes i (batches ++ batch ∷ []) ≡ positions_from passes i batches ++ cond (passes batch) (next ∷ []) []
positions_more passes i next batch [] e = append-nil (cond (passes batch) (i ∷ []) []) ∙ ap (λ n. cond (passes batch) (n ∷ []) []) (omega (arith, e))
positions_more passes i next batch (b ∷ batches) e =
    ap (λ l. cond (passes b) (i ∷ []) [] ++ l) (positions_more passes (suc i) next batch batches (omega (arith, e)))
    ∙ sym (append_assoc (cond (passes b) (i ∷ []) []) (positions_from passes (suc i) batches) (cond (passes batch) (next ∷ []) []))

-- the index of one record more
pub index_more : (batches : List ℕ) (before room : List (List ℕ)) (batch : ℕ) → IsIndex batches before → ((at : ℕ) → list_at room at ≡ list_at before at) → batch < length room
    → IsIndex (batches ++ batch ∷ []) (with_item batch (length batches) room)
index_more batches before room batch is same there = λ b.
    list_with_item room batch (length batches) b there
    ∙ (ap (λ l. l ++ cond (batch == b) (length batches ∷ []) []) (same b ∙ is b)
    ∙ sym (positions_more (λ n. n == b) 0 (length batches) batch batches (omega arith)))
