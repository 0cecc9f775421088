-- The rows of a sketch of one item, row after row.
use Rattle.std.proofs.Common.{◌≡◌, ℕ, zero, suc, ◌+◌, ◌-◌, ◌*◌, ◌^◌, ◌<◌, ◌≤◌, List, [], ◌∷◌, ◌++◌, length, Some, refl, sym, ap, ◌∙◌, arith, append_assoc, append-nil, add-one}
use native.Mathlib.Nat.{suc-mul}
use Rattle.std.specs.Prelude.{slice_get, slice_set, slice_index_or}
use Rattle.std.specs.List.{AllByRecursion, flat_map, range_with_len}
use Rattle.std.proofs.lemmas.Grind.{flat_map-append}
use Rattle.std.proofs.lemmas.List.{length-set, length-replicate, length-append, set-append_left, set-append_right, replicate-append-replicate}
use Rattle.std.proofs.lemmas.List.Folds.{flat_map-map}
use Rattle.std.proofs.lemmas.List.FromFn.{map-range_with_len_more}
use Rattle.sb_sketch.specs.Cells.{wrapping_sum, counts_added, zeros, one_cell, AreCells}
use Rattle.sb_sketch.specs.CellLaws.{sums_commute, cells_commute, zero_is_count, zero_and_sum, zeros_are_cells, onto_zeros}
use Rattle.sb_sketch.specs.Cms.{Shape, IsCount, AreCounts, cell_of, counts_of}
use Rattle.sb_sketch.specs.Places.{counted_up}
use Rattle.sb_sketch.proofs.Joining.{set_later, same_some, there}

get_later : (xs ys : List ℕ) (i n : ℕ) → length xs ≡ n → slice_get (xs ++ ys) (n + i) ≡ slice_get ys i
get_later [] ys i n e = ap (slice_get ys) (omega (arith, e))
get_later (x ∷ xs) ys i zero e = absurd (omega (arith, e))
get_later (x ∷ xs) ys i (suc n) e =
    let next : suc n + i ≡ suc (n + i) = omega arith in
    ap (slice_get ((x ∷ xs) ++ ys)) next ∙ get_later xs ys i n (omega (arith, e))

pub get_zero : (n i : ℕ) → i < n → slice_get (zeros n) i ≡ Some 0
get_zero zero i h = absurd (omega (arith, h))
get_zero (suc n) zero h = refl
get_zero (suc n) (suc i) h = get_zero n i (omega (arith, h))

pub zeros_length : (n : ℕ) → length (zeros n) ≡ n
zeros_length n = length-replicate n 0

set_zero : (n w at value : ℕ) → at < w → w ≤ n → slice_set (zeros n) at value ≡ one_cell w at value ++ zeros (n - w)
set_zero n w at value p q =
    let whole : zeros n ≡ zeros w ++ zeros (n - w) = ap zeros (omega (arith, q)) ∙ sym (replicate-append-replicate w (n - w) 0) in
    let count : length (zeros w) ≡ w = length-replicate w 0 in
    ap (λ l. slice_set l at value) whole ∙ set-append_left (zeros w) (zeros (n - w)) at value (omega (arith, p, count))

module _ (w : ℕ) (cell : ℕ → ℕ) where
  abbrev row_of : ℕ → List ℕ
  row_of row = one_cell w (cell row) 1

  abbrev rows_to : ℕ → List ℕ
  rows_to r = flat_map row_of (range_with_len 0 r)

  rows_more : (r : ℕ) → rows_to (r + 1) ≡ rows_to r ++ row_of r
  rows_more r =
      sym (flat_map-map row_of (λ x. x) (range_with_len 0 (r + 1)))
      ∙ (ap (flat_map row_of) (map-range_with_len_more (λ x. x) 0 r r (omega arith))
      ∙ (flat_map-append row_of _ (r ∷ [])
      ∙ (ap (λ l. l ++ (row_of r ++ [])) (flat_map-map row_of (λ x. x) (range_with_len 0 r)) ∙ ap (λ l. rows_to r ++ l) (append-nil (row_of r)))))

  row_count : (row : ℕ) → length (row_of row) ≡ w
  row_count row = length-set (zeros w) (cell row) 1 ∙ length-replicate w 0

  count_from : (a r : ℕ) → length (flat_map row_of (range_with_len a r)) ≡ r * w
  count_from a zero = omega arith
  count_from a (suc r) =
      length-append (row_of a) (flat_map row_of (range_with_len (a + 1) r))
      ∙ omega (arith, row_count a, count_from (a + 1) r, suc-mul r w)

  rows_count : (r : ℕ) → length (rows_to r) ≡ r * w
  rows_count r = count_from 0 r

  -- the first r of all rows, and only zeros after them
  abbrev pub counted : ℕ → ℕ → List ℕ
  counted all r = rows_to r ++ zeros (all - r * w)

  pub counted_count : (all r : ℕ) → r * w ≤ all → length (counted all r) ≡ all
  counted_count all r h = length-append (rows_to r) (zeros (all - r * w)) ∙ omega (arith, rows_count r, zeros_length (all - r * w), h)

  pub counted_zero : (all r : ℕ) → cell r < w → r * w + w ≤ all → slice_get (counted all r) (r * w + cell r) ≡ Some 0
  counted_zero all r p q = get_later (rows_to r) (zeros (all - r * w)) (cell r) (r * w) (rows_count r) ∙ get_zero (all - r * w) (cell r) (omega (arith, p, q))

  pub counted_more : (all r : ℕ) → cell r < w → r * w + w ≤ all → slice_set (counted all r) (r * w + cell r) 1 ≡ counted all (r + 1)
  counted_more all r p q =
      let here : r * w + cell r - r * w ≡ cell r = omega arith in
      let within : r * w ≤ r * w + cell r = omega arith in
      let next : (r + 1) * w ≡ r * w + w = ap (λ n. n * w) (add-one r) ∙ suc-mul r w in
      let left : all - r * w - w ≡ all - (r + 1) * w = omega (arith, next) in
      set-append_right (rows_to r) (zeros (all - r * w)) (r * w) (r * w + cell r) 1 (rows_count r) within
      ∙ (ap (λ at. rows_to r ++ slice_set (zeros (all - r * w)) at 1) here
      ∙ (ap (λ l. rows_to r ++ l) (set_zero (all - r * w) w (cell r) 1 p (omega (arith, q)))
      ∙ (sym (append_assoc (rows_to r) (row_of r) (zeros (all - r * w - w)))
      ∙ (ap (λ l. l ++ zeros (all - r * w - w)) (sym (rows_more r)) ∙ ap (λ n. rows_to (r + 1) ++ zeros n) left))))

  pub counted_all : (all rows : ℕ) → all ≡ rows * w → counted all rows ≡ rows_to rows
  counted_all all rows e =
      let none : all - rows * w ≡ 0 = omega (arith, e) in
      ap (λ n. rows_to rows ++ zeros n) none ∙ append-nil (rows_to rows)

  pub counted_none : (all : ℕ) → counted all 0 ≡ zeros all
  counted_none all =
      let whole : all - 0 * w ≡ all = omega arith in
      ap zeros whole

-- the item's cell of one row more is counted
pub next_row : (w : ℕ) (cell : ℕ → ℕ) (old now : List ℕ) (all r at v : ℕ) → now ≡ counts_added old (counted w cell all r) → at ≡ r * w + cell r → slice_get now at ≡ Some v
    → cell r < w → r * w + w ≤ all → slice_set now at (wrapping_sum v 1) ≡ counts_added old (counted w cell all (r + 1))
next_row w cell old now all r at v is place e p q =
    let before = counted w cell all r in
    let here : slice_get (counts_added old before) (r * w + cell r) ≡ Some v = sym (ap (λ l. slice_get l (r * w + cell r)) is) ∙ (sym (ap (slice_get now) place) ∙ e) in
    ap (λ l. slice_set l at (wrapping_sum v 1)) is
    ∙ (ap (λ n. slice_set (counts_added old before) n (wrapping_sum v 1)) place
    ∙ (set_later wrapping_sum 1 counted_once old before (r * w + cell r) v here (counted_zero w cell all r p q)
    ∙ ap (counts_added old) (counted_more w cell all r p q)))
  where
    counted_once : (x : ℕ) → wrapping_sum (wrapping_sum x 0) 1 ≡ wrapping_sum x 1
    counted_once x = omega arith

-- the place of one row more is counted
pub one_row_more : (w : ℕ) (cell : ℕ → ℕ) (all r at : ℕ) → at ≡ r * w + cell r → cell r < w → r * w + w ≤ all → counted_up (counted w cell all r) at ≡ counted w cell all (r + 1)
one_row_more w cell all r at place p q =
    let long : length (counted w cell all r) ≡ all = counted_count w cell all r (omega (arith, q)) in
    let zero_there : slice_index_or (counted w cell all r) (r * w + cell r) 0 ≡ 0 =
    same_some _ 0 (sym (there (counted w cell all r) (r * w + cell r) (omega (arith, long, p, q))) ∙ counted_zero w cell all r p q) in
    let one : wrapping_sum (slice_index_or (counted w cell all r) (r * w + cell r) 0) 1 ≡ 1 = ap (λ v. wrapping_sum v 1) zero_there in
    ap (counted_up (counted w cell all r)) place ∙ (ap (slice_set (counted w cell all r) (r * w + cell r)) one ∙ counted_more w cell all r p q)

-- before the first row nothing is counted
pub no_row : (w : ℕ) (cell : ℕ → ℕ) (old : List ℕ) (all : ℕ) → AreCells all IsCount old → old ≡ counts_added old (counted w cell all 0)
no_row w cell old all h =
    sym (onto_zeros wrapping_sum IsCount zero_and_sum all old h)
    ∙ (cells_commute wrapping_sum sums_commute (zeros all) old ∙ ap (counts_added old) (sym (counted_none w cell all)))

all_of_both : (V : ℕ → Type 0) (xs ys : List ℕ) → AllByRecursion V xs → AllByRecursion V ys → AllByRecursion V (xs ++ ys)
all_of_both V [] ys p q = q
all_of_both V (x ∷ xs) ys p q = (p.0, all_of_both V xs ys p.1 q)

-- one cell that is valid, among zeros
pub one_is_valid : (V : ℕ → Type 0) (n at value : ℕ) → V 0 → V value → AllByRecursion V (one_cell n at value)
one_is_valid V zero at value p q = tt
one_is_valid V (suc n) zero value p q = (q, (zeros_are_cells V p n).valid)
one_is_valid V (suc n) (suc at) value p q = (p, one_is_valid V n at value p q)

rows_valid : (w : ℕ) (cell : ℕ → ℕ) (a r : ℕ) → AllByRecursion IsCount (flat_map (λ row. one_cell w (cell row) 1) (range_with_len a r))
rows_valid w cell a zero = tt
rows_valid w cell a (suc r) =
    all_of_both IsCount (one_cell w (cell a) 1) (flat_map (λ row. one_cell w (cell row) 1) (range_with_len (a + 1) r)) (one_is_valid IsCount w (cell a) 1 zero_is_count one_is_count) (rows_valid w cell (a + 1) r)
  where
    one_is_count : 1 < 2 ^ 64
    one_is_count = omega arith

-- the sketch of one item is valid
pub counts_are : (shape : Shape) (item : List ℕ) → AreCounts shape (counts_of shape item)
counts_are shape item =
    let cell : ℕ → ℕ = λ row. cell_of shape.width row item in
    record { count = rows_count shape.width cell shape.rows; valid = rows_valid shape.width cell 0 shape.rows }
