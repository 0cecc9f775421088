-- Cells counted up at places, and back.
use Rattle.std.proofs.Common.{◌≡◌, ◌≢◌, ◌∙◌, ℕ, zero, suc, ◌+◌, ◌<◌, ◌≤◌, ◌^◌, Bool, true, false, List, [], ◌∷◌, ◌++◌, length, take, drop, Some, refl, sym, ap, ap₂, subst, arith}
use Rattle.std.specs.Prelude.{◌==◌, if◌then◌else◌, slice_get, slice_set, slice_index_or}
use Rattle.std.specs.List.{AllByRecursion}
use Rattle.std.proofs.lemmas.Bool.Decides.{nat_tests}
use Rattle.std.proofs.lemmas.List.{set-get_or, get_or-set_same, get_or-set_other, length-set}
use Rattle.sb_sketch.specs.Cells.{wrapping_sum, counts_added, zeros, AreCells}
use Rattle.sb_sketch.specs.CellLaws.{sums_associate, sums_commute, zero_and_sum, zero_is_count, zeros_are_cells, cells_commute, onto_zeros}
use Rattle.sb_sketch.specs.Cms.{IsCount}
use Rattle.sb_sketch.specs.Places.{counted_up, counted_at, HasRoom}
use Rattle.sb_sketch.proofs.Joining.{there, same_some}
use Rattle.sb_sketch.proofs.Rows.{get_zero, zeros_length}

-- counted in any order
swapped : (xs : List ℕ) (p q : ℕ) → counted_up (counted_up xs p) q ≡ counted_up (counted_up xs q) p
swapped [] p q = refl
swapped (x ∷ xs) zero zero = refl
swapped (x ∷ xs) zero (suc q) = refl
swapped (x ∷ xs) (suc p) zero = refl
swapped (x ∷ xs) (suc p) (suc q) = ap (λ l. x ∷ l) (swapped xs p q)

up_first : (xs ps : List ℕ) (p : ℕ) → counted_at (counted_up xs p) ps ≡ counted_up (counted_at xs ps) p
up_first xs [] p = refl
up_first xs (q ∷ ps) p = ap (λ l. counted_at l ps) (swapped xs p q) ∙ up_first (counted_up xs q) ps p

up_between : (xs ys zs : List ℕ) (p : ℕ) → counted_at xs (ys ++ p ∷ zs) ≡ counted_up (counted_at xs (ys ++ zs)) p
up_between xs [] zs p = up_first xs zs p
up_between xs (y ∷ ys) zs p = up_between (counted_up xs y) ys zs p

pub counted_last : (xs ps : List ℕ) (p : ℕ) → counted_at xs (ps ++ p ∷ []) ≡ counted_up (counted_at xs ps) p
counted_last xs [] p = refl
counted_last xs (q ∷ ps) p = counted_last (counted_up xs q) ps p

-- no place is left
pub none_left : (now earlier ps : List ℕ) → length ps ≡ 0 → now ≡ counted_at earlier ps → now ≡ earlier
none_left now earlier [] e is = is
none_left now earlier (p ∷ ps) e is = absurd (omega (arith, e))

up_length : (xs : List ℕ) (p : ℕ) → length (counted_up xs p) ≡ length xs
up_length xs p = length-set xs p (wrapping_sum (slice_index_or xs p 0) 1)

pub counted_length : (xs ps : List ℕ) → length (counted_at xs ps) ≡ length xs
counted_length xs [] = refl
counted_length xs (p ∷ ps) = counted_length (counted_up xs p) ps ∙ up_length xs p

pub short_length : (count : ℕ) (ps : List ℕ) → length (counted_at (zeros count) ps) ≡ count
short_length count ps = counted_length (zeros count) ps ∙ zeros_length count

-- room for the places before the last, and for that one after them
pub room_before : (xs ps : List ℕ) (p : ℕ) → HasRoom xs (ps ++ p ∷ []) → HasRoom xs ps
room_before xs [] p h = tt
room_before xs (q ∷ ps) p h = (h.0, h.1, room_before (counted_up xs q) ps p h.2)

pub last_there : (xs ps : List ℕ) (p : ℕ) → HasRoom xs (ps ++ p ∷ []) → p < length (counted_at xs ps)
last_there xs [] p h = h.0
last_there xs (q ∷ ps) p h = last_there (counted_up xs q) ps p h.2

pub last_room : (xs ps : List ℕ) (p : ℕ) → HasRoom xs (ps ++ p ∷ []) → slice_index_or (counted_at xs ps) p 0 + 1 < 2 ^ 64
last_room xs [] p h = h.1
last_room xs (q ∷ ps) p h = last_room (counted_up xs q) ps p h.2

-- added to other cells
added_up : (xs ys : List ℕ) (p : ℕ) → counted_up (counts_added xs ys) p ≡ counts_added xs (counted_up ys p)
added_up [] ys p = refl
added_up (x ∷ xs) [] p = refl
added_up (x ∷ xs) (y ∷ ys) zero = ap (λ v. v ∷ counts_added xs ys) (sums_associate x y 1)
added_up (x ∷ xs) (y ∷ ys) (suc p) = ap (λ l. wrapping_sum x y ∷ l) (added_up xs ys p)

added_at : (xs ys ps : List ℕ) → counted_at (counts_added xs ys) ps ≡ counts_added xs (counted_at ys ps)
added_at xs ys [] = refl
added_at xs ys (p ∷ ps) = ap (λ l. counted_at l ps) (added_up xs ys p) ∙ added_at xs (counted_up ys p) ps

-- places counted in cells are the cells with what the places alone give
pub counted_is_added : (n : ℕ) (xs ps : List ℕ) → AreCells n IsCount xs → counted_at xs ps ≡ counts_added xs (counted_at (zeros n) ps)
counted_is_added n xs ps h =
    let whole : counts_added xs (zeros n) ≡ xs = cells_commute wrapping_sum sums_commute xs (zeros n) ∙ onto_zeros wrapping_sum IsCount zero_and_sum n xs h in
    ap (λ l. counted_at l ps) (sym whole) ∙ added_at xs (zeros n) ps

-- one cell, counted up where its place is named
abbrev pub cell_after : ℕ → ℕ → List ℕ → ℕ
cell_after cell at [] = cell
cell_after cell at (p ∷ ps) = cell_after (if p == at then wrapping_sum cell 1 else cell) at ps

up_value : (xs : List ℕ) (at : ℕ) → at < length xs → slice_index_or (counted_up xs at) at 0 ≡ wrapping_sum (slice_index_or xs at 0) 1
up_value xs at h = get_or-set_same xs at (wrapping_sum (slice_index_or xs at 0) 1) 0 h

up_cell : (xs : List ℕ) (p at : ℕ) → at < length xs → slice_index_or (counted_up xs p) at 0 ≡ (if p == at then wrapping_sum (slice_index_or xs at 0) 1 else slice_index_or xs at 0)
up_cell xs p at h =
    elim (p == at) as (λ b. (p == at) ≡ b → slice_index_or (counted_up xs p) at 0 ≡ (if b then wrapping_sum (slice_index_or xs at 0) 1 else slice_index_or xs at 0)) [
      | true ↦ λ is. let same : p ≡ at = grind (arith, nat_tests, is) in ap (λ n. slice_index_or (counted_up xs n) at 0) same ∙ up_value xs at h
      | false ↦ λ is. let other : at ≢ p = grind (arith, nat_tests, is) in get_or-set_other xs p at (wrapping_sum (slice_index_or xs p 0) 1) 0 other
    ] refl

cell_is : (xs ps : List ℕ) (at : ℕ) → at < length xs → slice_index_or (counted_at xs ps) at 0 ≡ cell_after (slice_index_or xs at 0) at ps
cell_is xs [] at h = refl
cell_is xs (p ∷ ps) at h =
    cell_is (counted_up xs p) ps at (omega (arith, up_length xs p, h)) ∙ ap (λ c. cell_after c at ps) (up_cell xs p at h)

pub zero_at : (n at : ℕ) → slice_index_or (zeros n) at 0 ≡ 0
zero_at zero at = refl
zero_at (suc n) zero = refl
zero_at (suc n) (suc at) = zero_at n at

short_cell : (count : ℕ) (ps : List ℕ) (at : ℕ) → at < count → slice_index_or (counted_at (zeros count) ps) at 0 ≡ cell_after 0 at ps
short_cell count ps at h =
    cell_is (zeros count) ps at (omega (arith, zeros_length count, h)) ∙ ap (λ c. cell_after c at ps) (zero_at count at)

after_all : (ps : List ℕ) (i : ℕ) → length ps ≤ i → drop i ps ≡ []
after_all [] zero h = refl
after_all [] (suc i) h = refl
after_all (p ∷ ps) zero h = absurd (omega (arith, h))
after_all (p ∷ ps) (suc i) h = after_all ps i (omega (arith, h))

-- all places are seen
pub cell_whole : (cell at i : ℕ) (ps : List ℕ) → cell_after cell at (drop i ps) ≡ cell_after 0 at ps → length ps ≤ i → cell ≡ cell_after 0 at ps
cell_whole cell at i ps is h = ap (cell_after cell at) (sym (after_all ps i h)) ∙ is

-- the cell of a short form
pub short_get : (count : ℕ) (ps : List ℕ) (at cell : ℕ) → cell ≡ cell_after 0 at ps → at < count → slice_get (counted_at (zeros count) ps) at ≡ Some cell
short_get count ps at cell is h =
    there (counted_at (zeros count) ps) at (omega (arith, short_length count ps, h)) ∙ ap (λ c. Some c) (short_cell count ps at h ∙ sym is)

one_smaller : (same : Bool) (c : ℕ) → c < 2 ^ 64 → (if same then wrapping_sum c 1 else c) < 2 ^ 64
one_smaller true c h = omega arith
one_smaller false c h = h

after_small : (c at : ℕ) (ps : List ℕ) → c < 2 ^ 64 → cell_after c at ps < 2 ^ 64
after_small c at [] h = h
after_small c at (p ∷ ps) h = after_small (if p == at then wrapping_sum c 1 else c) at ps (one_smaller (p == at) c h)

not_named : (c at : ℕ) (ps : List ℕ) → AllByRecursion (λ p. p ≢ at) ps → cell_after c at ps ≡ c
not_named c at [] h = refl
not_named c at (p ∷ ps) h =
    let other : (p == at) ≡ false = let no = h.0 in grind (arith, nat_tests, no) in
    ap (λ b. cell_after (if b then wrapping_sum c 1 else c) at ps) other ∙ not_named c at ps h.1

-- one place is counted back
pub set_again : (xs : List ℕ) (at v w : ℕ) → slice_set (slice_set xs at v) at w ≡ slice_set xs at w
set_again [] at v w = refl
set_again (x ∷ xs) zero v w = refl
set_again (x ∷ xs) (suc at) v w = ap (λ l. x ∷ l) (set_again xs at v w)

set_before : (xs : List ℕ) (at : ℕ) → slice_set (counted_up xs at) at (slice_index_or xs at 0) ≡ xs
set_before xs at = set_again xs at (wrapping_sum (slice_index_or xs at 0) 1) (slice_index_or xs at 0) ∙ set-get_or xs at 0

-- what one place less leaves
pub counted_down : (now earlier : List ℕ) (at v : ℕ) → at < length earlier → slice_index_or earlier at 0 + 1 < 2 ^ 64 → now ≡ counted_up earlier at → v + 1 ≡ slice_index_or now at 0
    → slice_set now at v ≡ earlier
counted_down now earlier at v p q is less =
    let same : v ≡ slice_index_or earlier at 0 = omega (arith, q, less ∙ (ap (λ l. slice_index_or l at 0) is ∙ up_value earlier at p)) in
    ap₂ (λ l c. slice_set l at c) is same ∙ set_before earlier at

same_before : (xs ys : List ℕ) (at : ℕ) → counted_up xs at ≡ counted_up ys at → at < length xs → at < length ys → slice_index_or xs at 0 < 2 ^ 64 → slice_index_or ys at 0 < 2 ^ 64 → xs ≡ ys
same_before xs ys at e p q s t =
    let both : wrapping_sum (slice_index_or xs at 0) 1 ≡ wrapping_sum (slice_index_or ys at 0) 1 =
    sym (up_value xs at p) ∙ (ap (λ l. slice_index_or l at 0) e ∙ up_value ys at q) in
    let same : slice_index_or xs at 0 ≡ slice_index_or ys at 0 = omega (arith, s, t, both) in
    sym (set_before xs at) ∙ (ap₂ (λ l c. slice_set l at c) e same ∙ set_before ys at)

split : (xs : List ℕ) (at p : ℕ) → at < length xs → slice_index_or xs at 0 ≡ p → xs ≡ take at xs ++ p ∷ drop (suc at) xs
split [] at p h e = absurd (omega (arith, h))
split (x ∷ xs) zero p h e = ap (λ v. v ∷ xs) e
split (x ∷ xs) (suc at) p h e = ap (λ l. x ∷ l) (split xs at p (omega (arith, h)) e)

-- a place is taken out of those that are named
pub taken_out : (count : ℕ) (ps : List ℕ) (at p : ℕ) (now earlier : List ℕ) → at < length ps → slice_index_or ps at 0 ≡ p → now ≡ take at ps ++ drop (suc at) ps
    → p < length earlier → slice_index_or earlier p 0 + 1 < 2 ^ 64 → counted_at (zeros count) ps ≡ counted_up earlier p → counted_at (zeros count) now ≡ earlier
taken_out count ps at p now earlier within named less inside room is =
    let rest = take at ps ++ drop (suc at) ps in
    let both : counted_up (counted_at (zeros count) rest) p ≡ counted_up earlier p =
    sym (ap (counted_at (zeros count)) (split ps at p within named) ∙ up_between (zeros count) (take at ps) (drop (suc at) ps) p) ∙ is in
    let long : length earlier ≡ count = sym (up_length earlier p) ∙ (ap length (sym is) ∙ short_length count ps) in
    let below : p < count = omega (arith, long, inside) in
    let small : slice_index_or (counted_at (zeros count) rest) p 0 < 2 ^ 64 = subst (λ c. c < 2 ^ 64) (sym (short_cell count rest p below)) (after_small 0 p rest (omega arith)) in
    ap (counted_at (zeros count)) less
    ∙ same_before (counted_at (zeros count) rest) earlier p both (omega (arith, short_length count rest, below)) inside small (omega (arith, room))

-- a place that was counted is named
pub is_named : (count : ℕ) (ps : List ℕ) (p : ℕ) (earlier : List ℕ) → p < length earlier → slice_index_or earlier p 0 + 1 < 2 ^ 64 → counted_at (zeros count) ps ≡ counted_up earlier p
    → AllByRecursion (λ q. q ≢ p) ps → ⊥
is_named count ps p earlier inside room is none =
    let long : length earlier ≡ count = sym (up_length earlier p) ∙ (ap length (sym is) ∙ short_length count ps) in
    let nothing : slice_index_or (counted_at (zeros count) ps) p 0 ≡ 0 = short_cell count ps p (omega (arith, long, inside)) ∙ not_named 0 p ps none in
    let one : slice_index_or (counted_at (zeros count) ps) p 0 ≡ wrapping_sum (slice_index_or earlier p 0) 1 = ap (λ l. slice_index_or l p 0) is ∙ up_value earlier p inside in
    omega (arith, room, sym nothing ∙ one)

-- cells far from wrapping have room
few_more : (same : Bool) (c k : ℕ) → c < k → (if same then wrapping_sum c 1 else c) < k + 1
few_more true c k h = omega (arith, h)
few_more false c k h = omega (arith, h)

low_after : (xs : List ℕ) (p k : ℕ) (ps : List ℕ) → AllByRecursion (λ at. (at < length xs) × (slice_index_or xs at 0 < k)) ps
    → AllByRecursion (λ at. (at < length (counted_up xs p)) × (slice_index_or (counted_up xs p) at 0 < k + 1)) ps
low_after xs p k [] h = tt
low_after xs p k (q ∷ ps) h =
    let few : slice_index_or (counted_up xs p) q 0 < k + 1 = subst (λ c. c < k + 1) (sym (up_cell xs p q h.0.0)) (few_more (p == q) (slice_index_or xs q 0) k h.0.1) in
    ((omega (arith, up_length xs p, h.0.0), few), low_after xs p k ps h.1)

pub has_room : (xs : List ℕ) (k : ℕ) (ps : List ℕ) → AllByRecursion (λ at. (at < length xs) × (slice_index_or xs at 0 < k)) ps → k + length ps < 2 ^ 64 → HasRoom xs ps
has_room xs k [] h e = tt
has_room xs k (p ∷ ps) h e = (h.0.0, omega (arith, h.0.1, e), has_room (counted_up xs p) (k + 1) ps (low_after xs p k ps h.1) (omega (arith, e)))

-- what the places alone give is valid
up_counts : (xs : List ℕ) (p : ℕ) → AllByRecursion IsCount xs → AllByRecursion IsCount (counted_up xs p)
up_counts [] p h = tt
up_counts (x ∷ xs) zero h = (omega arith, h.1)
up_counts (x ∷ xs) (suc p) h = (h.0, up_counts xs p h.1)

all_counts : (xs ps : List ℕ) → AllByRecursion IsCount xs → AllByRecursion IsCount (counted_at xs ps)
all_counts xs [] h = h
all_counts xs (p ∷ ps) h = all_counts (counted_up xs p) ps (up_counts xs p h)

pub short_cells : (count : ℕ) (ps : List ℕ) → AreCells count IsCount (counted_at (zeros count) ps)
short_cells count ps = record { count = short_length count ps; valid = all_counts (zeros count) ps (zeros_are_cells IsCount zero_is_count count).valid }

-- a short form on the left, and a full list
pub added_to_full : (count : ℕ) (ps cells sums : List ℕ) → counted_at (zeros count) ps ≡ cells → AreCells (length cells) IsCount sums → counted_at sums ps ≡ counts_added cells sums
added_to_full count ps cells sums is h =
    let long : length cells ≡ count = ap length (sym is) ∙ short_length count ps in
    counted_is_added count sums ps (subst (λ n. AreCells n IsCount sums) long h)
    ∙ (cells_commute wrapping_sum sums_commute sums (counted_at (zeros count) ps) ∙ ap (λ l. counts_added l sums) is)

-- all cells are 0
pub all_zero : (xs : List ℕ) (n : ℕ) → length xs ≡ n → ((k : ℕ) → k < n → slice_index_or xs k 0 ≡ 0) → xs ≡ zeros n
all_zero [] zero e h = refl
all_zero [] (suc n) e h = absurd (omega (arith, e))
all_zero (x ∷ xs) zero e h = absurd (omega (arith, e))
all_zero (x ∷ xs) (suc n) e h = ap₂ (λ v l. v ∷ l) (h zero (omega arith)) (all_zero xs n (omega (arith, e)) (λ k p. h (suc k) (omega (arith, p))))

pub not_zeros : (xs : List ℕ) (n at v : ℕ) → slice_get xs at ≡ Some v → v ≢ 0 → at < n → xs ≢ zeros n
not_zeros xs n at v e above h is = above (same_some v 0 (sym e ∙ (ap (λ l. slice_get l at) is ∙ get_zero n at h)))

pub cell_got : (xs : List ℕ) (at v : ℕ) → at < length xs → slice_get xs at ≡ Some v → slice_index_or xs at 0 ≡ v
cell_got xs at v h e = same_some (slice_index_or xs at 0) v (sym (there xs at h) ∙ e)

-- a short form that is all 0, as a list
pub same_zeros : (count : ℕ) (ps cells : List ℕ) (P : Type 0) → counted_at (zeros count) ps ≡ cells → ((P → counted_at (zeros count) ps ≡ zeros count) × (counted_at (zeros count) ps ≡ zeros count → P))
    → (P → cells ≡ zeros (length cells)) × (cells ≡ zeros (length cells) → P)
same_zeros count ps cells P is both =
    let long : length cells ≡ count = ap length (sym is) ∙ short_length count ps in
    ((λ p. sym is ∙ (both.0 p ∙ ap zeros (sym long))), (λ z. both.1 (is ∙ (z ∙ ap zeros long))))
