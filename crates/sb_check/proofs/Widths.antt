-- Widths that are counted up to 1025.
use Rattle.std.proofs.Common.{◌≡◌, ◌≤◌, ◌<◌, ◌*◌, ◌⊎◌, ℕ, zero, suc, inl, inr, Bool, true, false, cond, Some, refl, arith}
use Rattle.std.specs.Prelude.{min, nat_lt}
use Rattle.std.proofs.lemmas.Bool.{cases_lt}
use Rattle.std.proofs.lemmas.Bool.Decides.{nat_tests}
use Rattle.std.proofs.lemmas.Nat.{mul-le}
use Rattle.sb_types.specs.ValueType.{ValueType, ints, texts, truths, pairs, options, lists, records}
use Rattle.sb_terms.specs.Sizes.{nodes, leaves, most_nodes}
use Rattle.sb_terms.specs.declared.fault.Fault.{Fault}
use Rattle.sb_terms.specs.declared.fault.Fault.TheVariants.{TooLarge, TooWide}
use Rattle.sb_terms.specs.declared.flow.Flow.{Flow}
use Rattle.sb_check.specs.StreamNodes.{flow_sized, size_fault}

pub some_leaf : (t : ValueType) → 1 ≤ leaves t
some_leaf ints = omega arith
some_leaf texts = omega arith
some_leaf truths = omega arith
some_leaf (pairs a b) = let p = some_leaf a in omega arith
some_leaf (options a) = some_leaf a
some_leaf (lists a most) = omega arith
some_leaf (records fields) = omega arith

-- ---- whether a product with a number that is counted up to 1025 is above 1024

is_wide : (w l : ℕ) → 1 ≤ w → 1025 ≤ l → nat_lt 1024 (w * l) ≡ true
is_wide w l p q =
    let r : 1 * 1025 ≤ w * l = mul-le 1 1025 w l p q in
    grind (arith, nat_tests)

wide_great : (w l : ℕ) → 1025 ≤ l → nat_lt 1024 (w * min l 1025) ≡ nat_lt 1024 (w * l)
wide_great zero l p = let e : 0 * min l 1025 ≡ 0 * l = omega arith in rw e refl
wide_great (suc w) l p = rw (is_wide (suc w) l (omega arith) p) (is_wide (suc w) (min l 1025) (omega arith) (omega arith))

wide_case : (w l : ℕ) → (l < 1025) ⊎ (1025 ≤ l) → nat_lt 1024 (w * min l 1025) ≡ nat_lt 1024 (w * l)
wide_case w l (inl p) = let e : min l 1025 ≡ l = omega arith in rw e refl
wide_case w l (inr p) = wide_great w l p

pub wide_same : (w l : ℕ) → nat_lt 1024 (w * min l 1025) ≡ nat_lt 1024 (w * l)
wide_same w l = wide_case w l (cases_lt l 1025)

-- where the product isn't above 1024, neither is the width
pub narrow : (w : ℕ) (t : ValueType) → w * min (leaves t) 1025 ≤ 1024 → w ≤ 1024
narrow w t p =
    let some = some_leaf t in
    let q : w * 1 ≤ w * min (leaves t) 1025 = mul-le w 1 w (min (leaves t) 1025) (omega arith) (omega arith) in
    omega arith

-- ---- the width of a list's elements

abbrev Same : Flow → ℕ → ℕ → ValueType → Type 0
Same f v w t = flow_sized f v t ≡ flow_sized f w t

-- what is too much in a stream that is too wide
abbrev wide_fault : Bool → Fault
wide_fault large = cond large TooLarge TooWide

either : (large : Bool) → cond large (Some TooLarge) (Some TooWide) ≡ Some (wide_fault large)
either true = refl
either false = refl

too_wide_fault : (w : ℕ) (t : ValueType) → nat_lt 1024 (w * leaves t) ≡ true → size_fault w t ≡ Some (wide_fault (nat_lt most_nodes (nodes t)))
unfolding size_fault
too_wide_fault w t p = rw p (either (nat_lt most_nodes (nodes t)))

-- two widths that are too great alike
too_wide : (f : Flow) (v w : ℕ) (t : ValueType) → nat_lt 1024 (v * leaves t) ≡ true → nat_lt 1024 (w * leaves t) ≡ true → Same f v w t
too_wide f v w t p q = rw (too_wide_fault v t p, too_wide_fault w t q) refl

great_elements : (f : Flow) (w most : ℕ) (t : ValueType) → 1025 ≤ most → Same f (w * min most 1025) (w * most) t
great_elements f zero most t p = let e : 0 * min most 1025 ≡ 0 * most = omega arith in rw e refl
great_elements f (suc w) most t p =
    let some = some_leaf t in
    let a : 1 * 1025 ≤ suc w * min most 1025 = mul-le 1 1025 (suc w) (min most 1025) (omega arith) (omega arith) in
    let b : 1 * 1025 ≤ suc w * most = mul-le 1 1025 (suc w) most (omega arith) p in
    let c : 1025 * 1 ≤ (suc w * min most 1025) * leaves t = mul-le 1025 1 (suc w * min most 1025) (leaves t) (omega arith) some in
    let d : 1025 * 1 ≤ (suc w * most) * leaves t = mul-le 1025 1 (suc w * most) (leaves t) (omega arith) some in
    too_wide f _ _ t (grind (arith, nat_tests)) (grind (arith, nat_tests))

elements_case : (f : Flow) (w most : ℕ) (t : ValueType) → (most < 1025) ⊎ (1025 ≤ most) → Same f (w * min most 1025) (w * most) t
elements_case f w most t (inl p) = let e : min most 1025 ≡ most = omega arith in rw e refl
elements_case f w most t (inr p) = great_elements f w most t p

pub capped_elements : (f : Flow) (w most : ℕ) (t : ValueType) → flow_sized f (w * min most 1025) t ≡ flow_sized f (w * most) t
capped_elements f w most t = elements_case f w most t (cases_lt most 1025)
