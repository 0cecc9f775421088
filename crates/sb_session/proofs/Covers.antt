-- The covers of a session: the first chunks.
use Rattle.std.proofs.Common.{◌≡◌, ℕ, zero, suc, ◌+◌, ◌*◌, ◌/◌, ◌<◌, ◌≤◌, Bool, true, false, cond, ◌&&◌, ◌||◌, List, [], ◌∷◌, ◌++◌, refl, sym, ap, ◌∙◌, arith}
use Rattle.std.specs.Prelude.{nat_lt, nat_le, ◌==◌, min}
use Rattle.std.specs.List.{AllByRecursion, range_with_len}
use Rattle.std.proofs.lemmas.Bool.{lt-ltb, le-ltb, ltb-true, ltb-false, leb-true, leb-false, eqb-true, eqb-false}
use Rattle.std.proofs.Math.Nat.{le-div_iff_mul-le}
use Rattle.sb_text.specs.Ranges.{put, union}
use Rattle.sb_laws.proofs.Positions.{ap_both}
use Rattle.sb_feed.specs.Places.{is_in}
use Rattle.sb_job.specs.Emitted.{is_between}

pub range_append : (a n b m k : ℕ) → b ≡ a + n → k ≡ n + m → range_with_len a n ++ range_with_len b m ≡ range_with_len a k
range_append a zero b m k e f = ap_both range_with_len (omega (arith, e)) (omega (arith, f))
range_append a (suc n) b m zero e f = absurd (omega (arith, f))
range_append a (suc n) b m (suc k) e f = ap (λ l. a ∷ l) (range_append (a + 1) n b m k (omega (arith, e)) (omega (arith, f)))

range_below : (a n e : ℕ) → a + n ≤ e → AllByRecursion (λ x. x < e) (range_with_len a n)
range_below a zero e h = tt
range_below a (suc n) e h = (omega (arith, h), range_below (a + 1) n e (omega (arith, h)))

-- the first of these numbers, if there is one, is above n
IsAbove : ℕ → List ℕ → Type 0
IsAbove n [] = Unit {0}
IsAbove n (m ∷ numbers) = n < m

put_here : (n m : ℕ) (numbers : List ℕ) (k l : Bool) → nat_lt n m ≡ k → n < m → put n (m ∷ numbers) ≡ n ∷ m ∷ numbers
put_here n m numbers k l e less = ap (λ t. cond t (n ∷ m ∷ numbers) (cond (n == m) (m ∷ numbers) (m ∷ put n numbers))) (lt-ltb n m less)

apart : (n m : ℕ) (t : Bool) → m < n → (n == m) ≡ t → t ≡ false
apart n m true less e = absurd (omega (arith, less, eqb-true))
apart n m false less e = refl

put_later : (n m : ℕ) (numbers : List ℕ) → m < n → put n (m ∷ numbers) ≡ m ∷ put n numbers
put_later n m numbers less =
    ap (λ t. cond t (n ∷ m ∷ numbers) (cond (n == m) (m ∷ numbers) (m ∷ put n numbers))) (le-ltb n m (omega (arith, less)))
    ∙ ap (λ t. cond t (m ∷ numbers) (m ∷ put n numbers)) (apart n m _ less refl)

put_between : (n : ℕ) (xs ys : List ℕ) → AllByRecursion (λ x. x < n) xs → IsAbove n ys → put n (xs ++ ys) ≡ xs ++ n ∷ ys
unfolding IsAbove
put_between n [] [] below above = refl
put_between n [] (y ∷ ys) below above = put_here n y ys _ true refl above
put_between n (x ∷ xs) ys below above = put_later n x (xs ++ ys) below.0 ∙ ap (λ l. x ∷ l) (put_between n xs ys below.1 above)

-- the next number behind a range
pub put_next : (a n b k : ℕ) → b ≡ a + n → k ≡ n + 1 → put b (range_with_len a n) ≡ range_with_len a k
unfolding IsAbove
put_next a n b k e f =
    ap (put b) (sym (append_none (range_with_len a n)))
    ∙ (put_between b (range_with_len a n) [] (range_below a n b (omega (arith, e))) tt ∙ range_append a n b 1 k e (omega (arith, f)))
  where
    append_none : (xs : List ℕ) → xs ++ [] ≡ xs
    append_none [] = refl
    append_none (x ∷ xs) = ap (λ l. x ∷ l) (append_none xs)

above_range : (n a m : ℕ) → n < a → IsAbove n (range_with_len a m)
unfolding IsAbove
above_range n a zero less = tt
above_range n a (suc m) less = less

all_later : (e f : ℕ) (xs : List ℕ) → e ≤ f → AllByRecursion (λ x. x < e) xs → AllByRecursion (λ x. x < f) xs
all_later e f [] le h = tt
all_later e f (x ∷ xs) le h = (omega (arith, le, h.0), all_later e f xs le h.1)

union_behind : (b m : ℕ) (xs : List ℕ) → AllByRecursion (λ x. x < b) xs → union xs (range_with_len b m) ≡ xs ++ range_with_len b m
union_behind b zero xs below = sym (append_none xs)
  where
    append_none : (xs : List ℕ) → xs ++ [] ≡ xs
    append_none [] = refl
    append_none (x ∷ xs) = ap (λ l. x ∷ l) (append_none xs)
union_behind b (suc m) xs below =
    ap (put b) (union_behind (b + 1) m xs (all_later b (b + 1) xs (omega arith) below))
    ∙ put_between b xs (range_with_len (b + 1) m) below (above_range b (b + 1) m (omega arith))

-- the chunks worked before with the next ones
pub union_next : (w n k : ℕ) → k ≡ w + n → union (range_with_len 0 w) (range_with_len w n) ≡ range_with_len 0 k
union_next w n k e = union_behind w n (range_with_len 0 w) (range_below 0 w w (omega arith)) ∙ range_append 0 w w n k (omega arith) (omega (arith, e))

nothing_cases : (a c e : ℕ) (k l : Bool) → e ≡ a + 0 → nat_le a c ≡ k → nat_lt c e ≡ l → false ≡ (k && l)
nothing_cases a c e true true d x y = absurd (omega (arith, d, leb-true, ltb-true))
nothing_cases a c e true false d x y = refl
nothing_cases a c e false l d x y = refl

in_cases : (a c e n : ℕ) (k l m o : Bool) → e ≡ a + suc n → (a == c) ≡ k → nat_le a c ≡ l → nat_le (a + 1) c ≡ m → nat_lt c e ≡ o → (k || (m && o)) ≡ (l && o)
in_cases a c e n true true m true d x y z w = refl
in_cases a c e n true true m false d x y z w = absurd (omega (arith, d, eqb-true, ltb-false))
in_cases a c e n true false m o d x y z w = absurd (omega (arith, eqb-true, leb-false))
in_cases a c e n false true true o d x y z w = refl
in_cases a c e n false true false o d x y z w = absurd (omega (arith, eqb-false, leb-true, leb-false))
in_cases a c e n false false true o d x y z w = absurd (omega (arith, leb-true, leb-false))
in_cases a c e n false false false o d x y z w = refl

pub in_range : (a n e c : ℕ) → e ≡ a + n → is_in (range_with_len a n) c ≡ (nat_le a c && nat_lt c e)
in_range a zero e c d = nothing_cases a c e _ _ d refl refl
in_range a (suc n) e c d = ap (λ t. a == c || t) (in_range (a + 1) n e c (omega (arith, d))) ∙ in_cases a c e n _ _ _ _ d refl refl refl refl

fresh_cases : (a b c e : ℕ) (k l m n : Bool) → nat_le a c ≡ k → nat_lt c b ≡ l → nat_le b c ≡ m → nat_lt c e ≡ n → ((k && l) && (m && n)) ≡ false
fresh_cases a b c e true true true n x y z w = absurd (omega (arith, ltb-true, leb-true))
fresh_cases a b c e true true false n x y z w = refl
fresh_cases a b c e true false m n x y z w = refl
fresh_cases a b c e false l m n x y z w = refl

-- the next chunks aren't in the cover
pub fresh_next : (w n c : ℕ) → (is_in (range_with_len 0 w) c && is_in (range_with_len w n) c) ≡ false
fresh_next w n c = ap_both ◌&&◌ (in_range 0 w w c (omega arith)) (in_range w n (w + n) c refl) ∙ fresh_cases 0 w c (w + n) _ _ _ _ refl refl refl refl

at_least : (w k i : ℕ) (s t : Bool) → 0 < k → nat_le (w * k) i ≡ s → nat_le w (i / k) ≡ t → s ≡ t
at_least w k i true true some x y = refl
at_least w k i true false some x y = let le = (le-div_iff_mul-le {k = k} {x = w} {y = i} some).1 (leb-true _ _ x) in absurd (omega (arith, le, leb-false))
at_least w k i false true some x y = let le = (le-div_iff_mul-le {k = k} {x = w} {y = i} some).0 (leb-true _ _ y) in absurd (omega (arith, le, leb-false))
at_least w k i false false some x y = refl

below : (u k i n to : ℕ) (s t : Bool) → 0 < k → i < n → to ≡ min (u * k) n → nat_lt i to ≡ s → nat_lt (i / k) u ≡ t → s ≡ t
below u k i n to true true some less e x y = refl
below u k i n to true false some less e x y = let le = (le-div_iff_mul-le {k = k} {x = u} {y = i} some).0 (ltb-false _ _ y) in absurd (omega (arith, le, e, ltb-true))
below u k i n to false true some less e x y = absurd (no (ltb-true _ _ y))
  where
    no : i / k < u → ⊥
    no lt = let ge : u * k ≤ i = omega (arith, e, less, ltb-false) in let le = (le-div_iff_mul-le {k = k} {x = u} {y = i} some).1 ge in omega (arith, le, lt)
below u k i n to false false some less e x y = refl

-- the positions of the chunks from one on and below another
pub in_chunks : (w u k n from to m i : ℕ) → 0 < k → i < n → from ≡ w * k → to ≡ min (u * k) n → u ≡ w + m → is_between from to i ≡ is_in (range_with_len w m) (i / k)
in_chunks w u k n from to m i some less e f g =
    ap_both ◌&&◌ (ap (λ a. nat_le a i) e ∙ at_least w k i _ _ some refl refl) (below u k i n to _ _ some less f refl refl) ∙ sym (in_range w m u (i / k) g)
