-- The stores of a program and the dictionaries that are theirs.
use Rattle.std.proofs.Common.{◌≡◌, ℕ, zero, suc, ◌<◌, List, [], ◌∷◌, map, length, Some, None, refl, ap, ◌∙◌, arith}
use Rattle.std.specs.Prelude.{slice_get}
use Rattle.sb_check.specs.Declarations.{Store}
use Rattle.sb_check.specs.Programs.{CheckedProgram}
use Rattle.sb_feed.specs.Jobs.{add_by, valid_by}
use Rattle.sb_kind.specs.Elements.{IsOf, plus}
use Rattle.sb_kind.specs.Monoids.{Monoid}
use Rattle.sb_meaning.specs.Emissions.{monoid_at}

pub there : {A : Type 0} (xs : List A) (k : ℕ) → k < length xs → (x : A) × (slice_get xs k ≡ Some x)
there [] k less = absurd (omega (arith, less))
there (x ∷ xs) zero less = (x, refl)
there (x ∷ xs) (suc k) less = there xs k (omega (arith, less))

pub monoid_is : (c : CheckedProgram) (k : ℕ) (d : Store) → slice_get c.declared.stores k ≡ Some d → monoid_at c k ≡ d.monoid
monoid_is c k d is = rw is refl

-- the plus of a runner's store is that of the program's
pub plus_same : {M : Type 0} (monoid : M → Monoid) (monoids : List M) (stores : List Store) (k : ℕ) (d : Store) → map monoid monoids ≡ map (λ s. s.monoid) stores → slice_get stores k ≡ Some d
    → add_by (λ m. plus (monoid m)) (slice_get monoids k) ≡ plus d.monoid
plus_same monoid monoids [] k d same is = absurd (let no : None ≡ Some d = is in cc)
plus_same monoid [] (s ∷ stores) k d same is = cc
plus_same monoid (m ∷ monoids) (s ∷ stores) zero d same is =
    let head : monoid m ≡ s.monoid = cc in
    let one : Some s ≡ Some d = is in let eq : s ≡ d = cc in
    ap plus (head ∙ ap (λ x. x.monoid) eq)
plus_same monoid (m ∷ monoids) (s ∷ stores) (suc k) d same is =
    let tail : map monoid monoids ≡ map (λ s. s.monoid) stores = cc in
    plus_same monoid monoids stores k d tail is

pub same_length : {A B C : Type 0} (f : A → C) (g : B → C) (xs : List A) (ys : List B) → map f xs ≡ map g ys → length xs ≡ length ys
same_length f g [] [] is = refl
same_length f g [] (y ∷ ys) is = cc
same_length f g (x ∷ xs) [] is = cc
same_length f g (x ∷ xs) (y ∷ ys) is = let tail : map f xs ≡ map g ys = cc in let others = same_length f g xs ys tail in omega (arith, others)

-- the elements of a runner's store are those of the program's
pub valid_same : {M : Type 0} (monoid : M → Monoid) (monoids : List M) (stores : List Store) (k : ℕ) (d : Store) → map monoid monoids ≡ map (λ s. s.monoid) stores → slice_get stores k ≡ Some d
    → valid_by (λ m. IsOf (monoid m)) (slice_get monoids k) ≡ IsOf d.monoid
valid_same monoid monoids [] k d same is = absurd (let no : None ≡ Some d = is in cc)
valid_same monoid [] (s ∷ stores) k d same is = cc
valid_same monoid (m ∷ monoids) (s ∷ stores) zero d same is =
    let head : monoid m ≡ s.monoid = cc in
    let one : Some s ≡ Some d = is in let eq : s ≡ d = cc in
    ap IsOf (head ∙ ap (λ x. x.monoid) eq)
valid_same monoid (m ∷ monoids) (s ∷ stores) (suc k) d same is =
    let tail : map monoid monoids ≡ map (λ s. s.monoid) stores = cc in
    valid_same monoid monoids stores k d tail is
