-- A value of a type is one of each type that the type joins to.
use Rattle.std.proofs.Common.{◌≡◌, ◌≤◌, ℕ, inl, inr, List, [], ◌∷◌, Option, Some, None, refl, subst, arith}
use Rattle.std.specs.Prelude.{max, option_map, option_and_then, bytes_eq, true, false, cond}
use Rattle.std.specs.List.{AllByRecursion}
use Rattle.sb_types.specs.Value.{Value, Values, items_of}
use Rattle.sb_types.specs.ValueType.{ValueType, ints, texts, truths, pairs, options, lists, records, Fields, no_field, field}
use Rattle.sb_terms.specs.Agreement.{both, same_named, joined, fields_joined}
use Rattle.sb_terms.specs.Tables.{joined_with}
use Rattle.sb_meaning.specs.Shaped.{IsValueWith, AreFieldsWith}

-- ---- what is there, where an option is

pub both_some : {A B C : Type 0} (f : A → B → C) (x : Option A) (y : Option B) (c : C) → both f x y ≡ Some c → (a : A) × (b : B) × (x ≡ Some a) × (y ≡ Some b) × (f a b ≡ c)
both_some f (Some a) (Some b) c e = (a, b, refl, refl, cc)
both_some f (Some a) None c e = cc
both_some f None y c e = cc

pub map_some : {A B : Type 0} (f : A → B) (x : Option A) (b : B) → option_map f x ≡ Some b → (a : A) × (x ≡ Some a) × (f a ≡ b)
map_some f (Some a) b e = (a, refl, cc)
map_some f None b e = cc

pub then_some : {A B : Type 0} (f : A → Option B) (x : Option A) (b : B) → option_and_then f x ≡ Some b → (a : A) × (x ≡ Some a) × (f a ≡ Some b)
then_some f (Some a) b e = (a, refl, e)
then_some f None b e = cc

named_some : {A : Type 0} (name other : List ℕ) (x : Option A) (a : A) → same_named name other x ≡ Some a → x ≡ Some a
named_some name other x a = elim (bytes_eq name other) as (λ is. cond is x None ≡ Some a → x ≡ Some a) [ true ↦ λ e. e | false ↦ λ e. cc ]

module _ (P : List ℕ → Type 0) where
  -- each value of the second type is one of the first
  abbrev pub Covers : ValueType → ValueType → Type 0
  Covers c a = (v : Value) → IsValueWith P a v → IsValueWith P c v

  abbrev CoverFields : Fields → Fields → Type 0
  CoverFields c a = (vs : Values) → AreFieldsWith P a vs → AreFieldsWith P c vs

  pub all_covered : (c a : ValueType) → Covers c a → (vs : List Value) → AllByRecursion (IsValueWith P a) vs → AllByRecursion (IsValueWith P c) vs
  all_covered c a h [] are = tt
  all_covered c a h (v ∷ vs) are = (h v are.0, all_covered c a h vs are.1)

  pairs_cover : (a b c d : ValueType) → Covers c a → Covers d b → Covers (pairs c d) (pairs a b)
  pairs_cover a b c d h k v is = (is.0, is.1, is.2, h is.0 is.3, k is.1 is.4)

  options_cover : (a c : ValueType) → Covers c a → Covers (options c) (options a)
  options_cover a c h v (inl e) = inl e
  options_cover a c h v (inr is) = inr (is.0, is.1, h is.0 is.2)

  lists_cover : (a c : ValueType) (m n : ℕ) → m ≤ n → Covers c a → Covers (lists c n) (lists a m)
  lists_cover a c m n le h v is = (is.0, is.1, all_covered c a h (items_of is.0) is.2, omega (arith, is.3, le))

  records_cover : (f g : Fields) → CoverFields g f → Covers (records g) (records f)
  records_cover f g h v is = (is.0, is.1, h is.0 is.2)

  field_covers : (name other : List ℕ) (a c : ValueType) (f g : Fields) → Covers c a → CoverFields g f → CoverFields (field name c g) (field other a f)
  field_covers name other a c f g h k vs is = (is.0, is.1, is.2, h is.0 is.3, k is.1 is.4)

  mutual
    pub join_covers : (a b c : ValueType) → joined a b ≡ Some c → Covers c a × Covers c b
    join_covers ints ints c e = let same : ints ≡ c = cc in subst (λ c. Covers c ints × Covers c ints) same (λ v is. is, λ v is. is)
    join_covers texts texts c e = let same : texts ≡ c = cc in subst (λ c. Covers c texts × Covers c texts) same (λ v is. is, λ v is. is)
    join_covers truths truths c e = let same : truths ≡ c = cc in subst (λ c. Covers c truths × Covers c truths) same (λ v is. is, λ v is. is)
    join_covers (pairs a b) (pairs a' b') c e =
        let s = both_some pairs (joined a a') (joined b b') c e in
        let l = join_covers a a' s.0 s.2 in
        let r = join_covers b b' s.1 s.3 in
        subst (λ c. Covers c (pairs a b) × Covers c (pairs a' b')) s.4 (pairs_cover a b s.0 s.1 l.0 r.0, pairs_cover a' b' s.0 s.1 l.1 r.1)
    join_covers (options a) (options b) c e =
        let s = map_some options (joined a b) c e in
        let l = join_covers a b s.0 s.1 in
        subst (λ c. Covers c (options a) × Covers c (options b)) s.2 (options_cover a s.0 l.0, options_cover b s.0 l.1)
    join_covers (lists a m) (lists b n) c e =
        let s = map_some (λ t. lists t (max m n)) (joined a b) c e in
        let l = join_covers a b s.0 s.1 in
        subst (λ c. Covers c (lists a m) × Covers c (lists b n)) s.2 (lists_cover a s.0 m (max m n) (omega arith) l.0, lists_cover b s.0 n (max m n) (omega arith) l.1)
    join_covers (records f) (records g) c e =
        let s = map_some records (fields_joined f g) c e in
        let l = fields_cover f g s.0 s.1 in
        subst (λ c. Covers c (records f) × Covers c (records g)) s.2 (records_cover f s.0 l.0, records_cover g s.0 l.1)
    join_covers a b c e = cc

    fields_cover : (a b c : Fields) → fields_joined a b ≡ Some c → CoverFields c a × CoverFields c b
    fields_cover no_field no_field c e = let same : no_field ≡ c = cc in subst (λ c. CoverFields c no_field × CoverFields c no_field) same (λ v is. is, λ v is. is)
    fields_cover (field name t f) (field other u g) c e =
        let s = both_some (field name) (same_named name other (joined t u)) (fields_joined f g) c e in
        let l = join_covers t u s.0 (named_some name other (joined t u) s.0 s.2) in
        let r = fields_cover f g s.1 s.3 in
        subst (λ c. CoverFields c (field name t f) × CoverFields c (field other u g)) s.4 (field_covers name name t s.0 f s.1 l.0 r.0, field_covers name other u s.0 g s.1 l.1 r.1)
    fields_cover a b c e = cc

  pub cover_again : (a b c : ValueType) → Covers c b → Covers b a → Covers c a
  cover_again a b c h k v is = h v (k v is)

  more_covered : (b c : ValueType) (ts : List ValueType) → Covers c b → AllByRecursion (Covers b) ts → AllByRecursion (Covers c) ts
  more_covered b c [] h all = tt
  more_covered b c (t ∷ ts) h all = (cover_again t b c h all.0, more_covered b c ts h all.1)

  -- a join with others covers each
  pub joins_cover : (t : ValueType) (ts : List ValueType) (c : ValueType) → joined_with t ts ≡ Some c → Covers c t × AllByRecursion (Covers c) ts
  joins_cover t [] c e = let same : t ≡ c = cc in (subst (λ c. Covers c t) same (λ v is. is), tt)
  joins_cover t (u ∷ us) c e =
      let s = then_some (λ joint. joined_with joint us) (joined t u) c e in
      let l = join_covers t u s.0 s.1 in
      let r = joins_cover s.0 us c s.2 in
      (cover_again t s.0 c r.0 l.0, (cover_again u s.0 c r.0 l.1, r.1))
