-- Sets and maps as lists of entries in rising order of their keys.
use Rattle.std.specs.Prelude.{◌≡◌, List, []}
use Rattle.std.proofs.Common.{refl, ap, ◌∙◌}
use Rattle.std.specs.declared.cmp.Ordering.{Ordering}
use Rattle.std.specs.declared.cmp.Ordering.TheVariants.{Equal}
use Rattle.std.specs.Ordering.{on}
use Rattle.std.specs.Cmp.{IsTotalOrder}
use Rattle.std.proofs.lemmas.Cmp.{on_total}
use Rattle.std.specs.FinMap.{IsAntisymmetric}
use Rattle.sb_laws.specs.Sums.{SemigroupLaws}
use Rattle.sb_gather.specs.Entries.{entries_added, AreEntries}
use Rattle.sb_gather.specs.EntryLaws.{JoinLaws, all_keep, entries_associate, entries_commute, added_to_nothing}

-- the left of two
abbrev pub left_of : {K : Type 0} → K → K → K
left_of a b = a

-- the keys of both
abbrev pub union : {K : Type 0} → (K → K → Ordering) → List K → List K → List K
union R a b = entries_added R left_of a b

-- the order of pairs by their keys
abbrev pub by_key : {K E : Type 0} → (K → K → Ordering) → K × E → K × E → Ordering
by_key R = on (λ entry. entry.0) R

-- the values of one key added
abbrev pub values_added : {K E : Type 0} → (E → E → E) → K × E → K × E → K × E
values_added add a b = (a.0, add a.1 b.1)

-- the entries of both, with their values added at a key that both have
abbrev pub maps_added : {K E : Type 0} → (K → K → Ordering) → (E → E → E) → List (K × E) → List (K × E) → List (K × E)
maps_added R add a b = entries_added (by_key R) (values_added add) a b

-- the key is the same, and the value is taken back; T says this of two values
abbrev pub ValueBack : {K E U : Type 0} → (U → E → E → Type 0) → U → K × E → K × E → Type 0
ValueBack T undone later earlier = (later.0 ≡ earlier.0) × T undone later.1 earlier.1

abbrev pub AnyKey : {K : Type 0} → K → Type 0
AnyKey key = Unit {0}

module _ {K : Type 0} (R : K → K → Ordering) where
  pub set_laws : JoinLaws R AnyKey left_of
  set_laws = record { in_place = λ x y z e. refl; keeps_valid = λ x y p q. tt; associates = λ x y z p q r e f. refl }

  pub set_commutes : IsAntisymmetric R → (x y : K) → AnyKey x → AnyKey y → R x y ≡ Equal → left_of x y ≡ left_of y x
  set_commutes same x y p q e = same x y e

module _ {E : Type 0} (V : E → Type 0) (add : E → E → E) where
  pub part_laws : ((a b : E) → V a → V b → V (add a b)) → ((a b c : E) → V a → V b → V c → add (add a b) c ≡ add a (add b c)) → SemigroupLaws V add
  part_laws keeps associates = record { keeps_valid = keeps; associates = associates }

module _ {K E : Type 0} (R : K → K → Ordering) (V : E → Type 0) (add : E → E → E) where
  pub map_laws : SemigroupLaws V add → JoinLaws (by_key R) (λ entry. V entry.1) (values_added {K = K} add)
  map_laws laws = record {
    in_place = λ x y z e. refl;
    keeps_valid = λ x y p q. laws.keeps_valid x.1 y.1 p q;
    associates = λ x y z p q r e f. ap (λ value. (x.0, value)) (laws.associates x.1 y.1 z.1 p q r);
  }

  pub map_commutes : IsAntisymmetric R → ((a b : E) → V a → V b → add a b ≡ add b a) → (x y : K × E) → V x.1 → V y.1 → by_key R x y ≡ Equal → values_added add x y ≡ values_added add y x
  map_commutes same commutes x y p q e = ap (λ key. (key, add x.1 y.1)) (same x.0 y.0 e) ∙ ap (λ value. (y.0, value)) (commutes x.1 y.1 p q)

module _ {K E : Type 0} (R : K → K → Ordering) (o : IsTotalOrder R) (V : E → Type 0) (add : E → E → E)
    (keeps : (a b : E) → V a → V b → V (add a b)) (associates : (a b c : E) → V a → V b → V c → add (add a b) c ≡ add a (add b c)) where
  abbrev AreOf : List (K × E) → Type 0
  AreOf a = AreEntries (by_key R) (λ entry. V entry.1) a

  laws : JoinLaws (by_key R) (λ (entry : K × E). V entry.1) (values_added {K = K} add)
  laws = map_laws R V add (part_laws V add keeps associates)

  pub map_keeps : (a b : List (K × E)) → AreOf a → AreOf b → AreOf (maps_added R add a b)
  map_keeps a b p q = all_keep (by_key R) (on_total (λ entry. entry.0) o) (λ entry. V entry.1) (values_added add) laws a b p q.valid

  pub map_associates : (a b c : List (K × E)) → AreOf a → AreOf b → AreOf c → maps_added R add (maps_added R add a b) c ≡ maps_added R add a (maps_added R add b c)
  map_associates a b c p q r = entries_associate (by_key R) (on_total (λ entry. entry.0) o) (λ entry. V entry.1) (values_added add) laws a b c p q r

  pub map_onto_nothing : (a : List (K × E)) → AreOf a → maps_added R add [] a ≡ a
  map_onto_nothing a p = added_to_nothing (by_key R) (on_total (λ entry. entry.0) o) (λ entry. V entry.1) (values_added add) laws a p.rising

  pub map_sums_commute : IsAntisymmetric R → ((a b : E) → V a → V b → add a b ≡ add b a) → (a b : List (K × E)) → AreOf a → AreOf b → maps_added R add a b ≡ maps_added R add b a
  map_sums_commute same commutes a b p q =
      entries_commute (by_key R) (on_total (λ entry. entry.0) o) (λ entry. V entry.1) (values_added add) laws (map_commutes R V add same commutes) a b p q
