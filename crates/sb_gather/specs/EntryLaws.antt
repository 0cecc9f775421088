-- The laws of adding lists of entries, for any order, any way to join two entries that tie, and any valid entries.
use Rattle.std.proofs.Common.{◌≡◌, List, [], ◌∷◌, refl, sym, ap, ◌∙◌}
use Rattle.std.specs.List.{AllByRecursion}
use Rattle.std.specs.declared.cmp.Ordering.{Ordering}
use Rattle.std.specs.declared.cmp.Ordering.TheVariants.{Less, Equal, Greater}
use Rattle.std.specs.Ordering.{ordering_reverse}
use Rattle.std.specs.Cmp.{IsTotalOrder}
use Rattle.std.specs.FinMap.Entries.{by_order}
use Rattle.sb_gather.specs.Entries.{IsRising, entry_added, entries_added, AreEntries}

module _ {X : Type 0} (R : X → X → Ordering) (o : IsTotalOrder R) where
  pub less_back : (x y : X) → R x y ≡ Less → R y x ≡ Greater
  less_back x y p = o.antisymm y x ∙ ap ordering_reverse p

  pub greater_back : (x y : X) → R x y ≡ Greater → R y x ≡ Less
  greater_back x y p = o.antisymm y x ∙ ap ordering_reverse p

  pub equal_back : (x y : X) → R x y ≡ Equal → R y x ≡ Equal
  equal_back x y p = o.antisymm y x ∙ ap ordering_reverse p

  -- against an entry that ties with y, x stands as against y
  pub tied_right : (x y z : X) → R y z ≡ Equal → R x z ≡ R x y
  tied_right x y z p = o.antisymm x z ∙ (ap ordering_reverse (sym (o.congr y z x p)) ∙ sym (o.antisymm x y))

  pub greater_trans : (x y z : X) → R x y ≡ Greater → R y z ≡ Greater → R x z ≡ Greater
  greater_trans x y z p q = less_back z x (o.trans z y x (greater_back y z q) (greater_back x y p))

  pub all_after : (x y : X) (ys : List X) → R x y ≡ Less → AllByRecursion (λ z. R y z ≡ Less) ys → AllByRecursion (λ z. R x z ≡ Less) ys
  all_after x y [] p h = tt
  all_after x y (z ∷ ys) p h = (o.trans x y z p h.0, all_after x y ys p h.1)

  pub all_tied : (x y : X) (ys : List X) → R x y ≡ Equal → AllByRecursion (λ z. R y z ≡ Less) ys → AllByRecursion (λ z. R x z ≡ Less) ys
  all_tied x y [] p h = tt
  all_tied x y (z ∷ ys) p h = (o.congr x y z p ∙ h.0, all_tied x y ys p h.1)

-- what joining keeps: the place, and validity; and the grouping of three entries that tie doesn't matter
pub record JoinLaws {X : Type 0} (R : X → X → Ordering) (V : X → Type 0) (join : X → X → X) : Type 0 where
  pub in_place : (x y z : X) → R x y ≡ Equal → R (join x y) z ≡ R x z
  pub keeps_valid : (x y : X) → V x → V y → V (join x y)
  pub associates : (x y z : X) → V x → V y → V z → R x y ≡ Equal → R y z ≡ Equal → join (join x y) z ≡ join x (join y z)

module _ {X : Type 0} (R : X → X → Ordering) (o : IsTotalOrder R) (V : X → Type 0) (join : X → X → X) (laws : JoinLaws R V join) where
  abbrev add : X → List X → List X
  add x ys = entry_added R join x ys

  abbrev all : List X → List X → List X
  all xs ys = entries_added R join xs ys

  add_less : (x y : X) (ys : List X) → R x y ≡ Less → add x (y ∷ ys) ≡ x ∷ y ∷ ys
  add_less x y ys p = ap (λ r. by_order r (x ∷ y ∷ ys) (join y x ∷ ys) (y ∷ add x ys)) p

  add_equal : (x y : X) (ys : List X) → R x y ≡ Equal → add x (y ∷ ys) ≡ join y x ∷ ys
  add_equal x y ys p = ap (λ r. by_order r (x ∷ y ∷ ys) (join y x ∷ ys) (y ∷ add x ys)) p

  add_greater : (x y : X) (ys : List X) → R x y ≡ Greater → add x (y ∷ ys) ≡ y ∷ add x ys
  add_greater x y ys p = ap (λ r. by_order r (x ∷ y ∷ ys) (join y x ∷ ys) (y ∷ add x ys)) p

  -- against a joined entry any other stands as against the first of the two
  joined_right : (x y z : X) → R y z ≡ Equal → R x (join y z) ≡ R x y
  joined_right x y z p = o.antisymm x (join y z) ∙ (ap ordering_reverse (laws.in_place y z x p) ∙ sym (o.antisymm x y))

  -- two entries that don't tie may be added in either order: x before y
  turn : (x y : X) (zs : List X) → R x y ≡ Less → add x (add y zs) ≡ add y (add x zs)
  turn x y [] p = add_less x y [] p ∙ sym (add_greater y x [] (less_back R o x y p))
  turn x y (z ∷ zs) p =
      elim (R x z) as (λ r. R x z ≡ r → add x (add y (z ∷ zs)) ≡ add y (add x (z ∷ zs))) [
        | Less ↦ λ xz. left xz
        | Equal ↦ λ xz.
            let yz : R y z ≡ Greater = less_back R o z y (o.congr z x y (equal_back R o x z xz) ∙ p) in
            ap (add x) (add_greater y z zs yz) ∙ (add_equal x z (add y zs) xz
            ∙ (sym (add_greater y (join z x) zs (joined_right y z x (equal_back R o x z xz) ∙ yz)) ∙ sym (ap (add y) (add_equal x z zs xz))))
        | Greater ↦ λ xz.
            let yz : R y z ≡ Greater = greater_trans R o y x z (less_back R o x y p) xz in
            ap (add x) (add_greater y z zs yz) ∙ (add_greater x z (add y zs) xz
            ∙ (ap (λ l. z ∷ l) (turn x y zs p) ∙ (sym (add_greater y z (add x zs) yz) ∙ sym (ap (add y) (add_greater x z zs xz)))))
      ] refl
    where
      left : R x z ≡ Less → add x (add y (z ∷ zs)) ≡ add y (add x (z ∷ zs))
      left xz = (elim (R y z) as (λ r. R y z ≡ r → add x (add y (z ∷ zs)) ≡ x ∷ add y (z ∷ zs)) [
        | Less ↦ λ yz. ap (add x) (add_less y z zs yz) ∙ (add_less x y (z ∷ zs) p ∙ sym (ap (λ l. x ∷ l) (add_less y z zs yz)))
        | Equal ↦ λ yz. ap (add x) (add_equal y z zs yz) ∙ (add_less x (join z y) zs (joined_right x z y (equal_back R o y z yz) ∙ xz) ∙ sym (ap (λ l. x ∷ l) (add_equal y z zs yz)))
        | Greater ↦ λ yz. ap (add x) (add_greater y z zs yz) ∙ (add_less x z (add y zs) xz ∙ sym (ap (λ l. x ∷ l) (add_greater y z zs yz)))
      ] refl) ∙ (sym (add_greater y x (z ∷ zs) (less_back R o x y p)) ∙ sym (ap (add y) (add_less x z zs xz)))

  -- two entries that tie may be joined first
  add_joined : (x y : X) (zs : List X) → V x → V y → AllByRecursion V zs → R x y ≡ Equal → add (join y x) zs ≡ add x (add y zs)
  add_joined x y [] p q h e = sym (add_equal x y [] e)
  add_joined x y (z ∷ zs) p q h e =
      let back = equal_back R o x y e in
      elim (R y z) as (λ r. R y z ≡ r → add (join y x) (z ∷ zs) ≡ add x (add y (z ∷ zs))) [
        | Less ↦ λ yz. add_less (join y x) z zs (laws.in_place y x z back ∙ yz) ∙ (sym (add_equal x y (z ∷ zs) e) ∙ sym (ap (add x) (add_less y z zs yz)))
        | Equal ↦ λ yz.
            let zy = equal_back R o y z yz in
            let xz : R x z ≡ Equal = o.congr x y z e ∙ yz in
            add_equal (join y x) z zs (laws.in_place y x z back ∙ yz)
            ∙ (ap (λ w. w ∷ zs) (sym (laws.associates z y x h.0 q p zy back))
            ∙ (sym (add_equal x (join z y) zs (joined_right x z y zy ∙ xz)) ∙ sym (ap (add x) (add_equal y z zs yz))))
        | Greater ↦ λ yz.
            let xz : R x z ≡ Greater = o.congr x y z e ∙ yz in
            add_greater (join y x) z zs (laws.in_place y x z back ∙ yz)
            ∙ (ap (λ l. z ∷ l) (add_joined x y zs p q h.1 e) ∙ (sym (add_greater x z (add y zs) xz) ∙ sym (ap (add x) (add_greater y z zs yz))))
      ] refl

  pub valid_added : (x : X) (ys : List X) → V x → AllByRecursion V ys → AllByRecursion V (entry_added R join x ys)
  valid_added x [] p h = (p, tt)
  valid_added x (y ∷ ys) p h = elim (R x y) as (λ r. AllByRecursion V (by_order r (x ∷ y ∷ ys) (join y x ∷ ys) (y ∷ add x ys))) [
    | Less ↦ (p, h)
    | Equal ↦ (laws.keeps_valid y x h.0 p, h.1)
    | Greater ↦ (h.0, valid_added x ys p h.1)
  ]

  after_added : (w x : X) (ys : List X) → R w x ≡ Less → AllByRecursion (λ y. R w y ≡ Less) ys → AllByRecursion (λ y. R w y ≡ Less) (add x ys)
  after_added w x [] p h = (p, tt)
  after_added w x (y ∷ ys) p h = elim (R x y) as (λ r. R x y ≡ r → AllByRecursion (λ y. R w y ≡ Less) (by_order r (x ∷ y ∷ ys) (join y x ∷ ys) (y ∷ add x ys))) [
    | Less ↦ λ e. (p, h)
    | Equal ↦ λ e. (joined_right w y x (equal_back R o x y e) ∙ h.0, h.1)
    | Greater ↦ λ e. (h.0, after_added w x ys p h.1)
  ] refl

  joined_before : (x y : X) (ys : List X) → R y x ≡ Equal → AllByRecursion (λ z. R y z ≡ Less) ys → AllByRecursion (λ z. R (join y x) z ≡ Less) ys
  joined_before x y [] e h = tt
  joined_before x y (z ∷ ys) e h = (laws.in_place y x z e ∙ h.0, joined_before x y ys e h.1)

  pub rising_added : (x : X) (ys : List X) → IsRising R ys → IsRising R (entry_added R join x ys)
  rising_added x [] h = (tt, tt)
  rising_added x (y ∷ ys) h = elim (R x y) as (λ r. R x y ≡ r → IsRising R (by_order r (x ∷ y ∷ ys) (join y x ∷ ys) (y ∷ add x ys))) [
    | Less ↦ λ e. ((e, all_after R o x y ys e h.0), h)
    | Equal ↦ λ e. (joined_before x y ys (equal_back R o x y e) h.0, h.1)
    | Greater ↦ λ e. (after_added y x ys (greater_back R o x y e) h.0, rising_added x ys h.1)
  ] refl

  pub one_keeps : (x : X) (ys : List X) → V x → AreEntries R V ys → AreEntries R V (entry_added R join x ys)
  one_keeps x ys p h = record { rising = rising_added x ys h.rising; valid = valid_added x ys p h.valid }

  pub all_keep : (xs ys : List X) → AreEntries R V xs → AllByRecursion V ys → AreEntries R V (entries_added R join xs ys)
  all_keep xs [] h k = h
  all_keep xs (y ∷ ys) h k = all_keep (add y xs) ys (one_keeps y xs k.0 h) k.1

  -- an entry before all of a list may be added after them
  past : (x : X) (xs ys : List X) → AllByRecursion (λ y. R x y ≡ Less) ys → all (add x xs) ys ≡ add x (all xs ys)
  past x xs [] h = refl
  past x xs (y ∷ ys) h = ap (λ l. all l ys) (sym (turn x y xs h.0)) ∙ past x (add y xs) ys h.1

  -- a list with one entry more is added as the list and then the entry
  all_of_added : (x : X) (xs ys : List X) → V x → AllByRecursion V xs → AreEntries R V ys → all xs (add x ys) ≡ add x (all xs ys)
  all_of_added x xs [] p h k = refl
  all_of_added x xs (y ∷ ys) p h k =
      elim (R x y) as (λ r. R x y ≡ r → all xs (by_order r (x ∷ y ∷ ys) (join y x ∷ ys) (y ∷ add x ys)) ≡ add x (all xs (y ∷ ys))) [
        | Less ↦ λ e. past x xs (y ∷ ys) (e, all_after R o x y ys e k.rising.0)
        | Equal ↦ λ e. ap (λ l. all l ys) (add_joined x y xs p k.valid.0 h e) ∙ past x (add y xs) ys (all_tied R o x y ys e k.rising.0)
        | Greater ↦ λ e. all_of_added x (add y xs) ys p (valid_added y xs k.valid.0 h) (record { rising = k.rising.1; valid = k.valid.1 })
      ] refl

  -- any grouping gives the same entries
  pub entries_associate : (a b c : List X) → AreEntries R V a → AreEntries R V b → AreEntries R V c → all (all a b) c ≡ all a (all b c)
  entries_associate a b c p q r = grouped b c q r.valid
    where
      grouped : (b c : List X) → AreEntries R V b → AllByRecursion V c → all (all a b) c ≡ all a (all b c)
      grouped b [] q r = refl
      grouped b (x ∷ c) q r = ap (λ l. all l c) (sym (all_of_added x a b r.0 p.valid q)) ∙ grouped (add x b) c (one_keeps x b r.0 q) r.1

  module _ (commutes : (x y : X) → V x → V y → R x y ≡ Equal → join x y ≡ join y x) where
    either : (x y : X) (zs : List X) → V x → V y → AllByRecursion V zs → add x (add y zs) ≡ add y (add x zs)
    either x y zs p q h = elim (R x y) as (λ r. R x y ≡ r → add x (add y zs) ≡ add y (add x zs)) [
      | Less ↦ λ e. turn x y zs e
      | Equal ↦ λ e.
          let back = equal_back R o x y e in
          sym (add_joined x y zs p q h e) ∙ (ap (λ w. add w zs) (commutes y x q p back) ∙ add_joined y x zs q p h back)
      | Greater ↦ λ e. sym (turn y x zs (greater_back R o x y e))
    ] refl

    through : (x : X) (xs ys : List X) → V x → AllByRecursion V xs → AllByRecursion V ys → all (add x xs) ys ≡ add x (all xs ys)
    through x xs [] p h k = refl
    through x xs (y ∷ ys) p h k = ap (λ l. all l ys) (either y x xs k.0 p h) ∙ through x (add y xs) ys p (valid_added y xs k.0 h) k.1

    first_added : (x : X) (xs : List X) → AllByRecursion (λ y. R x y ≡ Less) xs → x ∷ xs ≡ add x xs
    first_added x [] h = refl
    first_added x (y ∷ xs) h = sym (add_less x y xs h.0)

    -- any order gives the same entries
    pub entries_commute : (a b : List X) → AreEntries R V a → AreEntries R V b → all a b ≡ all b a
    entries_commute [] b p q = onto_nothing b q
      where
        onto_nothing : (b : List X) → AreEntries R V b → all [] b ≡ b
        onto_nothing [] q = refl
        onto_nothing (x ∷ b) q =
            past x [] b q.rising.0 ∙ (ap (add x) (onto_nothing b (record { rising = q.rising.1; valid = q.valid.1 })) ∙ sym (first_added x b q.rising.0))
    entries_commute (x ∷ a) b p q =
        ap (λ l. all l b) (first_added x a p.rising.0)
        ∙ (through x a b p.valid.0 p.valid.1 q.valid
        ∙ (ap (add x) (entries_commute a b (record { rising = p.rising.1; valid = p.valid.1 }) q)
        ∙ sym (through x b a p.valid.0 q.valid p.valid.1)))

  -- added to nothing the entries stay
  pub added_to_nothing : (xs : List X) → IsRising R xs → all [] xs ≡ xs
  added_to_nothing [] h = refl
  added_to_nothing (x ∷ xs) h = past x [] xs h.0 ∙ (ap (add x) (added_to_nothing xs h.1) ∙ first x xs h.0)
    where
      first : (x : X) (xs : List X) → AllByRecursion (λ y. R x y ≡ Less) xs → add x xs ≡ x ∷ xs
      first x [] h = refl
      first x (y ∷ xs) h = add_less x y xs h.0

pub nothing_keeps : {X : Type 0} (R : X → X → Ordering) (V : X → Type 0) → AreEntries R V []
nothing_keeps R V = record { rising = tt; valid = tt }

pub one_alone : {X : Type 0} (R : X → X → Ordering) (V : X → Type 0) (x : X) → V x → AreEntries R V (x ∷ [])
one_alone R V x p = record { rising = (tt, tt); valid = (p, tt) }
