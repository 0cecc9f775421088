-- What is found at a key in maps that are added.
use Rattle.std.proofs.Common.{◌≡◌, ◌∙◌, Bool, true, false, cond, List, [], ◌∷◌, Option, Some, None, refl, sym, ap, subst}
use Rattle.std.specs.List.{AllByRecursion}
use Rattle.std.specs.declared.cmp.Ordering.{Ordering}
use Rattle.std.specs.declared.cmp.Ordering.TheVariants.{Less, Equal, Greater}
use Rattle.std.specs.Ordering.{is_eq, eq_by_cmp}
use Rattle.std.specs.Cmp.{IsTotalOrder}
use Rattle.std.specs.FinMap.{find}
use Rattle.std.specs.FinMap.Entries.{by_order}
use Rattle.std.proofs.lemmas.Cmp.{on_total}
use Rattle.sb_laws.specs.Sums.{both_sums}
use Rattle.sb_gather.specs.Entries.{IsRising, entry_added}
use Rattle.sb_gather.specs.EntryLaws.{JoinLaws, tied_right, rising_added}
use Rattle.sb_gather.specs.Maps.{by_key, values_added, maps_added}

both_none : {E : Type 0} (add : E → E → E) (a : Option E) → both_sums add a None ≡ a
both_none add None = refl
both_none add (Some a) = refl

tied : (r : Ordering) → is_eq r ≡ true → r ≡ Equal
tied Less e = cc
tied Equal e = refl
tied Greater e = cc

apart : (r : Ordering) → r ≡ Equal → r ≡ Greater → ⊥
apart r e f = cc

-- what the cases of an order come to, where `here` and `new` say whether the key ties with an entry's
module _ {E : Type 0} (add : E → E → E) where
  new_before : (new : Bool) (v : E) (found : Option E) → (new ≡ true → found ≡ None) → cond new (Some v) found ≡ cond new (both_sums add found (Some v)) found
  new_before true v found none = sym (ap (λ f. both_sums add f (Some v)) (none refl))
  new_before false v found none = refl

  joined_here : (here : Bool) (u v : E) (rest : Option E)
      → cond here (Some (add u v)) rest ≡ cond here (both_sums add (cond here (Some u) rest) (Some v)) (cond here (Some u) rest)
  joined_here true u v rest = refl
  joined_here false u v rest = refl

  added_behind : (here new : Bool) (u v : E) (rest : Option E) → (here ≡ true → new ≡ true → ⊥)
      → cond here (Some u) (cond new (both_sums add rest (Some v)) rest) ≡ cond new (both_sums add (cond here (Some u) rest) (Some v)) (cond here (Some u) rest)
  added_behind true true u v rest never = absurd (never refl refl)
  added_behind true false u v rest never = refl
  added_behind false new u v rest never = refl

  one_more : (new : Bool) (v : E) (found rest : Option E) → (new ≡ true → rest ≡ None)
      → both_sums add (cond new (both_sums add found (Some v)) found) rest ≡ both_sums add found (cond new (Some v) rest)
  one_more true v found rest none = ap (both_sums add (both_sums add found (Some v))) (none refl) ∙ both_none add (both_sums add found (Some v))
  one_more false v found rest none = refl

module _ {K E : Type 0} (R : K → K → Ordering) (o : IsTotalOrder R) (add : E → E → E) where
  -- below the first key nothing is found
  find_below : (q k : K) (es : List (K × E)) → R q k ≡ Less → AllByRecursion (λ e. R k e.0 ≡ Less) es → find R q es ≡ None
  find_below q k [] less all = refl
  find_below q k (e ∷ es) less all = ap (λ r. cond (is_eq r) (Some e.1) (find R q es)) (o.trans q k e.0 less all.0) ∙ find_below q k es less all.1

  -- nor where the key ties with one that is below
  find_tied_below : (q k : K) (es : List (K × E)) → R q k ≡ Equal → AllByRecursion (λ e. R k e.0 ≡ Less) es → find R q es ≡ None
  find_tied_below q k [] ties all = refl
  find_tied_below q k (e ∷ es) ties all = ap (λ r. cond (is_eq r) (Some e.1) (find R q es)) (o.congr q k e.0 ties ∙ all.0) ∙ find_tied_below q k es ties all.1

  below_first : (q : K) (x e : K × E) (es : List (K × E)) → R q x.0 ≡ Equal → R x.0 e.0 ≡ Less → AllByRecursion (λ f. R e.0 f.0 ≡ Less) es → find R q (e ∷ es) ≡ None
  below_first q x e es ties less all =
      let below = o.congr q x.0 e.0 ties ∙ less in
      ap (λ r. cond (is_eq r) (Some e.1) (find R q es)) below ∙ find_below q e.0 es below all

  -- an entry more adds its value at its key, and nothing at the others
  find_added : (q : K) (x : K × E) (es : List (K × E)) → IsRising (by_key R) es
      → find R q (entry_added (by_key R) (values_added add) x es) ≡ cond (eq_by_cmp R q x.0) (both_sums add (find R q es) (Some x.1)) (find R q es)
  find_added q x [] rising = refl
  find_added q x (e ∷ es) rising =
      elim (R x.0 e.0) as (λ r. R x.0 e.0 ≡ r → find R q (by_order r (x ∷ e ∷ es) (values_added add e x ∷ es) (e ∷ entry_added (by_key R) (values_added add) x es))
      ≡ cond (eq_by_cmp R q x.0) (both_sums add (find R q (e ∷ es)) (Some x.1)) (find R q (e ∷ es))) [
        | Less ↦ λ p. new_before add (eq_by_cmp R q x.0) x.1 (find R q (e ∷ es)) (λ t. below_first q x e es (tied (R q x.0) t) p rising.0)
        | Equal ↦ λ p.
            subst (λ r. cond (is_eq (R q e.0)) (Some (add e.1 x.1)) (find R q es) ≡ cond (is_eq r) (both_sums add (find R q (e ∷ es)) (Some x.1)) (find R q (e ∷ es)))
            (tied_right R o q x.0 e.0 p) (joined_here add (eq_by_cmp R q e.0) e.1 x.1 (find R q es))
        | Greater ↦ λ p.
            ap (λ found. cond (eq_by_cmp R q e.0) (Some e.1) found) (find_added q x es rising.1)
            ∙ added_behind add (eq_by_cmp R q e.0) (eq_by_cmp R q x.0) e.1 x.1 (find R q es) (λ s t. apart (R x.0 e.0) (sym (o.congr q x.0 e.0 (tied (R q x.0) t)) ∙ tied (R q e.0) s) p)
      ] refl

  laws : JoinLaws (by_key R) (λ (entry : K × E). ⊥) (values_added {K = K} add)
  laws = record { in_place = λ x y z e. refl; keeps_valid = λ x y p q. p; associates = λ x y z p q r e f. absurd p }

  pub find_in_both : (a b : List (K × E)) → IsRising (by_key R) a → IsRising (by_key R) b → (q : K)
      → find R q (maps_added R add a b) ≡ both_sums add (find R q a) (find R q b)
  find_in_both a [] first second q = sym (both_none add (find R q a))
  find_in_both a (y ∷ b) first second q =
      find_in_both (entry_added (by_key R) (values_added add) y a) b
      (rising_added (by_key R) (on_total (λ entry. entry.0) o) (λ entry. ⊥) (values_added add) laws y a first) second.1 q
      ∙ (ap (λ found. both_sums add found (find R q b)) (find_added q y a first)
      ∙ one_more add (eq_by_cmp R q y.0) y.1 (find R q a) (find R q b) (λ t. find_tied_below q y.0 b (tied (R q y.0) t) second.0))
