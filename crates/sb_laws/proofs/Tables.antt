-- A value added at its key, and tables that have the folds.
use Rattle.std.proofs.Common.{◌≡◌, Bool, true, false, cond, ◌&&◌, List, [], ◌∷◌, ◌++◌, map, filter, Option, Some, None, refl, sym, ap, subst, ◌∙◌, append_assoc, append-nil, T}
use Rattle.std.specs.List.{AllByRecursion}
use Rattle.std.specs.declared.cmp.Ordering.{Ordering}
use Rattle.std.specs.declared.cmp.Ordering.TheVariants.{Less, Equal, Greater}
use Rattle.std.specs.Ordering.{eq_by_cmp, is_eq, is_lt}
use Rattle.std.specs.Cmp.{IsTotalOrder}
use Rattle.std.specs.FinMap.{find, is_sorted, put}
use Rattle.std.specs.FinMap.Entries.{by_order, below_all, is_sorted-put, find-put, find_tied}
use Rattle.sb_laws.specs.Sums.{sum_of, both_sums, IsValid}
use Rattle.sb_laws.specs.Tables.{values_at, fold_at, AreFolds, add_to, add_all}
use Rattle.sb_laws.proofs.Sums.{sum_last}

pub first : (a b : Bool) → T (a && b) → T a
first true b p = tt
first false b p = p

pub second : (a b : Bool) → T (a && b) → T b
second true b p = p
second false b p = absurd p

pub both : (a b : Bool) → T a → T b → T (a && b)
both true b p q = q
both false b p q = p

pub less : (o : Ordering) → T (is_lt o) → o ≡ Less
less Less p = refl
less Equal p = absurd p
less Greater p = absurd p

pub equal : (o : Ordering) → is_eq o ≡ true → o ≡ Equal
equal Less p = cc
equal Equal p = refl
equal Greater p = cc

pub is_true : (b : Bool) → T b → b ≡ true
is_true true p = refl
is_true false p = absurd p

pub truly : (b : Bool) → b ≡ true → T b
truly true p = tt
truly false p = cc

-- a value with what stands before it added on its left
abbrev pub plus_onto : {E : Type 0} → (E → E → E) → Option E → E → E
plus_onto add None v = v
plus_onto add (Some s) v = add s v

pub both_some : {E : Type 0} (add : E → E → E) (a : Option E) (v : E) → both_sums add a (Some v) ≡ Some (plus_onto add a v)
both_some add None v = refl
both_some add (Some a) v = refl

module _ {K E : Type 0} (R : K → K → Ordering) (o : IsTotalOrder R) where
  pub find_none : (q : K) (es : List (K × E)) → T (below_all R q es) → find R q es ≡ None
  find_none q [] h = refl
  find_none q (e ∷ es) h =
      elim (R q e.0) as (λ r. T (is_lt r && below_all R q es) → cond (is_eq r) (Some e.1) (find R q es) ≡ None) [
        | Less ↦ λ k. find_none q es k
        | Equal ↦ λ k. absurd k
        | Greater ↦ λ k. absurd k
      ] h

  pub below_less : (x y : K) (es : List (K × E)) → R x y ≡ Less → T (below_all R y es) → T (below_all R x es)
  below_less x y [] p h = tt
  below_less x y (e ∷ es) p h =
      both _ _ (subst (λ r. T (is_lt r)) (sym (o.trans x y e.0 p (less _ (first _ _ h)))) tt) (below_less x y es p (second _ _ h))

  -- what is found in valid rows is valid
  pub find_valid : (V : E → Type 0) (q : K) (es : List (K × E)) → AllByRecursion (λ e. V e.1) es → IsValid V (find R q es)
  find_valid V q [] h = tt
  find_valid V q (e ∷ es) h = elim (eq_by_cmp R q e.0) as (λ b. IsValid V (cond b (Some e.1) (find R q es))) [ true ↦ h.0 | false ↦ find_valid V q es h.1 ]

  module _ (add : E → E → E) where
    pub add_to_is_put : (k : K) (v : E) (es : List (K × E)) → T (is_sorted R es) → add_to R add k v es ≡ put R k (plus_onto add (find R k es) v) es
    add_to_is_put k v [] h = refl
    add_to_is_put k v (e ∷ es) h =
        elim (R k e.0) as (λ r. R k e.0 ≡ r → by_order r ((k, v) ∷ e ∷ es) ((e.0, add e.1 v) ∷ es) (e ∷ add_to R add k v es)
        ≡ by_order r ((k, plus_onto add (cond (is_eq r) (Some e.1) (find R k es)) v) ∷ e ∷ es)
        ((e.0, plus_onto add (cond (is_eq r) (Some e.1) (find R k es)) v) ∷ es)
        (e ∷ put R k (plus_onto add (cond (is_eq r) (Some e.1) (find R k es)) v) es)) [
          | Less ↦ λ p. ap (λ x. (k, plus_onto add x v) ∷ e ∷ es) (sym (find_none k es (below_less k e.0 es p (first _ _ h))))
          | Equal ↦ λ p. refl
          | Greater ↦ λ p. ap (λ xs. e ∷ xs) (add_to_is_put k v es (second _ _ h))
        ] refl

    -- the keys still rise
    pub sorted_add_to : (k : K) (v : E) (es : List (K × E)) → T (is_sorted R es) → T (is_sorted R (add_to R add k v es))
    sorted_add_to k v es h = subst (λ t. T (is_sorted R t)) (sym (add_to_is_put k v es h)) (is_sorted-put R o k (plus_onto add (find R k es) v) es h)

    -- at its key a table has the sum, at every other key what it had
    pub find_add_to : (q k : K) (v : E) (es : List (K × E)) → T (is_sorted R es) → find R q (add_to R add k v es) ≡ cond (eq_by_cmp R q k) (Some (plus_onto add (find R k es) v)) (find R q es)
    find_add_to q k v es h = ap (find R q) (add_to_is_put k v es h) ∙ find-put R o q k (plus_onto add (find R k es) v) es

    pub sorted_add_all : (t parts : List (K × E)) → T (is_sorted R t) → T (is_sorted R (add_all R add t parts))
    sorted_add_all t [] h = h
    sorted_add_all t (p ∷ parts) h = sorted_add_all (add_to R add p.0 p.1 t) parts (sorted_add_to p.0 p.1 t h)

    pub valid_add_to : (V : E → Type 0) → ((a b : E) → V a → V b → V (add a b)) → (k : K) (v : E) (es : List (K × E)) → V v → AllByRecursion (λ e. V e.1) es
        → AllByRecursion (λ e. V e.1) (add_to R add k v es)
    valid_add_to V keeps k v [] p h = (p, tt)
    valid_add_to V keeps k v (e ∷ es) p h =
        elim (R k e.0) as (λ r. AllByRecursion (λ e. V e.1) (by_order r ((k, v) ∷ e ∷ es) ((e.0, add e.1 v) ∷ es) (e ∷ add_to R add k v es))) [
          | Less ↦ (p, h)
          | Equal ↦ (keeps e.1 v h.0 p, h.1)
          | Greater ↦ (h.0, valid_add_to V keeps k v es p h.1)
        ]

    pub valid_add_all : (V : E → Type 0) → ((a b : E) → V a → V b → V (add a b)) → (t parts : List (K × E)) → AllByRecursion (λ e. V e.1) t → AllByRecursion (λ e. V e.1) parts
        → AllByRecursion (λ e. V e.1) (add_all R add t parts)
    valid_add_all V keeps t [] h g = h
    valid_add_all V keeps t (p ∷ parts) h g = valid_add_all V keeps (add_to R add p.0 p.1 t) parts (valid_add_to V keeps p.0 p.1 t g.0 h) g.1

    values_last : (q : K) (parts : List (K × E)) (p : K × E) → values_at R q (parts ++ p ∷ []) ≡ values_at R q parts ++ cond (eq_by_cmp R q p.0) (p.1 ∷ []) []
    values_last q [] p = elim (eq_by_cmp R q p.0) as (λ b. map (λ (x : K × E). x.1) (cond b (p ∷ []) []) ≡ cond b (p.1 ∷ []) []) [ true ↦ refl | false ↦ refl ]
    values_last q (x ∷ parts) p =
        let rest = values_last q parts p in
        elim (eq_by_cmp R q x.0) as (λ b. map (λ (y : K × E). y.1) (cond b (x ∷ filter (λ y. eq_by_cmp R q y.0) (parts ++ p ∷ [])) (filter (λ y. eq_by_cmp R q y.0) (parts ++ p ∷ [])))
        ≡ map (λ (y : K × E). y.1) (cond b (x ∷ filter (λ y. eq_by_cmp R q y.0) parts) (filter (λ y. eq_by_cmp R q y.0) parts)) ++ cond (eq_by_cmp R q p.0) (p.1 ∷ []) []) [
          | true ↦ ap (λ xs. x.1 ∷ xs) rest
          | false ↦ rest
        ]

    fold_last : (q : K) (parts : List (K × E)) (p : K × E) → fold_at R add q (parts ++ p ∷ []) ≡ cond (eq_by_cmp R q p.0) (Some (plus_onto add (fold_at R add q parts) p.1)) (fold_at R add q parts)
    fold_last q parts p =
        ap (sum_of add) (values_last q parts p)
        ∙ elim (eq_by_cmp R q p.0) as (λ b. sum_of add (values_at R q parts ++ cond b (p.1 ∷ []) []) ≡ cond b (Some (plus_onto add (fold_at R add q parts) p.1)) (fold_at R add q parts)) [
          | true ↦ sum_last add (values_at R q parts) p.1 ∙ both_some add (fold_at R add q parts) p.1
          | false ↦ ap (sum_of add) (append-nil (values_at R q parts))
        ]

    one_more : (t done : List (K × E)) (p : K × E) → T (is_sorted R t) → ((q : K) → find R q t ≡ fold_at R add q done)
        → (q : K) → find R q (add_to R add p.0 p.1 t) ≡ fold_at R add q (done ++ p ∷ [])
    one_more t done p h each q =
        find_add_to q p.0 p.1 t h
        ∙ (elim (eq_by_cmp R q p.0) as (λ b. eq_by_cmp R q p.0 ≡ b → cond b (Some (plus_onto add (find R p.0 t) p.1)) (find R q t) ≡ cond b (Some (plus_onto add (fold_at R add q done) p.1)) (fold_at R add q done)) [
          | true ↦ λ is. ap (λ x. Some (plus_onto add x p.1)) (find_tied R o q p.0 (equal _ is) t ∙ each q)
          | false ↦ λ is. each q
        ] refl
        ∙ sym (fold_last q done p))

    -- a table that has the folds of the parts so far has, with one part added, those of the parts with it
    pub folds_with : (table done : List (K × E)) (part : K × E) → AreFolds R add table done → AreFolds R add (add_to R add part.0 part.1 table) (done ++ part ∷ [])
    folds_with table done part h =
        let rising = truly _ h.rising in
        record { rising = is_true _ (sorted_add_to part.0 part.1 table rising); each = one_more table done part rising h.each }

    -- and with all of a list added those of both
    pub folds_with_all : (table done parts : List (K × E)) → AreFolds R add table done → AreFolds R add (add_all R add table parts) (done ++ parts)
    folds_with_all table done [] h = subst (AreFolds R add table) (sym (append-nil done)) h
    folds_with_all table done (p ∷ parts) h =
        subst (AreFolds R add (add_all R add (add_to R add p.0 p.1 table) parts)) (append_assoc done (p ∷ []) parts)
        (folds_with_all (add_to R add p.0 p.1 table) (done ++ p ∷ []) parts (folds_with table done p h))

    -- adding part by part gives the folds
    pub all_added_are_folds : (parts : List (K × E)) → AreFolds R add (add_all R add [] parts) parts
    all_added_are_folds parts = folds_with_all [] [] parts (record { rising = refl; each = λ q. refl })
