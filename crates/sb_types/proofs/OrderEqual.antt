-- Values that the order doesn't tell apart are equal.
use Rattle.std.proofs.Common.{◌≡◌, ◌∙◌, ℕ, ℤ, Bool, true, false, cond, List, [], ◌∷◌, refl, ap, sym, arith, eqb}
use Rattle.std.specs.declared.cmp.Ordering.{Ordering}
use Rattle.std.specs.declared.cmp.Ordering.TheVariants.{Less, Equal, Greater}
use Rattle.std.specs.Ordering.{nat_cmp, int_cmp, bool_cmp, ordering_reverse}
use Rattle.std.specs.Cmp.Lexicographic.{slice_cmp}
use Rattle.std.proofs.lemmas.Bool.Decides.{nat_tests}
use Rattle.sb_types.specs.Order.{Head, head_cmp, Tree, Trees, node, nil, cons, tree_cmp, trees_cmp, tree_of, trees_of, value_cmp}
use Rattle.sb_types.specs.OrderLaws.{then_equal, value_total}
use Rattle.sb_types.specs.Value.{Value, Values, int, text, truth, pair, none, some, list, rec, end, more}

-- heads
nat_equal : (m n : ℕ) → nat_cmp m n ≡ Equal → m ≡ n
nat_equal m n e = grind (arith, nat_tests, e)

int_equal : (m n : ℤ) → int_cmp m n ≡ Equal → m ≡ n
int_equal m n e = grind (arith, nat_tests, e)

bool_equal : (a b : Bool) → bool_cmp a b ≡ Equal → a ≡ b
bool_equal false false e = refl
bool_equal false true e = cc
bool_equal true false e = cc
bool_equal true true e = refl

bytes_equal : (xs ys : List ℕ) → slice_cmp nat_cmp xs ys ≡ Equal → xs ≡ ys
bytes_equal [] [] e = refl
bytes_equal [] (y ∷ ys) e = cc
bytes_equal (x ∷ xs) [] e = cc
bytes_equal (x ∷ xs) (y ∷ ys) e =
    let both = then_equal (nat_cmp x y) (slice_cmp nat_cmp xs ys) e in
    ap (λ z. z ∷ xs) (nat_equal x y both.0) ∙ ap (λ zs. y ∷ zs) (bytes_equal xs ys both.1)

head_equal : (h k : Head) → head_cmp h k ≡ Equal → h ≡ k
head_equal h k e =
    let a = then_equal (nat_cmp h.variant k.variant) _ e in
    let b = then_equal (int_cmp h.number k.number) _ a.1 in
    let c = then_equal (slice_cmp nat_cmp h.bytes k.bytes) _ b.1 in
    ap (λ x. record { variant = x; number = h.number; bytes = h.bytes; truth = h.truth }) (nat_equal h.variant k.variant a.0)
    ∙ (ap (λ x. record { variant = k.variant; number = x; bytes = h.bytes; truth = h.truth }) (int_equal h.number k.number b.0)
    ∙ (ap (λ x. record { variant = k.variant; number = k.number; bytes = x; truth = h.truth }) (bytes_equal h.bytes k.bytes c.0)
    ∙ ap (λ x. record { variant = k.variant; number = k.number; bytes = k.bytes; truth = x }) (bool_equal h.truth k.truth c.1)))

-- trees
mutual
  tree_equal : (x y : Tree) → tree_cmp x y ≡ Equal → x ≡ y
  tree_equal (node h ts) (node k us) e =
      let both = then_equal (head_cmp h k) (trees_cmp ts us) e in
      ap (λ l. node l ts) (head_equal h k both.0) ∙ ap (node k) (trees_equal ts us both.1)

  trees_equal : (x y : Trees) → trees_cmp x y ≡ Equal → x ≡ y
  trees_equal nil nil e = refl
  trees_equal nil (cons u us) e = cc
  trees_equal (cons t ts) nil e = cc
  trees_equal (cons t ts) (cons u us) e =
      let both = then_equal (tree_cmp t u) (trees_cmp ts us) e in
      ap (λ v. cons v ts) (tree_equal t u both.0) ∙ ap (cons u) (trees_equal ts us both.1)

-- the value of a tree
abbrev pair_of : Values → Value
pair_of end = none
pair_of (more v end) = none
pair_of (more v (more w vs)) = pair v w

abbrev option_of : Values → Value
option_of end = none
option_of (more v vs) = some v

abbrev value_at : Head → Values → Value
value_at h vs =
    cond (eqb h.variant 0) (int h.number)
    (cond (eqb h.variant 1) (text h.bytes)
    (cond (eqb h.variant 2) (truth h.truth)
    (cond (eqb h.variant 3) (pair_of vs)
    (cond (eqb h.variant 4) (option_of vs)
    (cond (eqb h.variant 5) (list vs) (rec vs))))))

abbrev mutual
  value_from : Tree → Value
  value_from (node h ts) = value_at h (values_from ts)

  values_from : Trees → Values
  values_from nil = end
  values_from (cons t ts) = more (value_from t) (values_from ts)

mutual
  value_from-tree_of : (v : Value) → value_from (tree_of v) ≡ v
  value_from-tree_of (int n) = refl
  value_from-tree_of (text t) = refl
  value_from-tree_of (truth b) = refl
  value_from-tree_of (pair v w) = ap (λ x. pair x (value_from (tree_of w))) (value_from-tree_of v) ∙ ap (pair v) (value_from-tree_of w)
  value_from-tree_of none = refl
  value_from-tree_of (some v) = ap some (value_from-tree_of v)
  value_from-tree_of (list vs) = ap list (values_from-trees_of vs)
  value_from-tree_of (rec vs) = ap rec (values_from-trees_of vs)

  values_from-trees_of : (vs : Values) → values_from (trees_of vs) ≡ vs
  values_from-trees_of end = refl
  values_from-trees_of (more v vs) = ap (λ x. more x (values_from (trees_of vs))) (value_from-tree_of v) ∙ ap (more v) (values_from-trees_of vs)

pub value_equal : (v w : Value) → value_cmp v w ≡ Equal → v ≡ w
value_equal v w e = sym (value_from-tree_of v) ∙ (ap value_from (tree_equal (tree_of v) (tree_of w) e) ∙ value_from-tree_of w)

own_reverse : (o : Ordering) → o ≡ ordering_reverse o → o ≡ Equal
own_reverse Less e = cc
own_reverse Equal e = refl
own_reverse Greater e = cc

pub value_cmp-same : (v w : Value) → v ≡ w → value_cmp v w ≡ Equal
value_cmp-same v w e = ap (value_cmp v) (sym e) ∙ own_reverse (value_cmp v v) (value_total.antisymm v v)
