-- The order of values is total.
use Rattle.std.specs.declared.cmp.Ordering.{Ordering}
use Rattle.std.specs.declared.cmp.Ordering.TheVariants.{Less, Equal, Greater}
use Rattle.std.specs.Ordering.{ordering_then, ordering_reverse}
use Rattle.std.specs.Cmp.{IsTotalOrder}
use Rattle.std.specs.Cmp.Rules.{comparing}
use Rattle.std.proofs.Common.{◌≡◌, ◌∙◌, refl, sym, ap, rules}
use Rattle.sb_types.specs.Order.{head_cmp, Tree, Trees, node, nil, cons, tree_cmp, trees_cmp, tree_of, value_cmp}

-- heads
head_total : IsTotalOrder head_cmp
head_total = search (comparing, rules)

-- one order and then another
reverse_then : (o p : Ordering) → ordering_reverse (ordering_then o p) ≡ ordering_then (ordering_reverse o) (ordering_reverse p)
reverse_then Less p = refl
reverse_then Equal p = refl
reverse_then Greater p = refl

pub then_equal : (o p : Ordering) → ordering_then o p ≡ Equal → (o ≡ Equal) × (p ≡ Equal)
then_equal Less p e = cc
then_equal Equal p e = (refl, e)
then_equal Greater p e = cc

-- x, y and z: the first order at x and y is o, at y and z is p, at x and z is q, and the second s, t and u
then_less : (o p q s t u : Ordering) → (o ≡ Less → p ≡ Less → q ≡ Less) → (o ≡ Equal → q ≡ p) → (p ≡ Equal → q ≡ o) → (s ≡ Less → t ≡ Less → u ≡ Less)
    → ordering_then o s ≡ Less → ordering_then p t ≡ Less → ordering_then q u ≡ Less
then_less Less Less q s t u less left right rest a b = rw (less refl refl) refl
then_less Less Equal q s t u less left right rest a b = rw (right refl) refl
then_less Less Greater q s t u less left right rest a b = cc
then_less Equal Less q s t u less left right rest a b = rw (left refl) refl
then_less Equal Equal q s t u less left right rest a b = rw (left refl) (rest a b)
then_less Equal Greater q s t u less left right rest a b = cc
then_less Greater p q s t u less left right rest a b = cc

-- an order is the same at z for what it doesn't tell apart, on either side
other_side : {K : Type 0} (R : K → K → Ordering) → ((x y : K) → R x y ≡ ordering_reverse (R y x)) → ((x y z : K) → R x y ≡ Equal → R x z ≡ R y z)
    → (x y z : K) → R y z ≡ Equal → R x z ≡ R x y
other_side R antisymm congr x y z e = antisymm x z ∙ (ap ordering_reverse (sym (congr y z x e)) ∙ sym (antisymm x y))

-- trees
mutual
  tree_antisymm : (x y : Tree) → tree_cmp x y ≡ ordering_reverse (tree_cmp y x)
  tree_antisymm (node h ts) (node k us) =
      ap (λ o. ordering_then o (trees_cmp ts us)) (head_total.antisymm h k)
      ∙ (ap (ordering_then (ordering_reverse (head_cmp k h))) (trees_antisymm ts us) ∙ sym (reverse_then (head_cmp k h) (trees_cmp us ts)))

  trees_antisymm : (x y : Trees) → trees_cmp x y ≡ ordering_reverse (trees_cmp y x)
  trees_antisymm nil nil = refl
  trees_antisymm nil (cons u us) = refl
  trees_antisymm (cons t ts) nil = refl
  trees_antisymm (cons t ts) (cons u us) =
      ap (λ o. ordering_then o (trees_cmp ts us)) (tree_antisymm t u)
      ∙ (ap (ordering_then (ordering_reverse (tree_cmp u t))) (trees_antisymm ts us) ∙ sym (reverse_then (tree_cmp u t) (trees_cmp us ts)))

mutual
  tree_congr : (x y z : Tree) → tree_cmp x y ≡ Equal → tree_cmp x z ≡ tree_cmp y z
  tree_congr (node h ts) (node k us) (node l vs) e =
      let both = then_equal (head_cmp h k) (trees_cmp ts us) e in
      ap (λ o. ordering_then o (trees_cmp ts vs)) (head_total.congr h k l both.0) ∙ ap (ordering_then (head_cmp k l)) (trees_congr ts us vs both.1)

  trees_congr : (x y z : Trees) → trees_cmp x y ≡ Equal → trees_cmp x z ≡ trees_cmp y z
  trees_congr nil nil z e = refl
  trees_congr nil (cons u us) z e = cc
  trees_congr (cons t ts) nil z e = cc
  trees_congr (cons t ts) (cons u us) nil e = refl
  trees_congr (cons t ts) (cons u us) (cons v vs) e =
      let both = then_equal (tree_cmp t u) (trees_cmp ts us) e in
      ap (λ o. ordering_then o (trees_cmp ts vs)) (tree_congr t u v both.0) ∙ ap (ordering_then (tree_cmp u v)) (trees_congr ts us vs both.1)

mutual
  tree_trans : (x y z : Tree) → tree_cmp x y ≡ Less → tree_cmp y z ≡ Less → tree_cmp x z ≡ Less
  tree_trans (node h ts) (node k us) (node l vs) =
      then_less (head_cmp h k) (head_cmp k l) (head_cmp h l) (trees_cmp ts us) (trees_cmp us vs) (trees_cmp ts vs)
      (head_total.trans h k l) (head_total.congr h k l) (other_side head_cmp head_total.antisymm head_total.congr h k l) (trees_trans ts us vs)

  trees_trans : (x y z : Trees) → trees_cmp x y ≡ Less → trees_cmp y z ≡ Less → trees_cmp x z ≡ Less
  trees_trans nil nil z a b = cc
  trees_trans nil (cons u us) nil a b = cc
  trees_trans nil (cons u us) (cons v vs) a b = refl
  trees_trans (cons t ts) nil z a b = cc
  trees_trans (cons t ts) (cons u us) nil a b = cc
  trees_trans (cons t ts) (cons u us) (cons v vs) a b =
      then_less (tree_cmp t u) (tree_cmp u v) (tree_cmp t v) (trees_cmp ts us) (trees_cmp us vs) (trees_cmp ts vs)
      (tree_trans t u v) (tree_congr t u v) (other_side tree_cmp tree_antisymm tree_congr t u v) (trees_trans ts us vs) a b

pub value_total : IsTotalOrder value_cmp
value_total = record {
  antisymm = λ v w. tree_antisymm (tree_of v) (tree_of w);
  trans = λ u v w. tree_trans (tree_of u) (tree_of v) (tree_of w);
  congr = λ u v w. tree_congr (tree_of u) (tree_of v) (tree_of w);
}
