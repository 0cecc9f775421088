-- The order of values, case by case.
use Rattle.std.proofs.Common.{◌≡◌, ◌≢◌, ◌∙◌, ℕ, ℤ, Bool, List, refl, ap, sym, arith}
use Rattle.std.specs.declared.cmp.Ordering.{Ordering}
use Rattle.std.specs.declared.cmp.Ordering.TheVariants.{Less, Equal, Greater}
use Rattle.std.specs.Ordering.{nat_cmp, int_cmp, bool_cmp, ordering_then}
use Rattle.std.specs.Cmp.Lexicographic.{slice_cmp}
use Rattle.std.proofs.lemmas.Bool.Decides.{nat_tests}
use Rattle.sb_types.specs.Order.{variant_of, Head, Tree, node, tree_cmp, tree_of, value_cmp}
use Rattle.sb_types.specs.Value.{Value, int, text, truth, pair, none, some, list, rec}

then_none : (o : Ordering) → ordering_then o Equal ≡ o
then_none Less = refl
then_none Equal = refl
then_none Greater = refl

pub cmp-int : (m n : ℤ) → value_cmp (int m) (int n) ≡ int_cmp m n
cmp-int m n = then_none (ordering_then (int_cmp m n) Equal) ∙ then_none (int_cmp m n)

pub cmp-text : (s t : List ℕ) → value_cmp (text s) (text t) ≡ slice_cmp nat_cmp s t
cmp-text s t = then_none (ordering_then (slice_cmp nat_cmp s t) Equal) ∙ then_none (slice_cmp nat_cmp s t)

pub cmp-truth : (a b : Bool) → value_cmp (truth a) (truth b) ≡ bool_cmp a b
cmp-truth a b = then_none (bool_cmp a b)

pub cmp-pair : (v w x y : Value) → value_cmp (pair v w) (pair x y) ≡ ordering_then (value_cmp v x) (value_cmp w y)
cmp-pair v w x y = ap (ordering_then (value_cmp v x)) (then_none (value_cmp w y))

pub cmp-some : (v w : Value) → value_cmp (some v) (some w) ≡ value_cmp v w
cmp-some v w = then_none (value_cmp v w)

abbrev head_of : Tree → Head
head_of (node h ts) = h

variant_head : (v : Value) → (head_of (tree_of v)).variant ≡ variant_of v
variant_head (int n) = refl
variant_head (text t) = refl
variant_head (truth b) = refl
variant_head (pair v w) = refl
variant_head none = refl
variant_head (some v) = refl
variant_head (list vs) = refl
variant_head (rec vs) = refl

by_head : (t u : Tree) → nat_cmp (head_of t).variant (head_of u).variant ≢ Equal → tree_cmp t u ≡ nat_cmp (head_of t).variant (head_of u).variant
by_head (node h ts) (node k us) other = decided (nat_cmp h.variant k.variant) _ _ other where
  decided : (o p q : Ordering) → o ≢ Equal → ordering_then (ordering_then o p) q ≡ o
  decided Less p q other = refl
  decided Equal p q other = absurd (other refl)
  decided Greater p q other = refl

pub cmp-variants : (v w : Value) → variant_of v ≢ variant_of w → value_cmp v w ≡ nat_cmp (variant_of v) (variant_of w)
cmp-variants v w other =
    by_head (tree_of v) (tree_of w) (λ e. other (sym (variant_head v) ∙ (same (head_of (tree_of v)).variant (head_of (tree_of w)).variant e ∙ variant_head w)))
    ∙ (ap (λ m. nat_cmp m (head_of (tree_of w)).variant) (variant_head v) ∙ ap (nat_cmp (variant_of v)) (variant_head w)) where
      same : (m n : ℕ) → nat_cmp m n ≡ Equal → m ≡ n
      same m n e = grind (arith, nat_tests, e)
