-- The order of values.
use Rattle.std.specs.Prelude.{ℕ, ℤ, pos, Bool, false, List, []}
use Rattle.std.specs.declared.cmp.Ordering.{Ordering}
use Rattle.std.specs.declared.cmp.Ordering.TheVariants.{Less, Equal, Greater}
use Rattle.std.specs.Ordering.{nat_cmp, int_cmp, bool_cmp, ordering_then, on, then_cmp}
use Rattle.std.specs.Cmp.Lexicographic.{slice_cmp}
use Rattle.sb_types.specs.Value.{Value, Values, int, text, truth, pair, none, some, list, rec, end, more}

-- the place of a value's variant among the variants; none and some are of one
abbrev pub variant_of : Value → ℕ
variant_of (int n) = 0
variant_of (text t) = 1
variant_of (truth b) = 2
variant_of (pair v w) = 3
variant_of none = 4
variant_of (some v) = 4
variant_of (list vs) = 5
variant_of (rec vs) = 6

-- what a value is without its parts: its variant, and its number, bytes or truth where it has one
pub record Head : Type 0 where
  pub variant : ℕ
  pub number : ℤ
  pub bytes : List ℕ
  pub truth : Bool

-- by variant, by number, by bytes, false before true
abbrev pub head_cmp : Head → Head → Ordering
head_cmp = then_cmp (on (λ h. h.variant) nat_cmp) (then_cmp (on (λ h. h.number) int_cmp) (then_cmp (on (λ h. h.bytes) (slice_cmp nat_cmp)) (on (λ h. h.truth) bool_cmp)))

-- a value as a tree: its head, and its parts in order
mutual
  pub data Tree : Type 0 where
    node : Head → Trees → Tree

  pub data Trees : Type 0 where
    nil : Trees
    cons : Tree → Trees → Trees

-- heads first, then parts one by one, a proper prefix first
abbrev mutual
  pub tree_cmp : Tree → Tree → Ordering
  tree_cmp (node h ts) (node k us) = ordering_then (head_cmp h k) (trees_cmp ts us)

  pub trees_cmp : Trees → Trees → Ordering
  trees_cmp nil nil = Equal
  trees_cmp nil (cons u us) = Less
  trees_cmp (cons t ts) nil = Greater
  trees_cmp (cons t ts) (cons u us) = ordering_then (tree_cmp t u) (trees_cmp ts us)

-- the head of a value that has neither number nor bytes nor truth
abbrev pub bare : ℕ → Head
bare variant = record { variant = variant; number = pos 0; bytes = []; truth = false }

abbrev mutual
  pub tree_of : Value → Tree
  tree_of (int n) = node (record { variant = 0; number = n; bytes = []; truth = false }) nil
  tree_of (text t) = node (record { variant = 1; number = pos 0; bytes = t; truth = false }) nil
  tree_of (truth b) = node (record { variant = 2; number = pos 0; bytes = []; truth = b }) nil
  tree_of (pair v w) = node (bare 3) (cons (tree_of v) (cons (tree_of w) nil))
  tree_of none = node (bare 4) nil
  tree_of (some v) = node (bare 4) (cons (tree_of v) nil)
  tree_of (list vs) = node (bare 5) (trees_of vs)
  tree_of (rec vs) = node (bare 6) (trees_of vs)

  pub trees_of : Values → Trees
  trees_of end = nil
  trees_of (more v vs) = cons (tree_of v) (trees_of vs)

-- the order of values, and that of lists of values
abbrev pub value_cmp : Value → Value → Ordering
value_cmp = on tree_of tree_cmp

abbrev pub values_cmp : Values → Values → Ordering
values_cmp = on trees_of trees_cmp
