-- The laws of each monoid: those of pairs and maps by recursion, the others as they stand in their own crates.
use Rattle.std.proofs.Common.{◌≡◌, ◌&&◌, ◌-◌, ◌*◌, ◌^◌, Bool, true, false, List, refl, sym, ap, ap₂, subst, ◌∙◌, append_assoc}
use Rattle.std.specs.Prelude.{max}
use Rattle.std.specs.Cmp.{IsTotalOrder}
use Rattle.std.specs.FinMap.{IsAntisymmetric, nat_cmp-IsAntisymmetric, slice_cmp-IsAntisymmetric}
use Rattle.std.specs.Cmp.Lexicographic.{lists_total}
use Rattle.std.specs.Cmp.{nat_cmp_total}
use Rattle.std.proofs.lemmas.Cmp.{on_total}
use Rattle.sb_types.specs.OrderLaws.{value_total}
use Rattle.sb_types.specs.ValView.{value_of}
use Rattle.sb_types.proofs.OrderEqual.{value_equal}
use Rattle.sb_types.proofs.ValBack.{same_val}
use Rattle.sb_scalars.specs.Wrapping.{wrapping_fits, wrapping_associates, wrapping_commutes}
use Rattle.sb_scalars.specs.MinMax.{min_fits, min_associates, min_commutes, max_fits, max_associates, max_commutes}
use Rattle.sb_types.specs.declared.values.Val.{Val}
use Rattle.sb_gather.specs.Entries.{AreEntries}
use Rattle.sb_gather.specs.EntryLaws.{all_keep, entries_associate, entries_commute}
use Rattle.sb_gather.specs.Maps.{AnyKey, left_of, set_laws, set_commutes, by_key, maps_added, map_keeps, map_associates, map_sums_commute}
use Rattle.sb_gather.specs.Tops.{by_rank}
use Rattle.sb_gather.specs.TopLaws.{by_rank_total, by_rank_same, top_keeps, top_associates, top_commutes}
use Rattle.sb_sketch.specs.Cells.{wrapping_sum}
use Rattle.sb_sketch.specs.CellLaws.{sum_fits, sums_associate, sums_commute, greatest_within, greatest_associate, greatest_commute, cells_kept, cells_associate, cells_commute}
use Rattle.sb_sketch.specs.Cms.{IsCount}
use Rattle.sb_sketch.specs.Hll.{IsPosition}
use Rattle.sb_kind.specs.Elements.{val_cmp, text_cmp, number_in, values_in, scored_in, cells_in, registers_in, left_layer, right_layer, entries_layer, left_in, right_in, entries_in, IsOf, plus}
use Rattle.sb_kind.specs.Monoids.{Monoid, sums, least, greatest, firsts, lasts, concats, sets, tops, sketches, registers, pairs, maps, commutes}
use Rattle.sb_kind.specs.declared.agg.Agg.{Agg, out-Agg, Sum, Min, Max, Concat, Set, Top, Cms, Hll, Pair, Map}
use Rattle.sb_kind.specs.declared.agg.Agg.TheOpen as layer
use Rattle.sb_kind.specs.declared.agg.Agg.TheVariants.{rolls-Pair, rolls-Map}
use Rattle.sb_kind.specs.declared.agg.Agg.TheViews.{out-roll-Agg}

pub val_total : IsTotalOrder val_cmp
val_total = on_total value_of value_total

pub val_same : IsAntisymmetric val_cmp
val_same v w e = same_val v w (value_equal (value_of v) (value_of w) e)

pub text_total : IsTotalOrder text_cmp
text_total = lists_total nat_cmp_total

pub text_same : IsAntisymmetric text_cmp
text_same = slice_cmp-IsAntisymmetric nat_cmp-IsAntisymmetric

abbrev out-Pair : (x y : Agg) → out-Agg (Pair x y) ≡ layer.Pair x y
out-Pair x y = ap out-Agg (sym (rolls-Pair x y)) ∙ out-roll-Agg (layer.Pair x y)

pub left-Pair : (x y : Agg) → left_in (Pair x y) ≡ x
left-Pair x y = ap left_layer (out-Pair x y)

pub right-Pair : (x y : Agg) → right_in (Pair x y) ≡ y
right-Pair x y = ap right_layer (out-Pair x y)

pub entries-Map : (es : List (Val × Agg)) → entries_in (Map es) ≡ es
entries-Map es = ap (λ l. entries_layer l) (ap out-Agg (sym (rolls-Map es)) ∙ out-roll-Agg (layer.Map es))

-- a map of elements is one
pub map_is : (m : Monoid) (es : List (Val × Agg)) → AreEntries (by_key val_cmp) (λ entry. IsOf m entry.1) es → IsOf (maps m) (Map es)
map_is m es p = (ap Map (sym (entries-Map es)), subst (AreEntries (by_key val_cmp) (λ entry. IsOf m entry.1)) (sym (entries-Map es)) p)

-- a pair of elements is one
pub pair_is : (m n : Monoid) (x y : Agg) → IsOf m x → IsOf n y → IsOf (pairs m n) (Pair x y)
pair_is m n x y p q = (ap₂ Pair (sym (left-Pair x y)) (sym (right-Pair x y)), subst (IsOf m) (sym (left-Pair x y)) p, subst (IsOf n) (sym (right-Pair x y)) q)

mutual
  unfolding out-Agg denote.Hole.Carrier.out

  -- the sum of elements is one
  pub keeps : (m : Monoid) (a b : Agg) → IsOf m a → IsOf m b → IsOf m (plus m a b)
  keeps sums a b p q = (refl, wrapping_fits (number_in a) (number_in b))
  keeps least a b p q = (refl, min_fits (number_in a) (number_in b) p.1 q.1)
  keeps greatest a b p q = (refl, max_fits (number_in a) (number_in b) p.1 q.1)
  keeps firsts a b p q = p
  keeps lasts a b p q = q
  keeps concats a b p q = refl
  keeps sets a b p q = (refl, all_keep val_cmp val_total AnyKey left_of (set_laws val_cmp) (values_in a) (values_in b) p.1 q.1.valid)
  keeps (tops k) a b p q = (refl, top_keeps (by_rank text_cmp) (by_rank_total text_cmp text_total) (by_rank_same text_cmp text_same) k (scored_in a) (scored_in b) p.1 q.1)
  keeps (sketches d w) a b p q = (refl, cells_kept wrapping_sum IsCount (λ x y _ _. sum_fits x y) (d * w) (cells_in a) (cells_in b) p.1 q.1)
  keeps (registers r) a b p q = (refl, cells_kept max (IsPosition r) (greatest_within (65 - r)) (2 ^ r) (registers_in a) (registers_in b) p.1 q.1)
  keeps (pairs m n) a b p q =
      pair_is m n (plus m (left_in a) (left_in b)) (plus n (right_in a) (right_in b)) (keeps m (left_in a) (left_in b) p.1 q.1) (keeps n (right_in a) (right_in b) p.2 q.2)
  keeps (maps m) a b p q =
      map_is m (maps_added val_cmp (plus m) (entries_in a) (entries_in b)) (map_keeps val_cmp val_total (IsOf m) (plus m) (keeps m) (associates m) (entries_in a) (entries_in b) p.1 q.1)

  -- any grouping gives the same sum
  pub associates : (m : Monoid) (a b c : Agg) → IsOf m a → IsOf m b → IsOf m c → plus m (plus m a b) c ≡ plus m a (plus m b c)
  associates sums a b c p q r = ap Sum (wrapping_associates (number_in a) (number_in b) (number_in c))
  associates least a b c p q r = ap Min (min_associates (number_in a) (number_in b) (number_in c))
  associates greatest a b c p q r = ap Max (max_associates (number_in a) (number_in b) (number_in c))
  associates firsts a b c p q r = refl
  associates lasts a b c p q r = refl
  associates concats a b c p q r = ap Concat (append_assoc (values_in a) (values_in b) (values_in c))
  associates sets a b c p q r = ap Set (entries_associate val_cmp val_total AnyKey left_of (set_laws val_cmp) (values_in a) (values_in b) (values_in c) p.1 q.1 r.1)
  associates (tops k) a b c p q r =
      ap Top (top_associates (by_rank text_cmp) (by_rank_total text_cmp text_total) (by_rank_same text_cmp text_same) k (scored_in a) (scored_in b) (scored_in c) p.1 q.1 r.1)
  associates (sketches d w) a b c p q r = ap Cms (cells_associate wrapping_sum sums_associate (cells_in a) (cells_in b) (cells_in c))
  associates (registers s) a b c p q r = ap Hll (cells_associate max greatest_associate (registers_in a) (registers_in b) (registers_in c))
  associates (pairs m n) a b c p q r =
      let ab_left = plus m (left_in a) (left_in b) in
      let ab_right = plus n (right_in a) (right_in b) in
      let bc_left = plus m (left_in b) (left_in c) in
      let bc_right = plus n (right_in b) (right_in c) in
      ap₂ Pair
      (ap (λ x. plus m x (left_in c)) (left-Pair ab_left ab_right)
      ∙ (associates m (left_in a) (left_in b) (left_in c) p.1 q.1 r.1 ∙ sym (ap (plus m (left_in a)) (left-Pair bc_left bc_right))))
      (ap (λ y. plus n y (right_in c)) (right-Pair ab_left ab_right)
      ∙ (associates n (right_in a) (right_in b) (right_in c) p.2 q.2 r.2 ∙ sym (ap (plus n (right_in a)) (right-Pair bc_left bc_right))))
  associates (maps m) a b c p q r =
      let add = maps_added val_cmp (plus m) in
      ap (λ es. Map (add es (entries_in c))) (entries-Map (add (entries_in a) (entries_in b)))
      ∙ (ap Map (map_associates val_cmp val_total (IsOf m) (plus m) (keeps m) (associates m) (entries_in a) (entries_in b) (entries_in c) p.1 q.1 r.1)
      ∙ sym (ap (λ es. Map (add (entries_in a) es)) (entries-Map (add (entries_in b) (entries_in c)))))

left_true : (a b : Bool) → (a && b) ≡ true → a ≡ true
left_true true b e = refl
left_true false b e = e

right_true : (a b : Bool) → (a && b) ≡ true → b ≡ true
right_true true b e = e
right_true false b e = cc

-- in a monoid that commutes any order gives the same sum
pub any_order : (m : Monoid) → commutes m ≡ true → (a b : Agg) → IsOf m a → IsOf m b → plus m a b ≡ plus m b a
any_order sums e a b p q = ap Sum (wrapping_commutes (number_in a) (number_in b))
any_order least e a b p q = ap Min (min_commutes (number_in a) (number_in b))
any_order greatest e a b p q = ap Max (max_commutes (number_in a) (number_in b))
any_order firsts e a b p q = cc
any_order lasts e a b p q = cc
any_order concats e a b p q = cc
any_order sets e a b p q = ap Set (entries_commute val_cmp val_total AnyKey left_of (set_laws val_cmp) (set_commutes val_cmp val_same) (values_in a) (values_in b) p.1 q.1)
any_order (tops k) e a b p q = ap Top (top_commutes (by_rank text_cmp) (by_rank_total text_cmp text_total) (by_rank_same text_cmp text_same) k (scored_in a) (scored_in b) p.1 q.1)
any_order (sketches d w) e a b p q = ap Cms (cells_commute wrapping_sum sums_commute (cells_in a) (cells_in b))
any_order (registers r) e a b p q = ap Hll (cells_commute max greatest_commute (registers_in a) (registers_in b))
any_order (pairs m n) e a b p q =
    ap₂ Pair (any_order m (left_true (commutes m) (commutes n) e) (left_in a) (left_in b) p.1 q.1) (any_order n (right_true (commutes m) (commutes n) e) (right_in a) (right_in b) p.2 q.2)
any_order (maps m) e a b p q = ap Map (map_sums_commute val_cmp val_total (IsOf m) (plus m) (keeps m) (associates m) val_same (any_order m e) (entries_in a) (entries_in b) p.1 q.1)
