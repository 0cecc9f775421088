-- What a map of rows holds, and what contracts see of it.
use Rattle.std.proofs.Common.{◌≡◌, ◌∙◌, refl, sym, ap, Bool, true, false, cond, List, [], ◌∷◌, map, Option, Some, None, option_map}
use Rattle.std.specs.BTreeMap.{BTreeMap, insert_entry, is_at}
use Rattle.std.specs.Map.{lookup}
use Rattle.std.specs.Ordering.{is_eq, match_ordering, on}
use Rattle.std.specs.declared.cmp.Ordering.{Ordering}
use Rattle.std.specs.declared.cmp.Ordering.TheVariants.{Less, Equal, Greater}
use Rattle.sb_types.specs.Order.{value_cmp}
use Rattle.sb_types.specs.ValView.{value_of}
use Rattle.sb_types.specs.declared.values.Val.{Val}
use Rattle.sb_service.specs.Adding.{line_of, unplaced}
use Rattle.sb_service.specs.Rows.{row_of}
use Rattle.sb_service.specs.Views.{placed_value, placed_view}
use Rattle.sb_service.specs.declared.rows.Placed.{Placed}

-- a look-up through a view of keys and values, where the view of a key answers as the key does
module _ {K X L Y : Type 0} (f : K → L) (g : X → Y) (test : L → Bool) where
  either : (b : Bool) (x : X) (found : Option X) (seen : Option Y) → seen ≡ option_map g found → cond b (Some (g x)) seen ≡ option_map g (cond b (Some x) found)
  either true x found seen e = refl
  either false x found seen e = e

  pub lookup_seen : (es : List (K × X)) → lookup test (map (λ e. (f e.0, g e.1)) es) ≡ option_map g (lookup (λ k. test (f k)) es)
  lookup_seen [] = refl
  lookup_seen (e ∷ es) = either (test (f e.0)) e.1 _ _ (lookup_seen es)

-- an insertion through such a view, where the order of keys is that of their views
module _ {K X L Y : Type 0} (f : K → L) (g : X → Y) (cmp : L → L → Ordering) where
  abbrev seen : List (K × X) → List (L × Y)
  seen = map (λ e. (f e.0, g e.1))

  by_order : (o : Ordering) (e d : K × X) (es more : List (K × X)) (rest : List (L × Y)) → rest ≡ seen more
      → match_ordering o ((f d.0, g d.1) ∷ (f e.0, g e.1) ∷ seen es) ((f e.0, g d.1) ∷ seen es) ((f e.0, g e.1) ∷ rest)
      ≡ seen (match_ordering o (d ∷ e ∷ es) ((e.0, d.1) ∷ es) (e ∷ more))
  by_order Less e d es more rest same = refl
  by_order Equal e d es more rest same = refl
  by_order Greater e d es more rest same = ap (λ r. (f e.0, g e.1) ∷ r) same

  pub insert_seen : (es : List (K × X)) (k : K) (v : X) → insert_entry cmp (seen es) (f k) (g v) ≡ seen (insert_entry (on f cmp) es k v)
  insert_seen [] k v = refl
  insert_seen (e ∷ es) k v = by_order (cmp (f k) (f e.0)) e (k, v) es _ _ (insert_seen es k v)

-- the row that a look-up finds in the map is the one that contracts see
pub placed_found : (key : Val) (rows : BTreeMap Val Placed)
    → line_of (value_of key) (placed_view rows) ≡ option_map (λ row. row.line) (lookup (is_at (on value_of value_cmp key)) rows.entries)
placed_found key rows = lines (lookup (is_at (on value_of value_cmp key)) rows.entries) (lookup_seen value_of placed_value (is_at (value_cmp (value_of key))) rows.entries) where
  lines : (found : Option Placed) → lookup (is_at (value_cmp (value_of key))) (placed_view rows) ≡ option_map placed_value found
      → line_of (value_of key) (placed_view rows) ≡ option_map (λ row. row.line) found
  lines None e = ap (option_map (λ row. row.line)) e
  lines (Some row) e = ap (option_map (λ row. row.line)) e

pub row_found : (key : Val) (rows : BTreeMap Val Placed)
    → row_of (value_of key) (unplaced (placed_view rows)) ≡ option_map (λ row. value_of row.value) (lookup (is_at (on value_of value_cmp key)) rows.entries)
row_found key rows = values rows.entries where
  values : (es : List (Val × Placed)) → row_of (value_of key) (unplaced (map (λ row. (value_of row.0, placed_value row.1)) es)) ≡ option_map (λ row. value_of row.value) (lookup (is_at (on value_of value_cmp key)) es)
  values [] = refl
  values (e ∷ es) = either (λ (k : Val). k) (λ (row : Placed). value_of row.value) (λ (k : Val). true) (is_eq (value_cmp (value_of key) (value_of e.0))) e.1 _ _ (values es)

-- the rows with one more, as contracts see them
pub placed_more : (rows more : BTreeMap Val Placed) (key : Val) (row : Placed) → more.entries ≡ insert_entry (on value_of value_cmp) rows.entries key row
    → placed_view more ≡ insert_entry value_cmp (placed_view rows) (value_of key) (placed_value row)
placed_more rows more key row e =
    ap (map (λ row. (value_of row.0, placed_value row.1))) e ∙ sym (insert_seen value_of placed_value value_cmp rows.entries key row)
