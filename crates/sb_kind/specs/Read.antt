-- How the text of an element is read, from the front.
use Rattle.std.specs.Prelude.{◌≡◌, ℕ, zero, suc, ◌-◌, ◌*◌, ◌^◌, ℤ, nat_le, Bool, true, false, ◌&&◌, ◌==◌, List, [], ◌∷◌, ◌++◌, length, Option, Some, None, option_map, option_and_then, bytes_eq, if◌then◌else◌, Result, Ok, Err}
use Rattle.std.specs.Borrow.{Bor}
use Rattle.std.specs.List.{list_all}
use Rattle.std.specs.Option.{option_map_or}
use Rattle.std.specs.declared.cmp.Ordering.{Ordering}
use Rattle.std.specs.declared.cmp.Ordering.TheVariants.{Less, Equal, Greater}
use Rattle.hex.specs.Hex.{decode_of, encode_lower}
use Rattle.hex.specs.declared.error.FromHexError.{FromHexError}
use Rattle.sb_text.specs.Decimal.{integer, natural}
use Rattle.sb_text.specs.Escape.{text_unescaped}
use Rattle.sb_types.specs.Read.{leaf, after_leaf, expect, value_front}
use Rattle.sb_types.specs.ValueType.{ValueType, ints, texts, truths, pairs as pair_types, options, lists, records}
use Rattle.sb_types.specs.ValView.{val_of}
use Rattle.sb_types.specs.declared.values.Val.{Val}
use Rattle.sb_gather.specs.Maps.{by_key}
use Rattle.sb_gather.specs.Tops.{by_rank}
use Rattle.sb_kind.specs.Elements.{val_cmp, text_cmp}
use Rattle.sb_kind.specs.Monoids.{Monoid, sums, least, greatest, firsts, lasts, concats, sets, tops, sketches, registers, pairs, maps}
use Rattle.sb_kind.specs.declared.agg.Agg.{Agg, Sum, Min, Max, First, Last, Concat, Set, Top, Cms, Hll, Pair, Map}

-- what was read, and what follows its text
pub record Found (X : Type 0) : Type 0 where
  pub value : X
  pub rest : List ℕ

abbrev pub found : {X : Type 0} → X → List ℕ → Found X
found x rest = record { value = x; rest = rest }

-- what contracts see of what was read, with the bytes that are left
abbrev pub found_of : {X : Type 0} → X × Bor (List ℕ) → Found X
found_of read = found read.0 read.1.now

-- what is made of what was read
abbrev pub made : {X Y : Type 0} → (X → Y) → Option (Found X) → Option (Found Y)
made make = option_map (λ f. found (make f.value) f.rest)

-- what the text of a part without parts spells
abbrev pub leaf_front : {X : Type 0} → (List ℕ → Option X) → List ℕ → Option (Found X)
leaf_front read bytes = option_map (λ x. found x (after_leaf bytes)) (read (leaf bytes))

abbrev pub number_front : List ℕ → Option (Found ℤ)
number_front = leaf_front integer

abbrev pub cell_front : List ℕ → Option (Found ℕ)
cell_front = leaf_front (natural (2 ^ 64 - 1))

abbrev pub val_front : ValueType → List ℕ → Option (Found Val)
val_front t bytes = option_map (λ f. found (val_of f.value) f.rest) (value_front t bytes)

-- what stands behind this byte
abbrev pub behind : {X : Type 0} → ℕ → (List ℕ → Option (Found X)) → List ℕ → Option (Found X)
behind byte read bytes = option_and_then read (expect byte bytes)

-- two parts in parentheses, with a comma between them
abbrev pub both_front : {X Y : Type 0} → (List ℕ → Option (Found X)) → (List ℕ → Option (Found Y)) → List ℕ → Option (Found (X × Y))
both_front first second bytes =
    option_and_then (λ x. option_and_then (λ y. option_map (λ rest. found (x.value, y.value) rest) (expect 41 y.rest)) (behind 44 second x.rest)) (behind 40 first bytes)

-- a score and its item
abbrev pub item_front : List ℕ → Option (Found (ℤ × List ℕ))
item_front = both_front number_front (leaf_front text_unescaped)

-- a key and its part
abbrev pub entry_front : {X : Type 0} → (List ℕ → Option (Found Val)) → (List ℕ → Option (Found X)) → List ℕ → Option (Found (Val × X))
entry_front key part bytes = option_and_then (λ k. made (λ p. (k.value, p)) (behind 61 part k.rest)) (key bytes)

-- what follows the comma before this place, and before the first stands none
abbrev pub after_comma : ℕ → List ℕ → Option (List ℕ)
after_comma zero bytes = Some bytes
after_comma (suc at) bytes = expect 44 bytes

abbrev pub item_at : {X : Type 0} → (List ℕ → Option (Found X)) → ℕ → List ℕ → Option (Found X)
item_at read at bytes = option_and_then read (after_comma at bytes)

-- what stands there, at most this many from a place on
abbrev pub items_from : {X : Type 0} → (List ℕ → Option (Found X)) → ℕ → ℕ → List ℕ → Found (List X)
items_from read zero at bytes = found [] bytes
items_from read (suc n) at bytes =
    option_map_or (λ f. found (f.value ∷ (items_from read n (suc at) f.rest).value) (items_from read n (suc at) f.rest).rest) (item_at read at bytes) (found [] bytes)

abbrev pub items_front : {X : Type 0} → (List ℕ → Option (Found X)) → List ℕ → Found (List X)
items_front read bytes = items_from read (length bytes) 0 bytes

-- a list that passes a test, between two brackets
abbrev pub closed : {X : Type 0} → ℕ → (List X → Bool) → Found (List X) → Option (Found (List X))
closed closing test items = if test items.value then option_map (λ rest. found items.value rest) (expect closing items.rest) else None

abbrev pub bracketed : {X : Type 0} → ℕ → ℕ → (List ℕ → Option (Found X)) → (List X → Bool) → List ℕ → Option (Found (List X))
bracketed opening closing read test bytes = option_and_then (λ inside. closed closing test (items_front read inside)) (expect opening bytes)

abbrev pub any_list : {X : Type 0} → List X → Bool
any_list items = true

-- whether the first of two may stand before the second: in order, or tied where ties may stand
abbrev pub may_precede : Bool → Ordering → Bool
may_precede ties Less = true
may_precede ties Equal = ties
may_precede ties Greater = false

abbrev pub precedes_first : {X : Type 0} → Bool → (X → X → Ordering) → X → List X → Bool
precedes_first ties R x [] = true
precedes_first ties R x (y ∷ ys) = may_precede ties (R x y)

-- each may stand before the next
abbrev pub is_sorted : {X : Type 0} → Bool → (X → X → Ordering) → List X → Bool
is_sorted ties R [] = true
is_sorted ties R (x ∷ xs) = precedes_first ties R x xs && is_sorted ties R xs

abbrev pub is_top : ℕ → List (ℤ × List ℕ) → Bool
is_top k items = nat_le (length items) k && is_sorted true (by_rank text_cmp) items

-- the bytes that lower-case hexadecimal digits spell
abbrev pub spelled_so : List ℕ → Result (List ℕ) FromHexError → Option (List ℕ)
spelled_so digits (Ok bytes) = if bytes_eq (encode_lower bytes) digits then Some bytes else None
spelled_so digits (Err e) = None

abbrev pub hex_read : List ℕ → Option (List ℕ)
hex_read digits = spelled_so digits (decode_of digits)

abbrev pub are_registers : ℕ → List ℕ → Bool
are_registers b all = length all == 2 ^ b && list_all (λ n. nat_le n (65 - b)) all

abbrev pub registers_read : ℕ → List ℕ → Option (List ℕ)
registers_read b digits = option_and_then (λ all. if are_registers b all then Some all else None) (hex_read digits)

-- the types of the parts of a pair
abbrev pub halves : ValueType → Option (ValueType × ValueType)
halves (pair_types a b) = Some (a, b)
halves other = None

-- the element at the front of the bytes
abbrev pub element_front : Monoid → ValueType → List ℕ → Option (Found Agg)
element_front sums t bytes = made Sum (number_front bytes)
element_front least t bytes = made Min (number_front bytes)
element_front greatest t bytes = made Max (number_front bytes)
element_front firsts t bytes = made First (val_front t bytes)
element_front lasts t bytes = made Last (val_front t bytes)
element_front concats t bytes = made Concat (bracketed 91 93 (val_front t) any_list bytes)
element_front sets t bytes = made Set (bracketed 123 125 (val_front t) (is_sorted false val_cmp) bytes)
element_front (tops k) t bytes = made Top (bracketed 91 93 item_front (is_top k) bytes)
element_front (sketches d w) t bytes = made Cms (bracketed 91 93 cell_front (λ cells. length cells == d * w) bytes)
element_front (registers b) t bytes = made Hll (leaf_front (registers_read b) bytes)
element_front (pairs m n) t bytes =
    option_and_then (λ h. made (λ both. Pair both.0 both.1) (both_front (element_front m h.0) (element_front n h.1) bytes)) (halves t)
element_front (maps m) t bytes =
    option_and_then (λ h. made Map (bracketed 123 125 (entry_front (val_front h.0) (element_front m h.1)) (is_sorted false (by_key val_cmp)) bytes)) (halves t)

-- the element, where nothing follows it
abbrev pub before_end : Agg → List ℕ → Option Agg
before_end a [] = Some a
before_end a (b ∷ bytes) = None

-- the element that the bytes spell
abbrev pub element_read : Monoid → ValueType → List ℕ → Option Agg
element_read m t bytes = option_and_then (λ f. before_end f.value f.rest) (element_front m t bytes)
