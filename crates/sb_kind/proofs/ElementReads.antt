-- The reader of each monoid's elements reads just their texts.
use Rattle.std.proofs.Common.{◌≡◌, ◌∙◌, ℕ, ◌*◌, ◌≤◌, ℤ, Bool, true, false, ◌&&◌, List, [], ◌∷◌, ◌++◌, map, length, Option, Some, None, refl, sym, ap, subst, arith, eqb, append-nil}
use Rattle.std.specs.Prelude.{IfSome, nat_le, option_map, option_and_then, codes, decimal, FitsSigned}
use Rattle.std.specs.Int.{w64}
use Rattle.std.specs.Fmt.{signed_decimal}
use Rattle.std.specs.List.{AllByRecursion}
use Rattle.std.proofs.lemmas.Bool.Decides.{nat_tests}
use Rattle.std.proofs.lemmas.Cmp.{on_total}
use Rattle.hex.specs.Hex.{encode_lower}
use Rattle.sb_types.specs.Read.{IsEnd, expect}
use Rattle.sb_types.specs.ValueType.{ValueType, ints, texts, truths, pairs as pair_types, options, lists, records}
use Rattle.sb_types.specs.declared.values.Val.{Val}
use Rattle.sb_types.proofs.ReadSpelled.{and_then_if}
use Rattle.sb_gather.specs.Entries.{AreEntries}
use Rattle.sb_gather.specs.Maps.{AnyKey, by_key}
use Rattle.sb_gather.specs.Tops.{IsTop, by_rank}
use Rattle.sb_gather.specs.TopLaws.{by_rank_total}
use Rattle.sb_sketch.specs.Cells.{AreCells}
use Rattle.sb_sketch.specs.Cms.{IsCount}
use Rattle.sb_sketch.specs.Hll.{AreRegisters}
use Rattle.sb_kind.specs.ElementText.{val_text, item_text, entry_line, element_text, text_layer}
use Rattle.sb_kind.specs.Elements.{IsOf, val_cmp, text_cmp, number_in, value_in, values_in, scored_in, cells_in, registers_in, left_in, right_in, entries_in}
use Rattle.sb_kind.specs.KindLaws.{val_total, text_total, left-Pair, right-Pair, entries-Map, map_is, pair_is}
use Rattle.sb_kind.specs.Monoids.{Monoid, sums, least, greatest, firsts, lasts, concats, sets, tops, sketches, registers, pairs, maps}
use Rattle.sb_kind.specs.Read.{Found, found, made, behind, number_front, cell_front, val_front, item_front, leaf_front, both_front, entry_front, bracketed, any_list, is_sorted, is_top, registers_read, halves, element_front, before_end, element_read}
use Rattle.sb_kind.specs.Typed.{IsVal, IsScored, IsTyped}
use Rattle.sb_kind.specs.declared.agg.Agg.{Agg, out-Agg, Sum, Min, Max, First, Last, Concat, Set, Top, Cms, Hll, Pair, Map}
use Rattle.sb_kind.specs.declared.agg.Agg.TheOpen as layer
use Rattle.sb_kind.specs.declared.agg.Agg.TheFolds.{fold-roll-Agg}
use Rattle.sb_kind.specs.declared.agg.Agg.TheVariants.{rolls-Sum, rolls-Min, rolls-Max, rolls-First, rolls-Last, rolls-Hll}
use Rattle.sb_kind.proofs.LeafReads.{number_reads, cell_reads, item_reads, val_reads, no_value, no_value_in_set, registers_reads}
use Rattle.sb_kind.proofs.Readers.{Reads, IsSpelled, reads_made, reads_both, reads_entry, reads_bracketed}
use Rattle.sb_kind.proofs.Orders.{rising_sorted, sorted_rising, ranked_sorted, sorted_ranked}
use Rattle.sb_kind.proofs.Texts.{text-Concat, text-Set, text-Top, text-Cms, text-Pair, text-Map}

-- a valid element with values of the type
abbrev IsElement : Monoid → ValueType → Agg → Type 0
IsElement m t a = IsOf m a × IsTyped m t a

left_true : (a b : Bool) → (a && b) ≡ true → a ≡ true
left_true true b e = refl
left_true false b e = e

right_true : (a b : Bool) → (a && b) ≡ true → b ≡ true
right_true true b e = e
right_true false b e = cc

all_any : {X : Type 0} (xs : List X) → AllByRecursion AnyKey xs
all_any [] = tt
all_any (x ∷ xs) = (tt, all_any xs)

all_weaker : {X : Type 0} (P Q : X → Type 0) → ((x : X) → P x → Q x) → (xs : List X) → AllByRecursion P xs → AllByRecursion Q xs
all_weaker P Q next [] all = tt
all_weaker P Q next (x ∷ xs) all = (next x all.0, all_weaker P Q next xs all.1)

-- numbers and values
text-Sum : (n : ℤ) → element_text (Sum n) ≡ signed_decimal n
text-Sum n = ap element_text (sym (rolls-Sum n)) ∙ fold-roll-Agg (List ℕ) text_layer (layer.Sum n)

text-Min : (n : ℤ) → element_text (Min n) ≡ signed_decimal n
text-Min n = ap element_text (sym (rolls-Min n)) ∙ fold-roll-Agg (List ℕ) text_layer (layer.Min n)

text-Max : (n : ℤ) → element_text (Max n) ≡ signed_decimal n
text-Max n = ap element_text (sym (rolls-Max n)) ∙ fold-roll-Agg (List ℕ) text_layer (layer.Max n)

text-First : (v : Val) → element_text (First v) ≡ val_text v
text-First v = ap element_text (sym (rolls-First v)) ∙ fold-roll-Agg (List ℕ) text_layer (layer.First v)

text-Last : (v : Val) → element_text (Last v) ≡ val_text v
text-Last v = ap element_text (sym (rolls-Last v)) ∙ fold-roll-Agg (List ℕ) text_layer (layer.Last v)

text-Hll : (all : List ℕ) → element_text (Hll all) ≡ encode_lower all
text-Hll all = ap element_text (sym (rolls-Hll all)) ∙ fold-roll-Agg (List ℕ) text_layer (layer.Hll all)

sum_reads : (t : ValueType) → Reads (IsElement sums t) element_text (element_front sums t)
unfolding out-Agg denote.Hole.Carrier.out
sum_reads t = reads_made (FitsSigned w64) signed_decimal number_front (IsElement sums t) element_text Sum number_reads (λ n fits. ((refl, fits), tt)) text-Sum (λ a is. (number_in a, is.0.0, is.0.1))

least_reads : (t : ValueType) → Reads (IsElement least t) element_text (element_front least t)
unfolding out-Agg denote.Hole.Carrier.out
least_reads t = reads_made (FitsSigned w64) signed_decimal number_front (IsElement least t) element_text Min number_reads (λ n fits. ((refl, fits), tt)) text-Min (λ a is. (number_in a, is.0.0, is.0.1))

greatest_reads : (t : ValueType) → Reads (IsElement greatest t) element_text (element_front greatest t)
unfolding out-Agg denote.Hole.Carrier.out
greatest_reads t = reads_made (FitsSigned w64) signed_decimal number_front (IsElement greatest t) element_text Max number_reads (λ n fits. ((refl, fits), tt)) text-Max (λ a is. (number_in a, is.0.0, is.0.1))

first_reads : (t : ValueType) → Reads (IsElement firsts t) element_text (element_front firsts t)
unfolding out-Agg denote.Hole.Carrier.out
first_reads t = reads_made (IsVal t) val_text (val_front t) (IsElement firsts t) element_text First (val_reads t) (λ v of. (refl, of)) text-First (λ a is. (value_in a, is.0, is.1))

last_reads : (t : ValueType) → Reads (IsElement lasts t) element_text (element_front lasts t)
unfolding out-Agg denote.Hole.Carrier.out
last_reads t = reads_made (IsVal t) val_text (val_front t) (IsElement lasts t) element_text Last (val_reads t) (λ v of. (refl, of)) text-Last (λ a is. (value_in a, is.0, is.1))

hll_reads : (b : ℕ) (t : ValueType) → Reads (IsElement (registers b) t) element_text (element_front (registers b) t)
unfolding out-Agg denote.Hole.Carrier.out
hll_reads b t =
    reads_made (AreRegisters b) encode_lower (leaf_front (registers_read b)) (IsElement (registers b) t) element_text Hll (registers_reads b) (λ all valid. ((refl, valid), tt)) text-Hll
    (λ a is. (registers_in a, is.0.0, is.0.1))

-- lists
concat_reads : (t : ValueType) → Reads (IsElement concats t) element_text (element_front concats t)
unfolding out-Agg denote.Hole.Carrier.out
concat_reads t =
    reads_made _ _ (bracketed 91 93 (val_front t) any_list) (IsElement concats t) element_text Concat
    (reads_bracketed (IsVal t) val_text (val_front t) (val_reads t) 93 refl (λ rest. refl) (no_value t) 91 any_list (λ rest. refl) (λ rest. refl))
    (λ vs are. (refl, are.0)) (λ vs. sym (text-Concat (Concat vs) vs vs refl refl)) (λ a is. (values_in a, is.0, (is.1, refl)))

set_reads : (t : ValueType) → Reads (IsElement sets t) element_text (element_front sets t)
unfolding out-Agg denote.Hole.Carrier.out
set_reads t =
    reads_made _ _ (bracketed 123 125 (val_front t) (is_sorted false val_cmp)) (IsElement sets t) element_text Set
    (reads_bracketed (IsVal t) val_text (val_front t) (val_reads t) 125 refl (λ rest. refl) (no_value_in_set t) 123 (is_sorted false val_cmp) (λ rest. refl) (λ rest. refl))
    (λ vs are. ((refl, record { rising = sorted_rising val_cmp val_total vs are.1; valid = all_any vs }), are.0)) (λ vs. sym (text-Set (Set vs) vs vs refl refl))
    (λ a is. (values_in a, is.0.0, (is.1, rising_sorted val_cmp val_total (values_in a) is.0.1.rising)))

rank_sorted : (k : ℕ) (items : List (ℤ × List ℕ)) → IsTop (by_rank text_cmp) k items → is_top k items ≡ true
rank_sorted k items top =
    let few : nat_le (length items) k ≡ true = let le = top.few in grind (arith, nat_tests, le) in
    rw (few, ranked_sorted (by_rank text_cmp) (by_rank_total text_cmp text_total) items top.ranked) refl

sorted_top : (k : ℕ) (items : List (ℤ × List ℕ)) → is_top k items ≡ true → IsTop (by_rank text_cmp) k items
sorted_top k items e =
    let few = left_true (nat_le (length items) k) (is_sorted true (by_rank text_cmp) items) e in
    record {
      ranked = sorted_ranked (by_rank text_cmp) (by_rank_total text_cmp text_total) items (right_true (nat_le (length items) k) (is_sorted true (by_rank text_cmp) items) e);
      few = grind (arith, nat_tests, few);
    }

top_reads : (k : ℕ) (t : ValueType) → Reads (IsElement (tops k) t) element_text (element_front (tops k) t)
unfolding out-Agg denote.Hole.Carrier.out
top_reads k t =
    reads_made _ _ (bracketed 91 93 item_front (is_top k)) (IsElement (tops k) t) element_text Top
    (reads_bracketed IsScored item_text item_front item_reads 93 refl (λ rest. refl) (λ rest. refl) 91 (is_top k) (λ rest. refl) (λ rest. refl))
    (λ items are. ((refl, sorted_top k items are.1), are.0)) (λ items. sym (text-Top (Top items) items items refl refl))
    (λ a is. (scored_in a, is.0.0, (is.1, rank_sorted k (scored_in a) is.0.1)))

is_count : (n : ℕ) (cells : List ℕ) → eqb (length cells) n ≡ true → AllByRecursion IsCount cells → AreCells n IsCount cells
is_count n cells same all = record { count = grind (arith, nat_tests, same); valid = all }

count_is : (n : ℕ) (cells : List ℕ) → AreCells n IsCount cells → eqb (length cells) n ≡ true
count_is n cells are = let e = are.count in grind (arith, nat_tests, e)

cms_reads : (d w : ℕ) (t : ValueType) → Reads (IsElement (sketches d w) t) element_text (element_front (sketches d w) t)
unfolding out-Agg denote.Hole.Carrier.out
cms_reads d w t =
    reads_made _ _ (bracketed 91 93 cell_front (λ cells. eqb (length cells) (d * w))) (IsElement (sketches d w) t) element_text Cms
    (reads_bracketed IsCount decimal cell_front cell_reads 93 refl (λ rest. refl) (λ rest. refl) 91 (λ cells. eqb (length cells) (d * w)) (λ rest. refl) (λ rest. refl))
    (λ cells are. ((refl, is_count (d * w) cells are.1 are.0), tt)) (λ cells. sym (text-Cms (Cms cells) cells cells refl refl))
    (λ a is. (cells_in a, is.0.0, (is.0.1.valid, count_is (d * w) (cells_in a) is.0.1)))

-- pairs and maps, whose type is a pair's
halves_is : (t : ValueType) → IfSome (halves t) (λ h. t ≡ pair_types h.0 h.1)
halves_is ints = tt
halves_is texts = tt
halves_is truths = tt
halves_is (pair_types a b) = refl
halves_is (options a) = tt
halves_is (lists a most) = tt
halves_is (records fields) = tt

if_weaker : {X : Type 0} (o : Option X) (P Q : X → Type 0) → IfSome o P → ((x : X) → P x → Q x) → IfSome o Q
if_weaker None P Q is next = tt
if_weaker (Some x) P Q is next = next x is

-- an element of a part of a monoid by the two types of a pair
abbrev OfHalves : (Agg → Type 0) → (ValueType → ValueType → Agg → Type 0) → ValueType → Agg → Type 0
OfHalves P Q t a = P a × ((b : ValueType) × (c : ValueType) × (t ≡ pair_types b c) × Q b c a)

reads_halves : (P : Agg → Type 0) (Q : ValueType → ValueType → Agg → Type 0) (read : ValueType → ValueType → List ℕ → Option (Found Agg))
    → ((b c : ValueType) → Reads (λ a. P a × Q b c a) element_text (read b c)) → (t : ValueType)
    → Reads (OfHalves P Q t) element_text (λ bytes. option_and_then (λ h. read h.0 h.1 bytes) (halves t))
reads_halves P Q read reads t = record {
  spelled = λ bytes. and_then_if (halves t) (λ h. read h.0 h.1 bytes) (λ h. t ≡ pair_types h.0 h.1) (IsSpelled (OfHalves P Q t) element_text bytes) (halves_is t) (λ h is.
      if_weaker (read h.0 h.1 bytes) (IsSpelled (λ a. P a × Q h.0 h.1 a) element_text bytes) (IsSpelled (OfHalves P Q t) element_text bytes) ((reads h.0 h.1).spelled bytes) (λ f of.
      ((of.0.0, (h.0, h.1, is, of.0.1)), of.1)));
  every = λ a rest is end. rw is.1.2 ((reads is.1.0 is.1.1).every a rest (is.0, is.1.3) end);
}

pair_reads : (m n : Monoid) → ((t : ValueType) → Reads (IsElement m t) element_text (element_front m t)) → ((t : ValueType) → Reads (IsElement n t) element_text (element_front n t))
    → (t : ValueType) → Reads (IsElement (pairs m n) t) element_text (element_front (pairs m n) t)
pair_reads m n left right =
    reads_halves (IsOf (pairs m n)) (λ b c a. IsTyped m b (left_in a) × IsTyped n c (right_in a)) (λ b c bytes. made (λ both. Pair both.0 both.1) (both_front (element_front m b) (element_front n c) bytes))
    (λ b c. reads_made _ _ (both_front (element_front m b) (element_front n c)) (λ a. IsOf (pairs m n) a × (IsTyped m b (left_in a) × IsTyped n c (right_in a))) element_text (λ both. Pair both.0 both.1)
    (reads_both (IsElement m b) element_text (element_front m b) (IsElement n c) element_text (element_front n c) (left b) (right c))
    (λ both are. (pair_is m n both.0 both.1 are.0.0 are.1.0, (subst (IsTyped m b) (sym (left-Pair both.0 both.1)) are.0.1, subst (IsTyped n c) (sym (right-Pair both.0 both.1)) are.1.1)))
    (λ both. text-Pair (Pair both.0 both.1) both.0 both.1 refl)
    (λ a is. ((left_in a, right_in a), is.0.0, ((is.0.1, is.1.0), (is.0.2, is.1.1)))))

all_both : {X : Type 0} (P Q R : X → Type 0) → ((x : X) → P x → Q x → R x) → (xs : List X) → AllByRecursion P xs → AllByRecursion Q xs → AllByRecursion R xs
all_both P Q R next [] p q = tt
all_both P Q R next (x ∷ xs) p q = (next x p.0 q.0, all_both P Q R next xs p.1 q.1)

no_entry : (m : Monoid) (b c : ValueType) (rest : List ℕ) → entry_front (val_front b) (element_front m c) (125 ∷ rest) ≡ None
no_entry m b c rest = rw (no_value_in_set b rest) refl

map_reads : (m : Monoid) → ((t : ValueType) → Reads (IsElement m t) element_text (element_front m t)) → (t : ValueType) → Reads (IsElement (maps m) t) element_text (element_front (maps m) t)
map_reads m part =
    let order = by_key {K = Val} {E = Agg} val_cmp in
    let total = on_total (λ (entry : Val × Agg). entry.0) val_total in
    reads_halves (IsOf (maps m)) (λ b c a. AllByRecursion (λ entry. IsVal b entry.0 × IsTyped m c entry.1) (entries_in a))
    (λ b c bytes. made Map (bracketed 123 125 (entry_front (val_front b) (element_front m c)) (is_sorted false order) bytes))
    (λ b c. let Typed : Val × Agg → Type 0 = λ entry. IsVal b entry.0 × IsTyped m c entry.1 in
    let Of : Val × Agg → Type 0 = λ entry. IsOf m entry.1 in
    let Entry : Val × Agg → Type 0 = λ entry. IsVal b entry.0 × IsElement m c entry.1 in
    reads_made _ _ (bracketed 123 125 (entry_front (val_front b) (element_front m c)) (is_sorted false order)) (λ a. IsOf (maps m) a × AllByRecursion Typed (entries_in a)) element_text Map
    (reads_bracketed Entry entry_line (entry_front (val_front b) (element_front m c)) (reads_entry (IsVal b) val_text (val_front b) (IsElement m c) element_text (element_front m c) (val_reads b) (part c))
    125 refl (λ rest. refl) (no_entry m b c) 123 (is_sorted false order) (λ rest. refl) (λ rest. refl))
    (λ es are. (
      map_is m es (record { rising = sorted_rising order total es are.1; valid = all_weaker Entry Of (λ e is. is.1.0) es are.0 }),
      subst (AllByRecursion Typed) (sym (entries-Map es)) (all_weaker Entry Typed (λ e is. (is.0, is.1.1)) es are.0),
    ))
    (λ es. text-Map (Map es) es refl)
    (λ a is. (entries_in a, is.0.0, (all_both Of Typed Entry (λ e of typed. (typed.0, (of, typed.1))) (entries_in a) is.0.1.valid is.1, rising_sorted order total (entries_in a) is.0.1.rising))))

pub element_reads : (m : Monoid) (t : ValueType) → Reads (IsElement m t) element_text (element_front m t)
element_reads sums t = sum_reads t
element_reads least t = least_reads t
element_reads greatest t = greatest_reads t
element_reads firsts t = first_reads t
element_reads lasts t = last_reads t
element_reads concats t = concat_reads t
element_reads sets t = set_reads t
element_reads (tops k) t = top_reads k t
element_reads (sketches d w) t = cms_reads d w t
element_reads (registers b) t = hll_reads b t
element_reads (pairs m n) t = pair_reads m n (λ t. element_reads m t) (λ t. element_reads n t) t
element_reads (maps m) t = map_reads m (λ t. element_reads m t) t

-- whole texts
abbrev pub IsRead : Monoid → ValueType → List ℕ → Agg → Type 0
IsRead m t bytes a = IsOf m a × IsTyped m t a × (bytes ≡ element_text a)

ended_if : (m : Monoid) (t : ValueType) (bytes rest : List ℕ) (a : Agg) → IsElement m t a → bytes ≡ element_text a ++ rest → IfSome (before_end a rest) (IsRead m t bytes)
ended_if m t bytes [] a of is = (of.0, of.1, is ∙ append-nil (element_text a))
ended_if m t bytes (b ∷ rest) a of is = tt

pub read-spelled : (m : Monoid) (t : ValueType) (bytes : List ℕ) → IfSome (element_read m t bytes) (IsRead m t bytes)
read-spelled m t bytes =
    and_then_if (element_front m t bytes) (λ f. before_end f.value f.rest) (IsSpelled (IsElement m t) element_text bytes) (IsRead m t bytes) ((element_reads m t).spelled bytes)
    (λ f is. ended_if m t bytes f.rest f.value is.0 is.1)

pub read-text : (m : Monoid) (t : ValueType) (a : Agg) → IsOf m a → IsTyped m t a → element_read m t (element_text a) ≡ Some a
read-text m t a of typed = rw (sym (append-nil (element_text a)), (element_reads m t).every a [] (of, typed) tt) refl

pub some_read : {X : Type 0} (answer o : Option X) (P : X → Type 0) → answer ≡ o → IfSome o P → IfSome answer P
some_read answer o P is holds = rw is holds
