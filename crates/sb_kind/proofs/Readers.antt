-- Readers that read just the texts of what they read.
use Rattle.std.proofs.Common.{◌≡◌, ◌∙◌, inl, inr, ℕ, zero, suc, ◌≤◌, ◌+◌, Bool, true, false, cond, List, [], ◌∷◌, ◌++◌, map, length, Option, Some, None, refl, sym, ap, ap₂, arith, append_assoc}
use Rattle.std.specs.Prelude.{IfSome, option_map, option_and_then}
use Rattle.std.specs.List.{AllByRecursion}
use Rattle.std.specs.Option.{option_map_or}
use Rattle.std.proofs.lemmas.Bool.Decides.{nat_tests}
use Rattle.sb_types.specs.Read.{ends_part, IsEnd, leaf, after_leaf, expect}
use Rattle.sb_types.proofs.Inner.{IsInner, leaf-front, after_leaf-front, leaf_whole}
use Rattle.sb_types.proofs.ReadAgain.{pair_parts}
use Rattle.sb_types.proofs.ReadSpelled.{and_then_if, map_if, map_or, expect-spelled}
use Rattle.sb_kind.specs.ElementText.{further, joined}
use Rattle.sb_kind.specs.Read.{Found, found, made, leaf_front, behind, both_front, entry_front, after_comma, item_at, items_from, items_front, closed, bracketed}

-- the bytes are the text of what was read, which is valid, before what follows
abbrev pub IsSpelled : {X : Type 0} → (X → Type 0) → (X → List ℕ) → List ℕ → Found X → Type 0
IsSpelled V text bytes f = V f.value × (bytes ≡ text f.value ++ f.rest)

-- what is read is spelled so, and each text of a valid one before an end is read as that
pub record Reads {X : Type 0} (V : X → Type 0) (text : X → List ℕ) (read : List ℕ → Option (Found X)) : Type 0 where
  pub spelled : (bytes : List ℕ) → IfSome (read bytes) (IsSpelled V text bytes)
  pub every : (x : X) (rest : List ℕ) → V x → IsEnd rest → read (text x ++ rest) ≡ Some (found x rest)

-- what is made of what is read
module _ {X Y : Type 0} (V : X → Type 0) (text : X → List ℕ) (read : List ℕ → Option (Found X)) (W : Y → Type 0) (line : Y → List ℕ) (make : X → Y) where
  pub reads_made : Reads V text read → ((x : X) → V x → W (make x)) → ((x : X) → line (make x) ≡ text x) → ((y : Y) → W y → (x : X) × (y ≡ make x) × V x)
      → Reads W line (λ bytes. made make (read bytes))
  reads_made reads valid lines back = record {
    spelled = λ bytes. map_if (read bytes) (λ f. found (make f.value) f.rest) (IsSpelled V text bytes) (IsSpelled W line bytes) (reads.spelled bytes)
        (λ f is. (valid f.value is.0, is.1 ∙ ap (λ l. l ++ f.rest) (sym (lines f.value))));
    every = λ y rest is end.
        let from = back y is in
        let text_of : line y ≡ text from.0 = ap line from.1 ∙ lines from.0 in
        rw (text_of, reads.every from.0 rest from.2 end) (ap (λ z. Some (found z rest)) (sym from.1));
  }

-- a part without parts
module _ {X : Type 0} (V : X → Type 0) (text : X → List ℕ) (read : List ℕ → Option X) where
  pub reads_leaf : ((bytes : List ℕ) → IfSome (read bytes) (λ x. V x × (bytes ≡ text x))) → ((x : X) → V x → read (text x) ≡ Some x) → ((x : X) → V x → IsInner (text x))
      → Reads V text (leaf_front read)
  reads_leaf spelled again inner = record {
    spelled = λ bytes. map_if (read (leaf bytes)) (λ x. found x (after_leaf bytes)) (λ x. V x × (leaf bytes ≡ text x)) (IsSpelled V text bytes) (spelled (leaf bytes))
        (λ x is. (is.0, leaf_whole bytes ∙ ap (λ l. l ++ after_leaf bytes) is.1));
    every = λ x rest is end.
        rw (leaf-front (text x) rest (inner x is) end, after_leaf-front (text x) rest (inner x is) end, again x is) refl;
  }

some_weaker : {Z : Type 0} (o : Option Z) (P Q : Z → Type 0) → IfSome o P → ((z : Z) → P z → Q z) → IfSome o Q
some_weaker None P Q is next = tt
some_weaker (Some z) P Q is next = next z is

-- what stands behind a byte
abbrev IsBehind : {X : Type 0} → ℕ → (X → Type 0) → (X → List ℕ) → List ℕ → Found X → Type 0
IsBehind byte V text bytes f = V f.value × (bytes ≡ byte ∷ (text f.value ++ f.rest))

behind-spelled : {X : Type 0} (V : X → Type 0) (text : X → List ℕ) (read : List ℕ → Option (Found X)) → Reads V text read → (byte : ℕ) (bytes : List ℕ)
    → IfSome (behind byte read bytes) (IsBehind byte V text bytes)
behind-spelled V text read reads byte bytes =
    and_then_if (expect byte bytes) read (λ after. bytes ≡ byte ∷ after) (IsBehind byte V text bytes) (expect-spelled byte bytes) (λ after opened.
    some_weaker (read after) (IsSpelled V text after) (IsBehind byte V text bytes) (reads.spelled after) (λ f is. (is.0, opened ∙ ap (λ l. byte ∷ l) is.1)))

entry_text_of : (key part rest : List ℕ) → ((key ++ 61 ∷ []) ++ part) ++ rest ≡ key ++ 61 ∷ (part ++ rest)
entry_text_of key part rest = append_assoc (key ++ 61 ∷ []) part rest ∙ append_assoc key (61 ∷ []) (part ++ rest)

-- two parts
module _ {X Y : Type 0} (V : X → Type 0) (text : X → List ℕ) (read : List ℕ → Option (Found X)) (W : Y → Type 0) (line : Y → List ℕ) (next : List ℕ → Option (Found Y)) where
  abbrev AreBoth : X × Y → Type 0
  AreBoth both = V both.0 × W both.1

  -- in parentheses
  abbrev pub pair_line : X × Y → List ℕ
  pair_line both = (((40 ∷ text both.0) ++ 44 ∷ []) ++ line both.1) ++ 41 ∷ []

  -- with an equals sign between them
  abbrev pub entry_of : X × Y → List ℕ
  entry_of both = (text both.0 ++ 61 ∷ []) ++ line both.1

  pair_again : (x : X) (y : Y) (rest : List ℕ) → ((rest : List ℕ) → IsEnd rest → read (text x ++ rest) ≡ Some (found x rest)) → ((rest : List ℕ) → IsEnd rest → next (line y ++ rest) ≡ Some (found y rest))
      → both_front read next (pair_line (x, y) ++ rest) ≡ Some (found (x, y) rest)
  pair_again x y rest left right = rw (pair_parts (text x) (line y) rest, left (44 ∷ (line y ++ 41 ∷ rest)) refl, right (41 ∷ rest) refl) refl

  pair_spelled : (bytes rest : List ℕ) (x : Found X) (y : Found Y) → bytes ≡ 40 ∷ (text x.value ++ x.rest) → x.rest ≡ 44 ∷ (line y.value ++ y.rest) → y.rest ≡ 41 ∷ rest
      → bytes ≡ pair_line (x.value, y.value) ++ rest
  pair_spelled bytes rest x y a b c =
      let inside : text x.value ++ x.rest ≡ text x.value ++ 44 ∷ (line y.value ++ 41 ∷ rest) = ap (λ l. text x.value ++ l) (b ∙ ap (λ l. 44 ∷ (line y.value ++ l)) c) in
      a ∙ ap (λ l. 40 ∷ l) (inside ∙ sym (pair_parts (text x.value) (line y.value) rest))

  pub reads_both : Reads V text read → Reads W line next → Reads AreBoth pair_line (both_front read next)
  reads_both first second = record {
    spelled = λ bytes.
        and_then_if (behind 40 read bytes) _ (IsBehind 40 V text bytes) (IsSpelled AreBoth pair_line bytes) (behind-spelled V text read first 40 bytes) (λ x is_x.
        and_then_if (behind 44 next x.rest) _ (IsBehind 44 W line x.rest) (IsSpelled AreBoth pair_line bytes) (behind-spelled W line next second 44 x.rest) (λ y is_y.
        map_if (expect 41 y.rest) _ (λ rest. y.rest ≡ 41 ∷ rest) (IsSpelled AreBoth pair_line bytes) (expect-spelled 41 y.rest) (λ rest ends.
        ((is_x.0, is_y.0), pair_spelled bytes rest x y is_x.1 is_y.1 ends))));
    every = λ both rest is end. pair_again both.0 both.1 rest (λ rest end. first.every both.0 rest is.0 end) (λ rest end. second.every both.1 rest is.1 end);
  }

  pub reads_entry : Reads V text read → Reads W line next → Reads AreBoth entry_of (λ bytes. option_and_then (λ k. made (λ p. (k.value, p)) (behind 61 next k.rest)) (read bytes))
  reads_entry key part = record {
    spelled = λ bytes.
        and_then_if (read bytes) _ (IsSpelled V text bytes) (IsSpelled AreBoth entry_of bytes) (key.spelled bytes) (λ k is_k.
        map_if (behind 61 next k.rest) (λ p. found (k.value, p.value) p.rest) (IsBehind 61 W line k.rest) (IsSpelled AreBoth entry_of bytes) (behind-spelled W line next part 61 k.rest) (λ p is_p.
        ((is_k.0, is_p.0), is_k.1 ∙ (ap (λ l. text k.value ++ l) is_p.1 ∙ sym (entry_text_of (text k.value) (line p.value) p.rest)))));
    every = λ both rest is end.
        rw (entry_text_of (text both.0) (line both.1) rest, key.every both.0 (61 ∷ (line both.1 ++ rest)) is.0 refl, part.every both.1 rest is.1 end) refl;
  }

-- lists
module _ {X : Type 0} (V : X → Type 0) (text : X → List ℕ) (read : List ℕ → Option (Found X)) (reads : Reads V text read) where
  -- the texts from a place on, before what follows
  abbrev texts_at : ℕ → List X → List ℕ
  texts_at zero xs = joined (map text xs)
  texts_at (suc at) xs = further (map text xs)

  abbrev AreSpelled : ℕ → List ℕ → Found (List X) → Type 0
  AreSpelled at bytes f = AllByRecursion V f.value × (bytes ≡ texts_at at f.value ++ f.rest)

  -- one behind the comma before its place
  item-spelled : (at : ℕ) (bytes : List ℕ) (xs : List X) (end : List ℕ) → (f : Found X) → f.rest ≡ texts_at (suc at) xs ++ end → IsSpelled V text bytes f
      → bytes ≡ texts_at zero (f.value ∷ xs) ++ end
  item-spelled at bytes xs end f rest is = is.1 ∙ (ap (λ l. text f.value ++ l) rest ∙ sym (append_assoc (text f.value) (further (map text xs)) end))

  items-spelled : (n at : ℕ) (bytes : List ℕ) → AreSpelled at bytes (items_from read n at bytes)
  items-spelled zero zero bytes = (tt, refl)
  items-spelled zero (suc at) bytes = (tt, refl)
  items-spelled (suc n) zero bytes =
      map_or (read bytes) (λ f. found (f.value ∷ (items_from read n 1 f.rest).value) (items_from read n 1 f.rest).rest) (found [] bytes) (IsSpelled V text bytes) (AreSpelled zero bytes) (reads.spelled bytes)
      (λ f is. let others = items-spelled n 1 f.rest in
      let rest = items_from read n 1 f.rest in
      ((is.0, others.0), item-spelled zero bytes rest.value rest.rest f others.1 is))
      (tt, refl)
  items-spelled (suc n) (suc at) bytes =
      map_or (item_at read (suc at) bytes) (λ f. found (f.value ∷ (items_from read n (suc (suc at)) f.rest).value) (items_from read n (suc (suc at)) f.rest).rest) (found [] bytes)
      (λ f. V f.value × (bytes ≡ 44 ∷ (text f.value ++ f.rest))) (AreSpelled (suc at) bytes)
      (behind-spelled V text read reads 44 bytes)
      (λ f is. let others = items-spelled n (suc (suc at)) f.rest in
      let rest = items_from read n (suc (suc at)) f.rest in
      ((is.0, others.0), is.1 ∙ ap (λ l. 44 ∷ l) (item-spelled at (text f.value ++ f.rest) rest.value rest.rest f others.1 (is.0, refl))))
      (tt, refl)

  further_end : (xs : List X) (rest : List ℕ) → IsEnd rest → IsEnd (further (map text xs) ++ rest)
  further_end [] rest end = end
  further_end (x ∷ xs) rest end = refl

  module _ (closing : ℕ) (ends : ends_part closing ≡ true) (no_comma : (rest : List ℕ) → expect 44 (closing ∷ rest) ≡ None) (no_item : (rest : List ℕ) → read (closing ∷ rest) ≡ None) where
    items-again : (n at : ℕ) (xs : List X) (rest : List ℕ) → AllByRecursion V xs → length xs ≤ n → items_from read n at (texts_at at xs ++ closing ∷ rest) ≡ found xs (closing ∷ rest)
    items-again zero zero [] rest all few = refl
    items-again zero (suc at) [] rest all few = refl
    items-again zero at (x ∷ xs) rest all few = absurd (omega (arith, few))
    items-again (suc n) zero [] rest all few = rw (no_item rest) refl
    items-again (suc n) (suc at) [] rest all few = rw (no_comma rest) refl
    items-again (suc n) zero (x ∷ xs) rest all few =
        let behind = further (map text xs) ++ closing ∷ rest in
        rw (append_assoc (text x) (further (map text xs)) (closing ∷ rest), reads.every x behind all.0 (further_end xs (closing ∷ rest) ends), items-again n 1 xs rest all.1 (omega (arith, few))) refl
    items-again (suc n) (suc at) (x ∷ xs) rest all few =
        let behind = further (map text xs) ++ closing ∷ rest in
        rw (append_assoc (text x) (further (map text xs)) (closing ∷ rest), reads.every x behind all.0 (further_end xs (closing ∷ rest) ends), items-again n (suc (suc at)) xs rest all.1 (omega (arith, few))) refl

    -- each item takes a byte at least
    few_items : (xs : List X) (rest : List ℕ) → length xs ≤ length (joined (map text xs) ++ closing ∷ rest)
    few_items [] rest = omega arith
    few_items (x ∷ xs) rest =
        let others = further_longer xs rest in
        let behind = length_behind (text x) (further (map text xs) ++ closing ∷ rest) in
        rw (append_assoc (text x) (further (map text xs)) (closing ∷ rest)) (omega (arith, others, behind)) where
          length_behind : (ys zs : List ℕ) → length zs ≤ length (ys ++ zs)
          length_behind [] zs = omega arith
          length_behind (y ∷ ys) zs = let rest = length_behind ys zs in omega (arith, rest)

          further_longer : (xs : List X) (rest : List ℕ) → length xs + 1 ≤ length (further (map text xs) ++ closing ∷ rest)
          further_longer [] rest = omega arith
          further_longer (x ∷ xs) rest =
              let shorter = further_longer xs rest in
              let behind = length_behind (text x) (further (map text xs) ++ closing ∷ rest) in
              rw (append_assoc (text x) (further (map text xs)) (closing ∷ rest)) (omega (arith, shorter, behind))

    module _ (opening : ℕ) (test : List X → Bool) where
      abbrev AreItems : List X → Type 0
      AreItems xs = AllByRecursion V xs × (test xs ≡ true)

      abbrev pub list_line : List X → List ℕ
      list_line xs = ((opening ∷ []) ++ joined (map text xs)) ++ closing ∷ []

      closed-spelled : (bytes inside : List ℕ) (items : Found (List X)) → bytes ≡ opening ∷ inside → AreSpelled zero inside items → IfSome (closed closing test items) (IsSpelled AreItems list_line bytes)
      closed-spelled bytes inside items opened are =
          elim (test items.value) as (λ b. test items.value ≡ b → IfSome (cond b (option_map (λ rest. found items.value rest) (expect closing items.rest)) None) (IsSpelled AreItems list_line bytes)) [
            | true ↦ λ passes. map_if (expect closing items.rest) (λ rest. found items.value rest) (λ rest. items.rest ≡ closing ∷ rest) (IsSpelled AreItems list_line bytes) (expect-spelled closing items.rest) (λ rest closes.
                ((are.0, passes), opened ∙ ap (λ l. opening ∷ l) (are.1 ∙ (ap (λ l. joined (map text items.value) ++ l) closes ∙ sym (append_assoc (joined (map text items.value)) (closing ∷ []) rest)))))
            | false ↦ λ _. tt
          ] refl

      pub reads_bracketed : ((rest : List ℕ) → expect closing (closing ∷ rest) ≡ Some rest) → ((inside : List ℕ) → expect opening (opening ∷ inside) ≡ Some inside)
          → Reads AreItems list_line (bracketed opening closing read test)
      reads_bracketed closes opens = record {
        spelled = λ bytes.
            and_then_if (expect opening bytes) (λ inside. closed closing test (items_front read inside)) (λ inside. bytes ≡ opening ∷ inside) (IsSpelled AreItems list_line bytes) (expect-spelled opening bytes)
            (λ inside opened. closed-spelled bytes inside (items_front read inside) opened (items-spelled (length inside) zero inside));
        every = λ xs rest are end.
            let inside = joined (map text xs) ++ closing ∷ rest in
            let whole : list_line xs ++ rest ≡ opening ∷ inside = ap (λ l. opening ∷ l) (append_assoc (joined (map text xs)) (closing ∷ []) rest) in
            let items : items_front read inside ≡ found xs (closing ∷ rest) = items-again (length inside) zero xs rest are.0 (few_items xs rest) in
            let last : closed closing test (found xs (closing ∷ rest)) ≡ Some (found xs rest) =
            ap (λ b. cond b (option_map (λ rest. found xs rest) (expect closing (closing ∷ rest))) None) are.1 ∙ ap (option_map (λ rest. found xs rest)) (closes rest) in
            ap (bracketed opening closing read test) whole ∙ (ap (option_and_then (λ inside. closed closing test (items_front read inside))) (opens inside) ∙ (ap (closed closing test) items ∙ last));
      }
