-- Lists that are read item by item.
use Rattle.std.proofs.Common.{◌≡◌, ◌∙◌, ℕ, zero, suc, ◌<◌, ◌≤◌, ◌-◌, ◌+◌, List, [], ◌∷◌, ◌++◌, Option, Some, None, refl, sym, ap, arith, append-nil}
use Rattle.sb_kind.specs.Read.{Found, found, item_at, items_from}

-- what stood before what was read
abbrev pub onto : {X : Type 0} → List X → Found (List X) → Found (List X)
onto xs f = found (xs ++ f.value) f.rest

push : {X : Type 0} (xs : List X) (x : X) (ys : List X) → (xs ++ x ∷ []) ++ ys ≡ xs ++ x ∷ ys
push [] x ys = refl
push (z ∷ xs) x ys = ap (λ l. z ∷ l) (push xs x ys)

none_more : {X : Type 0} (xs : List X) (bytes : List ℕ) → onto xs (found [] bytes) ≡ found xs bytes
none_more xs bytes = ap (λ l. found l bytes) (append-nil xs)

-- one item more is read
pub items_step : {X : Type 0} (read : List ℕ → Option (Found X)) (count at : ℕ) (xs : List X) (x : X) (bytes after : List ℕ) (whole : Found (List X)) → at < count
    → item_at read at bytes ≡ Some (found x after) → onto xs (items_from read (count - at) at bytes) ≡ whole
    → onto (xs ++ x ∷ []) (items_from read (count - (at + 1)) (at + 1) after) ≡ whole
items_step read count at xs x bytes after whole below next now =
    let n = count - (at + 1) in
    let turns : count - at ≡ suc n = omega arith in
    let place : at + 1 ≡ suc at = omega arith in
    let p = items_from read n (suc at) after in
    let then : onto xs (found (x ∷ p.value) p.rest) ≡ whole = rw (turns, next) at now in
    ap (λ k. onto (xs ++ x ∷ []) (items_from read n k after)) place ∙ (ap (λ l. found l p.rest) (push xs x p.value) ∙ then)

-- no item more is read
pub items_stop : {X : Type 0} (read : List ℕ → Option (Found X)) (n at : ℕ) (xs : List X) (bytes : List ℕ) (whole : Found (List X)) → item_at read at bytes ≡ None
    → onto xs (items_from read n at bytes) ≡ whole → found xs bytes ≡ whole
items_stop read zero at xs bytes whole next now = sym (none_more xs bytes) ∙ now
items_stop read (suc n) at xs bytes whole next now =
    let then : onto xs (found [] bytes) ≡ whole = rw next at now in
    sym (none_more xs bytes) ∙ then

-- each place was seen
pub items_end : {X : Type 0} (read : List ℕ → Option (Found X)) (count at : ℕ) (xs : List X) (bytes : List ℕ) (whole : Found (List X)) → count ≤ at
    → onto xs (items_from read (count - at) at bytes) ≡ whole → found xs bytes ≡ whole
items_end read count at xs bytes whole past now =
    let none : count - at ≡ 0 = omega arith in
    let then : onto xs (found [] bytes) ≡ whole = rw none at now in
    sym (none_more xs bytes) ∙ then
