-- Keys put into a set.
use Rattle.std.proofs.Common.{◌≡◌, Bool, true, false, cond, ◌||◌, List, [], ◌∷◌, refl, ap, ◌∙◌}
use Rattle.std.specs.Map.{keys_of}
use Rattle.std.specs.List.{list_any}
use Rattle.std.specs.Cmp.{eq_by_cmp_equiv}
use Rattle.sb_feed.specs.declared.key.KeyBytes.{KeyBytes}
use Rattle.sb_feed.specs.Keys.{same_key}
use Rattle.sb_feed.proofs.KeyTies.{key_order_total}
use Rattle.sb_feed.proofs.PartSums.{same_is_equal}

pub same_turned : (a b : KeyBytes) → same_key a b ≡ same_key b a
same_turned a b = (eq_by_cmp_equiv key_order_total).symm a b

put_or : (t a : Bool) → cond t true a ≡ (a || t)
put_or true true = refl
put_or true false = refl
put_or false true = refl
put_or false false = refl

-- after a new key is put in
pub with_new : (keys after : List KeyBytes) (key copy q : KeyBytes) → copy ≡ key → list_any (same_key q) after ≡ cond (same_key copy q) true (list_any (same_key q) keys) → list_any (same_key q) after ≡ (list_any (same_key q) keys || same_key q key)
with_new keys after key copy q e h =
    h ∙ (put_or (same_key copy q) (list_any (same_key q) keys) ∙ ap (λ t. list_any (same_key q) keys || t) (ap (λ k. same_key k q) e ∙ same_turned key q))

-- a key that is there changes nothing
pub with_old : (keys : List KeyBytes) (key q : KeyBytes) → list_any (same_key key) keys ≡ true → list_any (same_key q) keys ≡ (list_any (same_key q) keys || same_key q key)
with_old keys key q h = cases (same_key q key) refl
  where
    cases : (t : Bool) → same_key q key ≡ t → list_any (same_key q) keys ≡ (list_any (same_key q) keys || t)
    cases true e = (let there : list_any (same_key q) keys ≡ true = ap (λ k. list_any (same_key k) keys) (same_is_equal q key e) ∙ h in rw there refl)
    cases false e = or_false (list_any (same_key q) keys)
      where
        or_false : (a : Bool) → a ≡ (a || false)
        or_false true = refl
        or_false false = refl

-- the keys of entries, and the entries
pub any_key : {E : Type 0} (q : KeyBytes) (es : List (KeyBytes × E)) → list_any (same_key q) (keys_of es) ≡ list_any (λ e. same_key q e.0) es
any_key q [] = refl
any_key q (e ∷ es) = ap (λ t. same_key q e.0 || t) (any_key q es)
