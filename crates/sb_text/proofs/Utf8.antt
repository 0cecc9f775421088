-- A text in UTF-8 consists of bytes.
use Rattle.std.proofs.Common.{◌≡◌, ℕ, ◌+◌, ◌/◌, ◌<◌, Bool, true, false, cond, ◌&&◌, List, [], ◌∷◌, ◌++◌, refl, subst, arith, IsUtf8}
use Rattle.std.specs.List.{AllByRecursion}
use Rattle.std.proofs.lemmas.Bool.Decides.{nat_tests}
use lib.Dec.{ltb}
use lib.Utf8.{encode, encodes, scalar, scalars, next, scalar_cases}
use mathlib.Core.Logic.{⊎_elim}

abbrev pub AreBytes : List ℕ → Type 0
AreBytes = AllByRecursion (λ b. b < 256)

joined_bytes : (xs ys : List ℕ) → AreBytes xs → AreBytes ys → AreBytes (xs ++ ys)
joined_bytes [] ys all rest = rest
joined_bytes (x ∷ xs) ys all rest = (all.0, joined_bytes xs ys all.1 rest)

low : (c : ℕ) → scalar c ≡ true → c < 1114112
low c is = ⊎_elim (λ h. omega arith) (λ h. h.1) (scalar_cases c is)

encode_bytes : (c : ℕ) → scalar c ≡ true → AreBytes (encode c)
unfolding encode
encode_bytes c is =
    let small : c < 1114112 = low c is in
    elim (ltb c 128) as (λ b. ltb c 128 ≡ b → AreBytes (cond b (c ∷ []) (cond (ltb c 2048) ((192 + c / 64) ∷ next c ∷ []) (cond (ltb c 65536) ((224 + c / 4096) ∷ next (c / 64) ∷ next c ∷ []) ((240 + c / 262144) ∷ next (c / 4096) ∷ next (c / 64) ∷ next c ∷ []))))) [
      | true ↦ λ one. (grind (arith, nat_tests), tt)
      | false ↦ λ _. elim (ltb c 2048) as (λ b. ltb c 2048 ≡ b → AreBytes (cond b ((192 + c / 64) ∷ next c ∷ []) (cond (ltb c 65536) ((224 + c / 4096) ∷ next (c / 64) ∷ next c ∷ []) ((240 + c / 262144) ∷ next (c / 4096) ∷ next (c / 64) ∷ next c ∷ [])))) [
        | true ↦ λ two. let h : c < 2048 = grind (arith, nat_tests) in (omega arith, (omega arith, tt))
        | false ↦ λ _. elim (ltb c 65536) as (λ b. ltb c 65536 ≡ b → AreBytes (cond b ((224 + c / 4096) ∷ next (c / 64) ∷ next c ∷ []) ((240 + c / 262144) ∷ next (c / 4096) ∷ next (c / 64) ∷ next c ∷ []))) [
          | true ↦ λ three. let h : c < 65536 = grind (arith, nat_tests) in (omega arith, (omega arith, (omega arith, tt)))
          | false ↦ λ _. (omega arith, (omega arith, (omega arith, (omega arith, tt))))
        ] refl
      ] refl
    ] refl

both_true : (a b : Bool) → (a && b) ≡ true → (a ≡ true) × (b ≡ true)
both_true true b h = (refl, h)
both_true false b h = cc

encodes_bytes : (cs : List ℕ) → scalars cs ≡ true → AreBytes (encodes cs)
encodes_bytes [] are = tt
encodes_bytes (c ∷ cs) are =
    let both = both_true (scalar c) (scalars cs) are in
    joined_bytes (encode c) (encodes cs) (encode_bytes c both.0) (encodes_bytes cs both.1)

pub utf8_bytes : (t : List ℕ) → IsUtf8 t → AreBytes t
utf8_bytes t is = subst AreBytes is.1.1 (encodes_bytes is.0 is.1.0)
