-- A text that is written as a field is read as the same text, and a field that is read is its text's escaped form.
use Rattle.std.proofs.Common.{◌≡◌, ℕ, true, false, cond, List, [], ◌∷◌, ◌++◌, Option, Some, None, refl, ap, ◌∙◌, subst, arith, eqb}
use Rattle.std.specs.Prelude.{IfSome}
use Rattle.std.proofs.lemmas.Bool.Decides.{nat_tests}
use Rattle.sb_text.specs.Field.{field_escaped_byte, field_escaped, field_unescaped, unescaped_after, after_backslash, is_separator, onto_text}

-- what is written is read again
first_again : (b : ℕ) (rest : List ℕ) → field_unescaped (field_escaped_byte b ++ rest) ≡ onto_text (Some b) (field_unescaped rest)
first_again b rest =
    elim (eqb b 92) as (λ a. eqb b 92 ≡ a → field_unescaped (cond a (92 ∷ 92 ∷ []) (cond (eqb b 9) (92 ∷ 116 ∷ []) (cond (eqb b 10) (92 ∷ 110 ∷ []) (cond (eqb b 13) (92 ∷ 114 ∷ []) (b ∷ [])))) ++ rest) ≡ onto_text (Some b) (field_unescaped rest)) [
      | true ↦ λ is. let e : b ≡ 92 = grind (arith, nat_tests) in rw e refl
      | false ↦ λ unlike. elim (eqb b 9) as (λ a. eqb b 9 ≡ a → field_unescaped (cond a (92 ∷ 116 ∷ []) (cond (eqb b 10) (92 ∷ 110 ∷ []) (cond (eqb b 13) (92 ∷ 114 ∷ []) (b ∷ []))) ++ rest) ≡ onto_text (Some b) (field_unescaped rest)) [
        | true ↦ λ is. let e : b ≡ 9 = grind (arith, nat_tests) in rw e refl
        | false ↦ λ no_tab. elim (eqb b 10) as (λ a. eqb b 10 ≡ a → field_unescaped (cond a (92 ∷ 110 ∷ []) (cond (eqb b 13) (92 ∷ 114 ∷ []) (b ∷ [])) ++ rest) ≡ onto_text (Some b) (field_unescaped rest)) [
          | true ↦ λ is. let e : b ≡ 10 = grind (arith, nat_tests) in rw e refl
          | false ↦ λ no_lf. elim (eqb b 13) as (λ a. eqb b 13 ≡ a → field_unescaped (cond a (92 ∷ 114 ∷ []) (b ∷ []) ++ rest) ≡ onto_text (Some b) (field_unescaped rest)) [
            | true ↦ λ is. let e : b ≡ 13 = grind (arith, nat_tests) in rw e refl
            | false ↦ λ no_cr. rw (unlike, no_tab, no_lf, no_cr) refl
          ] refl
        ] refl
      ] refl
    ] refl

pub field_unescaped-escaped : (t : List ℕ) → field_unescaped (field_escaped t) ≡ Some t
field_unescaped-escaped [] = refl
field_unescaped-escaped (b ∷ t) = first_again b (field_escaped t) ∙ ap (onto_text (Some b)) (field_unescaped-escaped t)

-- what is read is written so
onto_spelled : (front bytes : List ℕ) (first : Option ℕ) (rest : Option (List ℕ)) → IfSome first (λ b. front ≡ field_escaped_byte b)
    → IfSome rest (λ t. bytes ≡ field_escaped t) → IfSome (onto_text first rest) (λ t. front ++ bytes ≡ field_escaped t)
onto_spelled front bytes None rest f r = tt
onto_spelled front bytes (Some b) None f r = tt
onto_spelled front bytes (Some b) (Some t) f r = ap (λ xs. xs ++ bytes) f ∙ ap (λ ys. field_escaped_byte b ++ ys) r

plain_spelled : (b : ℕ) → eqb b 92 ≡ false → is_separator b ≡ false → b ∷ [] ≡ field_escaped_byte b
plain_spelled b unlike other =
    let no_tab : eqb b 9 ≡ false = grind (arith, nat_tests) in
    let no_lf : eqb b 10 ≡ false = grind (arith, nat_tests) in
    let no_cr : eqb b 13 ≡ false = grind (arith, nat_tests) in
    rw (unlike, no_tab, no_lf, no_cr) refl

after_spelled : (c : ℕ) → IfSome (after_backslash c) (λ b. 92 ∷ c ∷ [] ≡ field_escaped_byte b)
after_spelled c =
    elim (eqb c 92) as (λ a. eqb c 92 ≡ a → IfSome (cond a (Some 92) (cond (eqb c 116) (Some 9) (cond (eqb c 110) (Some 10) (cond (eqb c 114) (Some 13) None)))) (λ b. 92 ∷ c ∷ [] ≡ field_escaped_byte b)) [
      | true ↦ λ is. let e : c ≡ 92 = grind (arith, nat_tests) in rw e refl
      | false ↦ λ _. elim (eqb c 116) as (λ a. eqb c 116 ≡ a → IfSome (cond a (Some 9) (cond (eqb c 110) (Some 10) (cond (eqb c 114) (Some 13) None))) (λ b. 92 ∷ c ∷ [] ≡ field_escaped_byte b)) [
        | true ↦ λ is. let e : c ≡ 116 = grind (arith, nat_tests) in rw e refl
        | false ↦ λ _. elim (eqb c 110) as (λ a. eqb c 110 ≡ a → IfSome (cond a (Some 10) (cond (eqb c 114) (Some 13) None)) (λ b. 92 ∷ c ∷ [] ≡ field_escaped_byte b)) [
          | true ↦ λ is. let e : c ≡ 110 = grind (arith, nat_tests) in rw e refl
          | false ↦ λ _. elim (eqb c 114) as (λ a. eqb c 114 ≡ a → IfSome (cond a (Some 13) None) (λ b. 92 ∷ c ∷ [] ≡ field_escaped_byte b)) [
            | true ↦ λ is. let e : c ≡ 114 = grind (arith, nat_tests) in rw e refl
            | false ↦ λ _. tt
          ] refl
        ] refl
      ] refl
    ] refl

mutual
  pub field_unescaped-spelled : (bytes : List ℕ) → IfSome (field_unescaped bytes) (λ t. bytes ≡ field_escaped t)
  field_unescaped-spelled [] = refl
  field_unescaped-spelled (b ∷ bytes) =
      elim (eqb b 92) as (λ a. eqb b 92 ≡ a → IfSome (cond a (unescaped_after bytes) (cond (is_separator b) None (onto_text (Some b) (field_unescaped bytes)))) (λ t. b ∷ bytes ≡ field_escaped t)) [
        | true ↦ λ is. let e : 92 ≡ b = grind (arith, nat_tests) in
            subst (λ x. IfSome (unescaped_after bytes) (λ t. x ∷ bytes ≡ field_escaped t)) e (unescaped_after-spelled bytes)
        | false ↦ λ unlike. elim (is_separator b) as (λ a. is_separator b ≡ a → IfSome (cond a None (onto_text (Some b) (field_unescaped bytes))) (λ t. b ∷ bytes ≡ field_escaped t)) [
          | true ↦ λ _. tt
          | false ↦ λ other. onto_spelled (b ∷ []) bytes (Some b) (field_unescaped bytes) (plain_spelled b unlike other) (field_unescaped-spelled bytes)
        ] refl
      ] refl

  unescaped_after-spelled : (bytes : List ℕ) → IfSome (unescaped_after bytes) (λ t. 92 ∷ bytes ≡ field_escaped t)
  unescaped_after-spelled [] = tt
  unescaped_after-spelled (c ∷ bytes) = onto_spelled (92 ∷ c ∷ []) bytes (after_backslash c) (field_unescaped bytes) (after_spelled c) (field_unescaped-spelled bytes)
