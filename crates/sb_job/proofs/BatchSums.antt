-- Parts gathered into a table, one after the other.
use Rattle.std.proofs.Common.{◌≡◌, ℕ, ◌+◌, ◌<◌, true, false, cond, List, [], ◌∷◌, ◌++◌, map, filter, length, drop, get_or, refl, sym, ap, subst, ◌∙◌, IsTrue}
use Rattle.std.specs.List.{AllByRecursion}
use Rattle.std.specs.Ordering.{nat_cmp}
use Rattle.std.specs.Cmp.{nat_cmp_total}
use Rattle.std.specs.FinMap.{is_sorted}
use Rattle.std.proofs.lemmas.List.{drop_more}
use Rattle.sb_laws.specs.Tables.{add_to, add_all}
use Rattle.sb_laws.proofs.Sums.{valid_left, valid_right}
use Rattle.sb_laws.proofs.Tables.{sorted_add_all, valid_add_all, truly, is_true}
use Rattle.sb_feed.specs.declared.key.KeyBytes.{KeyBytes}
use Rattle.sb_feed.specs.declared.parts.Part.{Part}
use Rattle.sb_feed.specs.Stands.{batch_value}
use Rattle.sb_job.specs.ByBatch.{is_asked, asked}

add_all_append : {E : Type 0} (add : E → E → E) (table xs ys : List (ℕ × E)) → add_all nat_cmp add table (xs ++ ys) ≡ add_all nat_cmp add (add_all nat_cmp add table xs) ys
add_all_append add table [] ys = refl
add_all_append add table (x ∷ xs) ys = add_all_append add (add_to nat_cmp add x.0 x.1 table) xs ys

module _ {E : Type 0} (V : E → Type 0) (add : E → E → E) (keeps : (a b : E) → V a → V b → V (add a b)) (key : KeyBytes) (from upto : ℕ) where
  asked_first : (part : Part E) (parts : List (Part E)) → asked key from upto (part ∷ parts) ≡ asked key from upto (part ∷ []) ++ asked key from upto parts
  asked_first part parts = elim (is_asked key from upto part) as (λ b. map batch_value (cond b (part ∷ filter (is_asked key from upto) parts) (filter (is_asked key from upto) parts))
      ≡ map batch_value (cond b (part ∷ []) []) ++ map batch_value (filter (is_asked key from upto) parts)) [ true ↦ refl | false ↦ refl ]

  -- a table of what was gathered, and what is left to gather
  pub record Gathers (table left all : List (ℕ × E)) : Type 0 where
    pub rest : add_all nat_cmp add table left ≡ all
    pub rising : IsTrue (is_sorted nat_cmp table)
    pub valid : AllByRecursion (λ pair. V pair.1) table
    pub later : AllByRecursion (λ pair. V pair.1) left

  -- one part more
  pub gathered : (table after : List (ℕ × E)) (parts : List (Part E)) (i : ℕ) (part : Part E) (all : List (ℕ × E)) → i < length parts → part ≡ get_or parts i part
      → Gathers table (asked key from upto (drop i parts)) all → after ≡ add_all nat_cmp add table (asked key from upto (part ∷ []))
      → Gathers after (asked key from upto (drop (i + 1) parts)) all
  gathered table after parts i part all h is before e =
      let one = asked key from upto (part ∷ []) in
      let more = asked key from upto (drop (i + 1) parts) in
      let step : asked key from upto (drop i parts) ≡ one ++ more =
      ap (asked key from upto) (drop_more parts i part h ∙ ap (λ p. p ∷ drop (i + 1) parts) (sym is)) ∙ asked_first part (drop (i + 1) parts) in
      let valid = subst (AllByRecursion (λ (pair : ℕ × E). V pair.1)) step before.later in
      record {
        rest = ap (λ t. add_all nat_cmp add t more) e ∙ (sym (add_all_append add table one more) ∙ (sym (ap (add_all nat_cmp add table) step) ∙ before.rest));
        rising = subst (λ t. IsTrue (is_sorted nat_cmp t)) (sym e) (is_true _ (sorted_add_all nat_cmp nat_cmp_total add table one (truly _ before.rising)));
        valid = subst (AllByRecursion (λ (pair : ℕ × E). V pair.1)) (sym e) (valid_add_all nat_cmp nat_cmp_total add V keeps table one before.valid (valid_left (λ (pair : ℕ × E). V pair.1) one more valid));
        later = valid_right (λ (pair : ℕ × E). V pair.1) one more valid;
      }
