-- The steps of a record, let by let and store by store.
use Rattle.std.proofs.Common.{◌≡◌, ◌∙◌, ℕ, zero, suc, ◌+◌, List, [], ◌∷◌, map, length, take, refl, sym, ap, add-one, arith}
use Rattle.std.specs.Prelude.{slice_get}
use Rattle.std.specs.List.{sum_by}
use Rattle.std.proofs.lemmas.List.{length-map}
use Rattle.std.proofs.lemmas.List.Sums.{sum_by-cons}
use Rattle.sb_types.specs.Value.{Value}
use Rattle.sb_check.specs.Log.{Logged}
use Rattle.sb_check.specs.Programs.{CheckedProgram}
use Rattle.sb_service.specs.Rows.{Rows}
use Rattle.sb_plan.specs.Given.{Planned, feeding_of, let_values, lets_given, planned}
use Rattle.sb_plan.specs.PathSteps.{paths_cost, plan_costs, store_steps}
use Rattle.sb_plan.specs.Plans.{feeding_by, plan_value}
use Rattle.sb_plan.specs.Steps.{Cost, Steps, lets_steps, record_steps, steps_by}
use Rattle.sb_plan.specs.declared.plan.Plan.{Plan}

behind_one : (all before rest rest' one a : ℕ) → all ≡ a + rest' → before ≡ a + rest → rest' ≡ rest + one → all ≡ before + one
behind_one all before rest rest' one a e f h = omega (arith, e, f, h)

behind_counted : (before done sum one next : ℕ) → done ≡ before + sum → next ≡ sum + one → done + one ≡ before + next
behind_counted before done sum one next e f = omega (arith, e, f)

module _ (r : Logged) (services : List Rows) (lets : List (List Value)) where
  abbrev of : Steps → ℕ
  of steps = steps r services lets

  taken_more : (stores : List Steps) (n : ℕ) → sum_by of (take (suc n) stores) ≡ sum_by of (take n stores) + steps_by (slice_get stores n) r services lets
  taken_more [] zero = omega arith
  taken_more [] (suc n) = omega arith
  taken_more (s ∷ stores) zero = omega arith
  taken_more (s ∷ stores) (suc n) = behind_one _ _ _ _ _ (of s) (sum_by-cons of s (take (suc n) stores)) (sum_by-cons of s (take n stores)) (taken_more stores n)

  -- one more store is counted
  pub store_counted : (stores : List Steps) (n before done after : ℕ) → done ≡ before + sum_by (λ store. store r services lets) (take n stores) → after ≡ done + steps_by (slice_get stores n) r services lets
      → after ≡ before + sum_by (λ store. store r services lets) (take (n + 1) stores)
  store_counted stores n before done after e f = f ∙ behind_counted _ _ _ _ _ e (taken_more stores n) ∙ ap (λ k. before + sum_by of (take k stores)) (sym (add-one n))

-- a plan has a store for each of its program
pub many_stores : (c : CheckedProgram) (p : Plan) → plan_value p ≡ planned c → length (plan_costs p).stores ≡ length c.declared.stores
many_stores c p is = length-map p.stores.items store_steps ∙ (sym (length-map p.stores.items feeding_by) ∙ (ap (λ (v : Planned). length v.stores) is ∙ length-map c.declared.stores feeding_of))

firsts : {X : Type 0} (f : X → Cost) (xs : List X) → map (λ l. l.0) (map f xs) ≡ map (λ x. (f x).0) xs
firsts f [] = refl
firsts f (x ∷ xs) = ap (λ l. (f x).0 ∷ l) (firsts f xs)

-- the steps of the lets and those of the stores over what the lets give
pub record_counted : (p : Plan) (services : List Rows) (r : Logged) (lets : List (List Value)) (before between after : ℕ) → lets ≡ let_values (plan_value p) r services
    → between ≡ before + lets_steps r services [] (plan_costs p).lets → after ≡ between + sum_by (λ store. store r services lets) (plan_costs p).stores → after ≡ before + record_steps (plan_costs p) services r
record_counted p services r lets before between after is first rest =
    let same : lets_given r services [] (map (λ l. l.0) (plan_costs p).lets) ≡ lets = ap (lets_given r services []) (firsts (λ ps. paths_cost ps.items) p.lets.items) ∙ sym is in
    omega (arith, first, rest, ap (λ ls. sum_by (λ (store : Steps). store r services ls) (plan_costs p).stores) same)
