-- The steps of paths, stage by stage, are those of the streams that they are of.
use Rattle.std.proofs.Common.{◌≡◌, ◌∙◌, ℕ, ◌+◌, ◌*◌, List, [], ◌∷◌, ◌++◌, length, refl, sym, ap, arith, mul-zero, mul-add, add-zero}
use Rattle.std.specs.List.{flat_map, sum_by}
use Rattle.std.proofs.lemmas.List.{length-append}
use Rattle.std.proofs.lemmas.List.Sums.{sum_by-append, sum_by-cons}
use Rattle.sb_laws.proofs.Positions.{ap_both}
use Rattle.sb_types.specs.Value.{Value}
use Rattle.sb_terms.specs.declared.flow.Flow.{Flow}
use Rattle.sb_terms.specs.declared.flow.Flow.TheVariants as flow
use Rattle.sb_terms.specs.declared.term.Term.{Term}
use Rattle.sb_check.specs.Log.{Logged}
use Rattle.sb_service.specs.Rows.{Rows}
use Rattle.sb_plan.specs.Given.{OfRecord, given}
use Rattle.sb_plan.specs.Paths.{stage_gives, chain_gives, root_gives, path_gives, gives}
use Rattle.sb_plan.specs.PathSteps.{stage_steps, chain_steps, path_steps, paths_steps, paths_cost, steps_behind}
use Rattle.sb_plan.specs.Steps.{Steps, Cost, flow_cost, flow_steps}
use Rattle.sb_plan.specs.declared.paths.Path.{Path}
use Rattle.sb_plan.specs.declared.paths.Root.{Root}
use Rattle.sb_plan.specs.declared.paths.Stage.{Stage}
use Rattle.sb_plan.proofs.StepViews.{steps-Source, steps-Let, steps-Merge, steps-Map, steps-Filter, steps-FlatMap, steps-Join}

-- ---- sums

module _ {A : Type 0} where
  sum_none : (xs : List A) → sum_by (λ x. 0) xs ≡ 0
  sum_none [] = refl
  sum_none (x ∷ xs) = sum_by-cons (λ (x : A). 0) x xs ∙ omega (arith, sum_none xs)

  pub sum_same : (f g : A → ℕ) (xs : List A) → ((x : A) → f x ≡ g x) → sum_by f xs ≡ sum_by g xs
  sum_same f g [] h = refl
  sum_same f g (x ∷ xs) h = sum_by-cons f x xs ∙ (omega (arith, h x, sum_same f g xs h) ∙ sym (sum_by-cons g x xs))

  sum_one : (f : A → ℕ) (x : A) → sum_by f (x ∷ []) ≡ f x
  sum_one f x = omega arith

-- with so many more for each value that comes out
pub sum_behind : {A B : Type 0} (f : A → ℕ) (g : A → List B) (n : ℕ) (xs : List A) → sum_by (λ x. f x + n * length (g x)) xs ≡ sum_by f xs + n * length (flat_map g xs)
sum_behind f g n [] = omega arith
sum_behind {A} f g n (x ∷ xs) =
    sum_by-cons (λ (x : A). f x + n * length (g x)) x xs
    ∙ omega (arith, sum_by-cons f x xs, sum_behind f g n xs, mul-add n (length (g x)) (length (flat_map g xs)), ap (λ k. n * k) (length-append (g x) (flat_map g xs)))

-- ---- a stage behind the others

chain_behind : (services : List Rows) (s : Stage) (stages : List Stage) (v : Value) → chain_steps services (stages ++ s ∷ []) v ≡ chain_steps services stages v + stage_steps s * length (chain_gives services stages v)
chain_behind services s [] v = omega (arith, sum_none (stage_gives services s v))
chain_behind services s (t ∷ stages) v =
    let inner = stage_gives services t v in
    let each = sum_same (chain_steps services (stages ++ s ∷ [])) (λ w. chain_steps services stages w + stage_steps s * length (chain_gives services stages w)) inner (chain_behind services s stages) in
    omega (arith, each, sum_behind (chain_steps services stages) (chain_gives services stages) (stage_steps s) inner)

module _ (r : Logged) (services : List Rows) (lets : List (List Value)) where
  path_behind : (s : Stage) (before after : Path) → after.root ≡ before.root → after.stages.items ≡ before.stages.items ++ s ∷ []
      → path_steps after r services lets ≡ path_steps before r services lets + stage_steps s * length (path_gives r services lets before)
  path_behind s before after root stages =
      ap_both (λ ss q. sum_by (chain_steps services ss) (root_gives r lets q)) stages root
      ∙ (sum_same (chain_steps services (before.stages.items ++ s ∷ [])) (λ v. chain_steps services before.stages.items v + stage_steps s * length (chain_gives services before.stages.items v)) (root_gives r lets before.root) (chain_behind services s before.stages.items)
      ∙ sum_behind (chain_steps services before.stages.items) (chain_gives services before.stages.items) (stage_steps s) (root_gives r lets before.root))

  abbrev total : List Path → ℕ
  total paths = paths_steps paths r services lets

  abbrev count : List Path → ℕ
  count paths = length (gives paths r services lets)

  total-cons : (path : Path) (paths : List Path) → total (path ∷ paths) ≡ path_steps path r services lets + total paths
  total-cons path paths = sum_by-cons (λ (p : Path). path_steps p r services lets) path paths

  total-append : (xs ys : List Path) → total (xs ++ ys) ≡ total xs + total ys
  total-append xs ys = sum_by-append (λ (p : Path). path_steps p r services lets) xs ys

  -- one more path with its stage
  one_behind : (s : Stage) (done rest : List Path) (before after : Path) → after.root ≡ before.root → after.stages.items ≡ before.stages.items ++ s ∷ []
      → total (done ++ after ∷ []) + (total rest + stage_steps s * count rest) ≡ total done + (total (before ∷ rest) + stage_steps s * count (before ∷ rest))
  one_behind s done rest before after root stages =
      omega (
        arith,
        total-append done (after ∷ []),
        sum_one (λ (p : Path). path_steps p r services lets) after,
        path_behind s before after root stages,
        total-cons before rest,
        ap (λ k. stage_steps s * k) (length-append (path_gives r services lets before) (gives rest r services lets)),
        mul-add (stage_steps s) (length (path_gives r services lets before)) (length (gives rest r services lets)),
      )

-- paths being staged: those that are done take, with those that are left, the steps of all
abbrev pub AreCounted : Stage → List Path → List Path → List Path → Type 0
AreCounted s all done rest = (r : Logged) (services : List Rows) (lets : List (List Value))
    → paths_steps done r services lets + steps_behind (stage_steps s) (paths_cost rest) r services lets ≡ steps_behind (stage_steps s) (paths_cost all) r services lets

pub next_counted : (s : Stage) (all done rest : List Path) (before after : Path) → after.root ≡ before.root → after.stages.items ≡ before.stages.items ++ s ∷ [] → AreCounted s all done (before ∷ rest) → AreCounted s all (done ++ after ∷ []) rest
next_counted s all done rest before after root stages h r services lets = one_behind r services lets s done rest before after root stages ∙ h r services lets

pub all_counted : (s : Stage) (all done : List Path) → AreCounted s all done [] → paths_steps done ≡ steps_behind (stage_steps s) (paths_cost all)
all_counted s all done h = λ i r services lets. (same r services lets ∙ h r services lets) i
  where
    same : (r : Logged) (services : List Rows) (lets : List (List Value)) → paths_steps done r services lets ≡ paths_steps done r services lets + (0 + stage_steps s * 0)
    same r services lets = omega (arith, mul-zero (stage_steps s))

-- ---- streams

pub steps_root : (q : Root) (path : Path) → path.root ≡ q → path.stages.items ≡ [] → paths_steps (path ∷ []) ≡ (λ r services lets. 0)
steps_root q path root stages = λ i r services lets. (
    sum_one (λ (p : Path). path_steps p r services lets) path
    ∙ (ap (λ ss. sum_by (chain_steps services ss) (root_gives r lets path.root)) stages ∙ sum_none (root_gives r lets path.root))) i

pub steps_both : (left right : List Path) → paths_steps (left ++ right) ≡ (λ r services lets. paths_steps left r services lets + paths_steps right r services lets)
steps_both left right = λ i r services lets. total-append r services lets left right i

-- with one more for each value, and with none
pub one_behind_is : (c : Cost) → steps_behind 1 c ≡ (λ r services lets. c.1 r services lets + length (c.0 r services lets))
one_behind_is c = λ i r services lets. (let one : 1 * length (c.0 r services lets) ≡ length (c.0 r services lets) = omega arith in ap (λ n. c.1 r services lets + n) one) i

pub none_behind_is : (c : Cost) → steps_behind 0 c ≡ c.1
none_behind_is c = λ i r services lets. (let none : 0 * length (c.0 r services lets) ≡ 0 = omega arith in (ap (λ n. c.1 r services lets + n) none ∙ add-zero (c.1 r services lets))) i

pub flow-Source : (n : ℕ) → flow_steps (flow.Source n) ≡ (λ r services lets. 0)
flow-Source n = λ i r services lets. steps-Source r services lets n i

pub flow-Let : (n : ℕ) → flow_steps (flow.Let n) ≡ (λ r services lets. 0)
flow-Let n = λ i r services lets. steps-Let r services lets n i

pub flow-Merge : (a b : Flow) → flow_steps (flow.Merge a b) ≡ (λ r services lets. flow_steps a r services lets + flow_steps b r services lets)
flow-Merge a b = λ i r services lets. steps-Merge r services lets a b i

pub flow-Map : (a : Flow) (e : Term) → flow_steps (flow.Map a e) ≡ steps_behind 1 (flow_cost a)
flow-Map a e = λ i r services lets. (steps-Map r services lets a e ∙ sym (ap (λ (s : Steps). s r services lets) (one_behind_is (flow_cost a)))) i

pub flow-Filter : (a : Flow) (e : Term) → flow_steps (flow.Filter a e) ≡ steps_behind 1 (flow_cost a)
flow-Filter a e = λ i r services lets. (steps-Filter r services lets a e ∙ sym (ap (λ (s : Steps). s r services lets) (one_behind_is (flow_cost a)))) i

pub flow-FlatMap : (a : Flow) (e : Term) → flow_steps (flow.FlatMap a e) ≡ steps_behind 1 (flow_cost a)
flow-FlatMap a e = λ i r services lets. (steps-FlatMap r services lets a e ∙ sym (ap (λ (s : Steps). s r services lets) (one_behind_is (flow_cost a)))) i

pub flow-Join : (a : Flow) (n : ℕ) → flow_steps (flow.Join a n) ≡ steps_behind 0 (flow_cost a)
flow-Join a n = λ i r services lets. (steps-Join r services lets a n ∙ sym (ap (λ (s : Steps). s r services lets) (none_behind_is (flow_cost a)))) i

-- with a stage behind the paths of a stream
pub behind_flow : (n : ℕ) (ps : List Path) (a before whole : Flow) → gives ps ≡ given a → paths_steps ps ≡ flow_steps a → a ≡ before → flow_steps whole ≡ steps_behind n (flow_cost before) → steps_behind n (paths_cost ps) ≡ flow_steps whole
behind_flow n ps a before whole values steps same is =
    ap (steps_behind n) (ap_both (λ (g : OfRecord) (s : Steps). (g, s)) values steps ∙ ap flow_cost same) ∙ sym is

abbrev added : Steps → Steps → Steps
added x y r services lets = x r services lets + y r services lets

-- the paths of a merge
pub merged_flow : (left right : List Path) (a b a' b' : Flow) → paths_steps left ≡ flow_steps a → a ≡ a' → paths_steps right ≡ flow_steps b → b ≡ b' → paths_steps (left ++ right) ≡ flow_steps (flow.Merge a' b')
merged_flow left right a b a' b' h e k e' =
    steps_both left right
    ∙ (ap_both added (h ∙ ap flow_steps e) (k ∙ ap flow_steps e') ∙ sym (flow-Merge a' b'))
