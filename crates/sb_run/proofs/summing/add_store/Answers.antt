use Rattle.std.proofs.Common.{◌≡◌, ◌++◌, ◌∙◌, List, [], ap, sym, subst, map}
use Rattle.std.specs.Prelude.{slice_get}
use Rattle.std.specs.List.{AllByRecursion}
use Rattle.std.proofs.lemmas.Result.{on_ok_weaker}
use Rattle.sb_check.specs.CheckedView.{checked_of}
use Rattle.sb_check.specs.Log.{logged_of}
use Rattle.sb_feed.specs.Jobs.{AreValid}
use Rattle.sb_job.specs.Sums.{HasKeySums}
use Rattle.sb_plan.specs.Given.{fed_at, fed_by, planned}
use Rattle.sb_plan.specs.Plans.{is_fed, plan_value}
use Rattle.sb_plan.proofs.Runs.{fed_same, fed_valid}
use Rattle.sb_service.specs.Views.{view_service}
use Rattle.sb_types.specs.ValView.{value_of}
use Rattle.sb_run.specs.Batching.{keyed, stores}
use Rattle.sb_run.proofs.Batches.{fed_to_store}
use Rattle.sb_run.proofs.Summed.{keyed_valid}
use Rattle.sb_run.proofs.summing.add_store.Goals as goal

pub add_fed-requires-clause-values : goal.add_fed-requires-clause-values
add_fed-requires-clause-values g c =
    let p = checked_of c.args.c.now in
    let good = c.in_ok-feed.ensures.good (subst (AllByRecursion (is_fed (slice_get (plan_value c.args.plan.now).stores c.args.store))) (sym c.requires.none) tt) in
    fed_to_store p c.args.runner.now c.requires.stores c.args.store c.requires.store c.feed.new.out.items
    (fed_valid p (map view_service c.args.services.now) (logged_of c.args.logged.now) c.args.store (plan_value c.args.plan.now) c.requires.plan c.feed.new.out.items good)

is_fed_list : {X : Type 0} (before made now fed : List X) → before ≡ [] → now ≡ before ++ made → made ≡ fed → now ≡ fed
is_fed_list before made now fed none e f = e ∙ (ap (λ l. l ++ made) none ∙ f)

pub returns-clause-fed : goal.returns-clause-fed
returns-clause-fed g c =
    let p = checked_of c.args.c.now in
    let services = map view_service c.args.services.now in
    let r = logged_of c.args.logged.now in
    let lets = map (λ l. map value_of l.items) c.args.lets.now in
    let same = fed_same p services r c.args.store (plan_value c.args.plan.now) c.requires.plan lets c.requires.lets in
    let is = is_fed_list c.args.fed.now.items (fed_by (slice_get (plan_value c.args.plan.now).stores c.args.store) r services lets) c.feed.new.out.items (fed_at (planned p) services c.args.store r) c.requires.none c.in_ok-feed.ensures.fed same in
    let good = c.in_ok-feed.ensures.good (subst (AllByRecursion (is_fed (slice_get (plan_value c.args.plan.now).stores c.args.store))) (sym c.requires.none) tt) in
    let own = fed_to_store p c.args.runner.now c.requires.stores c.args.store c.requires.store c.feed.new.out.items (fed_valid p services r c.args.store (plan_value c.args.plan.now) c.requires.plan c.feed.new.out.items good) in
    on_ok_weaker c.add_fed.result (λ none. subst (λ fed. AreValid (stores c.args.runner.now) (map (keyed c.args.store) fed)) is (keyed_valid c.args.runner.now c.args.store c.requires.store c.feed.new.out.items own)) c.add_fed.ensures.none

pub returns-clause-sums : goal.returns-clause-sums
returns-clause-sums g c =
    let p = checked_of c.args.c.now in
    let services = map view_service c.args.services.now in
    let r = logged_of c.args.logged.now in
    let lets = map (λ l. map value_of l.items) c.args.lets.now in
    let same = fed_same p services r c.args.store (plan_value c.args.plan.now) c.requires.plan lets c.requires.lets in
    let is = is_fed_list c.args.fed.now.items (fed_by (slice_get (plan_value c.args.plan.now).stores c.args.store) r services lets) c.feed.new.out.items (fed_at (planned p) services c.args.store r) c.requires.none c.in_ok-feed.ensures.fed same in
    on_ok_weaker c.add_fed.result (λ sums values has.
    subst (λ fed. HasKeySums (stores c.args.runner.now) (values ++ map (keyed c.args.store) fed) c.add_fed.new.sums) is (sums values has)) c.add_fed.ensures.sums
