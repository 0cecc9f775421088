use Rattle.std.proofs.Common.{◌≡◌, ◌++◌, ◌∙◌, List, [], ap, sym, subst, map}
use Rattle.std.specs.Prelude.{slice_get}
use Rattle.std.specs.List.{AllByRecursion}
use Rattle.std.proofs.lemmas.Result.{on_ok_weaker}
use Rattle.sb_check.specs.Log.{logged_of}
use Rattle.sb_check.specs.OnlineView.{online_of}
use Rattle.sb_plan.specs.Given.{fed_at, fed_by, planned}
use Rattle.sb_plan.specs.Parts.{with_fed}
use Rattle.sb_plan.specs.Plans.{is_fed, plan_value}
use Rattle.sb_plan.specs.Runners.{plus_at, valid_at}
use Rattle.sb_service.specs.Views.{view_service}
use Rattle.sb_types.specs.ValView.{value_of}
use Rattle.sb_plan.proofs.Runs.{fed_same, fed_valid, same_plus, same_valid}
use Rattle.sb_plan.proofs.emitting.add_store.Goals as goal

pub add_fed-requires-clause-values : goal.add_fed-requires-clause-values
add_fed-requires-clause-values g c =
    let p = online_of c.args.o.now in
    let services = map view_service c.args.services.now in
    let good = c.in_ok-feed.ensures.good (subst (AllByRecursion (is_fed (slice_get (plan_value c.args.plan.now).stores c.args.store))) (sym c.new-fed.ensures.items) tt) in
    subst (λ V. AllByRecursion (λ x. V x.1) c.feed.new.out.items) (sym (same_valid p c.args.stores.now c.args.store c.requires.stores c.requires.store))
    (fed_valid p services (logged_of c.args.logged.now) c.args.store (plan_value c.args.plan.now) c.requires.plan c.feed.new.out.items good)

is_fed_list : {X : Type 0} (before made now fed : List X) → before ≡ [] → now ≡ before ++ made → made ≡ fed → now ≡ fed
is_fed_list before made now fed none e f = e ∙ (ap (λ l. l ++ made) none ∙ f)

pub returns-clause-value : goal.returns-clause-value
returns-clause-value g c =
    let p = online_of c.args.o.now in
    let services = map view_service c.args.services.now in
    let r = logged_of c.args.logged.now in
    let lets = map (λ l. map value_of l.items) c.args.lets.now in
    let same = fed_same p services r c.args.store (plan_value c.args.plan.now) c.requires.plan lets c.requires.lets in
    on_ok_weaker c.add_fed.result (λ e.
    e ∙ (ap (λ add. with_fed add c.args.store c.feed.new.out.items c.args.parts.now.items) (same_plus p c.args.stores.now c.args.store c.requires.stores c.requires.store)
    ∙ ap (λ fed. with_fed (plus_at p c.args.store) c.args.store fed c.args.parts.now.items)
    (is_fed_list c.new-fed.result.items (fed_by (slice_get (plan_value c.args.plan.now).stores c.args.store) r services lets) c.feed.new.out.items (fed_at (planned p) services c.args.store r) c.new-fed.ensures.items c.in_ok-feed.ensures.fed same))) c.add_fed.ensures.value

pub returns-clause-fed : goal.returns-clause-fed
returns-clause-fed g c =
    let p = online_of c.args.o.now in
    let services = map view_service c.args.services.now in
    let r = logged_of c.args.logged.now in
    let lets = map (λ l. map value_of l.items) c.args.lets.now in
    let same = fed_same p services r c.args.store (plan_value c.args.plan.now) c.requires.plan lets c.requires.lets in
    let good = c.in_ok-feed.ensures.good (subst (AllByRecursion (is_fed (slice_get (plan_value c.args.plan.now).stores c.args.store))) (sym c.new-fed.ensures.items) tt) in
    on_ok_weaker c.add_fed.result (λ _.
    subst (AllByRecursion (λ x. valid_at p c.args.store x.1))
    (is_fed_list c.new-fed.result.items (fed_by (slice_get (plan_value c.args.plan.now).stores c.args.store) r services lets) c.feed.new.out.items (fed_at (planned p) services c.args.store r) c.new-fed.ensures.items c.in_ok-feed.ensures.fed same)
    (fed_valid p services r c.args.store (plan_value c.args.plan.now) c.requires.plan c.feed.new.out.items good)) c.add_fed.ensures.value
