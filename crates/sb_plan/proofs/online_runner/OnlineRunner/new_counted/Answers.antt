use Rattle.std.proofs.Common.{◌≡◌, ◌∙◌, ◌+◌, ap, sym, subst, true, map, arith}
use Rattle.std.specs.List.{AllByRecursion, sum_by}
use Rattle.sb_check.specs.Admission.{all_commute}
use Rattle.sb_check.specs.Declarations.{Store}
use Rattle.sb_check.specs.Log.{are_in_batches, logged_of}
use Rattle.sb_check.specs.OnlineView.{online_of}
use Rattle.sb_check.specs.Programs.{CheckedProgram}
use Rattle.sb_feed.specs.Jobs.{IsRecord, meant}
use Rattle.sb_laws.proofs.Positions.{ap_both}
use Rattle.sb_meaning.specs.Emissions.{logged_in}
use Rattle.sb_service.specs.Views.{view_service}
use Rattle.sb_plan.specs.Entries.{entry_record}
use Rattle.sb_plan.specs.Given.{planned}
use Rattle.sb_plan.specs.Parts.{IsFed, record_in}
use Rattle.sb_plan.specs.Runners.{online_add, online_monoid, online_valid}
use Rattle.sb_plan.specs.Steps.{costs_of, record_steps}
use Rattle.sb_plan.proofs.ProgramBounds.{log_within}
use Rattle.sb_plan.proofs.Runs.{few_batches, runs}
use Rattle.sb_plan.proofs.online_runner.OnlineRunner.new_counted.Goals as goal

pub entries-requires-clause-plan : goal.entries-requires-clause-plan
entries-requires-clause-plan g c = c.in_ok-plan.ensures.value ∙ ap planned c.checked-c.ensures.value

pub entries-requires-clause-stores : goal.entries-requires-clause-stores
entries-requires-clause-stores g c =
    let decls = c.stores.ensures ∙ ap (λ (p : CheckedProgram). p.declared.stores) c.checked-c.ensures.value in
    record {
      names = c.in_ok-stores.ensures.names ∙ (c.in_ok-dictionaries.ensures.names ∙ ap (map (λ (s : Store). s.name)) decls);
      monoids = ap (map online_monoid) c.in_ok-stores.ensures.monoids ∙ (c.in_ok-dictionaries.ensures.monoids ∙ ap (map (λ (s : Store). s.monoid)) decls);
    }

pub entries-requires-clause-within : goal.entries-requires-clause-within
entries-requires-clause-within g c = subst (λ b. are_in_batches b (map logged_of c.records.result.now) ≡ true) c.requires.batching c.records.ensures.within

pub returns-clause-runs : goal.returns-clause-runs
returns-clause-runs g c =
    let is = c.checked-c.ensures.value in
    let decls = c.stores.ensures ∙ ap (λ (p : CheckedProgram). p.declared.stores) is in
    runs (online_of c.args.o.now) (logged_in c.args.log.now) (map view_service c.args.services.now) c.in_ok-stores.stores (map entry_record c.in_ok-entries.entries.items)
    (record {
      names = c.in_ok-stores.ensures.names ∙ (c.in_ok-dictionaries.ensures.names ∙ ap (map (λ (s : Store). s.name)) decls);
      monoids = ap (map online_monoid) c.in_ok-stores.ensures.monoids ∙ (c.in_ok-dictionaries.ensures.monoids ∙ ap (map (λ (s : Store). s.monoid)) decls);
    })
    (c.in_ok-entries.ensures.value ∙ ap (λ rs. map (record_in (online_of c.args.o.now) (map view_service c.args.services.now)) (map logged_of rs)) c.records.ensures.value)
    c.requires.placed (subst (λ (p : CheckedProgram). all_commute p.declared.stores ≡ true) is c.checked-c.ensures.any_order)
    (subst (λ rs. AllByRecursion (IsFed (online_of c.args.o.now) (map view_service c.args.services.now)) (map logged_of rs)) c.records.ensures.value c.in_ok-entries.ensures.fed)

pub index_of-requires : goal.index_of-requires
index_of-requires g c =
    let d = meant online_valid online_add c.in_ok-stores.stores.monoids in
    few_batches d (map entry_record c.deref.result.now) (subst (λ entries. AllByRecursion (IsRecord d) (map entry_record entries)) (sym c.deref.ensures.value) c.in_ok-entries.ensures.records)

pub returns-clause-steps : goal.returns-clause-steps
returns-clause-steps g c =
    c.in_ok-entries.ensures.steps
    ∙ ap_both (λ costs rs. c.args.steps.now + sum_by (record_steps costs (map view_service c.args.services.now)) (map logged_of rs)) (c.in_ok-plan.ensures.costs ∙ ap costs_of c.checked-c.ensures.value) c.records.ensures.value

pub returns-clause-within : goal.returns-clause-within
returns-clause-within g c = λ checked declared rows.
    let p = online_of c.args.o.now in
    let services = map view_service c.args.services.now in
    let log = logged_in c.args.log.now in
    let taken : c.entries.new.steps ≡ c.args.steps.now + sum_by (record_steps (costs_of p) services) log =
    c.in_ok-entries.ensures.steps
    ∙ ap_both (λ costs rs. c.args.steps.now + sum_by (record_steps costs services) (map logged_of rs)) (c.in_ok-plan.ensures.costs ∙ ap costs_of c.checked-c.ensures.value) c.records.ensures.value in
    omega (arith, taken, log_within p services log checked declared rows)
