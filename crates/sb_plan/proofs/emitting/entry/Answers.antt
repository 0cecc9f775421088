use Rattle.std.proofs.Common.{ℕ, ◌≤◌, ◌∙◌, ap, sym, subst, map}
use Rattle.std.specs.Prelude.{IsTrue}
use Rattle.std.specs.FinMap.{is_sorted}
use Rattle.sb_batcher.specs.Batches.{batch_of}
use Rattle.sb_check.specs.Log.{logged_of}
use Rattle.sb_check.specs.OnlineView.{online_of}
use Rattle.sb_feed.specs.Keys.{key_order}
use Rattle.sb_feed.specs.Limits.{last_batch}
use Rattle.sb_plan.specs.Given.{fed_at, planned}
use Rattle.sb_plan.specs.Runners.{plus_at}
use Rattle.sb_service.specs.Views.{view_service}
use Rattle.sb_types.specs.ValView.{value_of}
use Rattle.sb_plan.proofs.Found.{rising_below}
use Rattle.sb_plan.proofs.RecordSteps.{record_counted}
use Rattle.sb_plan.proofs.Runs.{in_limit}
use Rattle.sb_plan.proofs.emitting.entry.Goals as goal

pub returns-clause-good : goal.returns-clause-good
returns-clause-good g c =
    let p = online_of c.args.o.now in
    let fed = λ (store : ℕ). fed_at (planned p) (map view_service c.args.services.now) store (logged_of c.args.logged.now) in
    record {
      batch = subst (λ b. b ≤ last_batch) (sym c.batch_in.ensures) (in_limit (batch_of p.batching c.args.logged.now.time) c.requires.within);
      rising = subst (λ parts. IsTrue (is_sorted key_order parts)) (sym c.in_ok-add_stores.ensures.value) (rising_below (plus_at p) fed _);
      valid = c.in_ok-add_stores.ensures.valid;
    }

pub returns-clause-steps : goal.returns-clause-steps
returns-clause-steps g c =
    let r = logged_of c.args.logged.now in
    let services = map view_service c.args.services.now in
    let lets = map (λ l. map value_of l.items) c.deref.result.now in
    record_counted c.args.plan.now services r lets c.args.steps.now c.let_values.new.steps c.add_stores.new.steps
    (ap (map (λ l. map value_of l.items)) c.deref.ensures.value ∙ c.in_ok-lets.ensures.values) c.in_ok-lets.ensures.steps c.in_ok-add_stores.ensures.steps
