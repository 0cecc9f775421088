use Rattle.std.proofs.Common.{◌≡◌, ◌++◌, ◌∷◌, [], ◌∙◌, List, Ok, Err, ap, map, refl, subst, sym}
use Rattle.std.specs.Prelude.{Result}
use Rattle.sb_check.specs.CheckedView.{checked_of}
use Rattle.sb_check.specs.Log.{LogFault, Logged, logged_of}
use Rattle.sb_feed.specs.Jobs.{AreValid}
use Rattle.sb_log.specs.Reader.{GivesNext, left_of}
use Rattle.sb_log.specs.Reading.{records_behind}
use Rattle.sb_log.proofs.Left.{kept_next}
use Rattle.sb_service.specs.Views.{view_service}
use Rattle.sb_run.specs.Batching.{AreSummed, stores}
use Rattle.sb_run.proofs.Summed.{all_given, next_summed, none_summed, when_ok}
use Rattle.sb_run.proofs.summing.add_counted.Goals as goal

none_behind : (left : Result (List Logged) LogFault) → records_behind [] left ≡ left
none_behind (Err fault) = refl
none_behind (Ok records) = refl

pub loop-fed-init : goal.loop-fed-init
loop-fed-init g c =
    let p = checked_of c.args.c.now in
    let services = map view_service c.args.services.now in
    let none = sym c.seeded-sums.ensures in
    record {
      program = c.requires.program;
      none = c.new-fed.ensures.items;
      valid = subst (AreValid (stores c.args.runner.now)) none tt;
      summed = ([], none_behind (left_of c.args.records), subst (AreSummed p services c.args.runner.now []) none (none_summed p services c.args.runner.now));
    }

pub loop-fed-preserved : goal.loop-fed-preserved
loop-fed-preserved g c =
    let before = c.loop-fed.invariant.summed in
    let r = logged_of c.in-Some.logged in
    let next = subst (λ o. GivesNext (left_of c.loop-fed.records) (left_of c.next_record.new.self) (Ok o)) c.in-Some.is c.in_ok-logged.ensures.next in
    let done = c.in-Ok.is in
    let valid = when_ok c.add_record-added.result tt done c.add_record-added.ensures.valid in
    record {
      program = c.next_record.ensures.program ∙ c.loop-fed.invariant.program;
      none = when_ok c.add_record-added.result tt done c.add_record-added.ensures.none;
      valid = valid;
      summed = (
        before.0 ++ r ∷ [],
        sym (kept_next before.0 r (left_of c.next_record.new.self)) ∙ (sym (ap (records_behind before.0) next) ∙ before.1),
        next_summed (checked_of c.args.c.now) (map view_service c.args.services.now) c.args.runner.now before.0 r c.loop-fed.sums c.add_record-added.new.sums before.2
            valid (when_ok c.add_record-added.result tt done c.add_record-added.ensures.fed) (when_ok c.add_record-added.result tt done c.add_record-added.ensures.sums),
      );
    }

pub returns : goal.returns
returns g c =
    let before = c.loop-fed.invariant.summed in
    let next = subst (λ o. GivesNext (left_of c.loop-fed.records) (left_of c.next_record.new.self) (Ok o)) c.in_default.is c.in_ok-logged.ensures.next in
    (before.0, all_given before.0 _ _ before.1 next, before.2)
