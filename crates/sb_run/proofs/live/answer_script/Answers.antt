use Rattle.std.proofs.Common.{◌∙◌, length, map, rules, sym, ap, subst}
use Rattle.std.specs.List.{AllByRecursion}
use Rattle.sb_check.specs.OnlineView.{online_of}
use Rattle.sb_load.specs.Steps.{records_of}
use Rattle.sb_report.specs.Script.{AsksOf}
use Rattle.sb_service.specs.Views.{view_service}
use Rattle.sb_run.specs.Answering.{Serves}
use Rattle.sb_run.specs.Run.{run_of}
use Rattle.sb_run.proofs.Serving.{serves}
use Rattle.sb_run.proofs.live.answer_script.Goals as goal

pub answer_all-requires : goal.answer_all-requires
answer_all-requires g c κs within =
    let said = online_of c.args.program.now in
    let log = records_of c.args.log.now in
    let services = map view_service c.args.services.now in
    let feed = c.in-Ok.feed in
    let cut = c.in-Some.cut in
    let cut_is = c.in-Some.ensures.cut in
    let run_is = ap (λ x. run_of said x.chunk x.shards log services) cut_is ∙ sym c.requires.1.1.1.0 in
    let base = serves said log services feed c.in-Ok.ensures cut in
    let is_served = subst (λ q. Serves q feed cut g.run) (sym c.checked.ensures.value) (subst (λ r. Serves said feed cut r) run_is base) in
    let stores = subst (λ q. AllByRecursion (AsksOf (length q.declared.stores)) c.args.asks.items) (sym c.checked.ensures.value) c.requires.1.1.1.1.1.1.1.1.1 in
    (within.0, (within.1, (search rules parts 8, (is_served, (ap (λ x. x.records) cut_is ∙ c.len.ensures.len, stores)))))
