use Rattle.std.proofs.Common.{map, subst, sym}
use Rattle.std.specs.Prelude.{OnOk}
use Rattle.sb_check.specs.CheckedView.{checked_of}
use Rattle.sb_check.specs.Log.{log_of}
use Rattle.sb_io.specs.Sink.{Appends}
use Rattle.sb_job.specs.Sums.{AreKeySums}
use Rattle.sb_load.specs.Refusals.{refusal_answer}
use Rattle.sb_load.proofs.Placed.{log_placed}
use Rattle.sb_service.specs.Views.{view_service}
use Rattle.sb_run.specs.Batching.{all_values, stores}
use Rattle.sb_run.specs.Endings.{PutEnds}
use Rattle.sb_run.proofs.BatchEndings.{fault_answers, report_answers}
use Rattle.sb_run.proofs.Batches.{batch_report}
use Rattle.sb_run.proofs.batch.put_sums.Goals as goal

pub returns-in-Ok-clause-ends : goal.returns-in-Ok-clause-ends
returns-in-Ok-clause-ends g c =
    let written = g.K.Sink.written in
    let p = checked_of c.args.c.now in
    let services = map view_service c.args.services.now in
    let runner = c.args.runner.now in
    let all = c.in-Ok.ensures in
    let placed = log_placed p c.args.log.now all.0 all.1 in
    let sums = subst (AreKeySums (stores runner) (all_values p services all.0)) (sym c.as_slice.ensures.rows) all.2 in
    let text = batch_report p all.0 services runner c.requires.stores c.as_slice.result.now placed c.as_slice.ensures.rising sums in
    report_answers (written c.args.sink.now) (written c.status_of.new.sink) c.status_of.result p services (log_of p c.args.log.now) all.0 all.1 (written c.put_report-put.new.sink) c.put_report-put.result
    (subst (λ bytes. OnOk c.put_report-put.result (Appends bytes (written c.args.sink.now) (written c.put_report-put.new.sink))) text c.put_report-put.ensures.ok) c.status_of.ensures.ends

pub returns-in-Err-clause-ends : goal.returns-in-Err-clause-ends
returns-in-Err-clause-ends g c =
    let written = g.K.Sink.written in
    let p = checked_of c.args.c.now in
    let services = map view_service c.args.services.now in
    fault_answers (written c.args.sink.now) (written c.put_refusal.new.sink) c.put_refusal.result p services (log_of p c.args.log.now)
    (λ records. AreKeySums (stores c.args.runner.now) (all_values p services records)) c.in-Err.error c.in-Err.ensures
    (subst (λ r. PutEnds (refusal_answer r) (written c.args.sink.now) (written c.put_refusal.new.sink) c.put_refusal.result) c.of_log.ensures c.put_refusal.ensures.ends)
