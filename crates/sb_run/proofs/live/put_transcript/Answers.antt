use Rattle.std.proofs.Common.{◌∙◌, List, ap, length, map, refl, rules, subst, sym}
use Rattle.std.specs.Prelude.{OnOk}
use Rattle.std.specs.List.{AllByRecursion}
use Rattle.sb_check.specs.OnlineView.{online_of}
use Rattle.sb_io.specs.Sink.{Appends}
use Rattle.sb_load.specs.Steps.{loaded_of, records_of}
use Rattle.sb_report.specs.Script.{AsksOf}
use Rattle.sb_service.specs.Views.{view_service}
use Rattle.sb_service.specs.declared.service.Service.{Service}
use Rattle.sb_run.specs.Run.{run_of}
use Rattle.sb_run.specs.ScriptOutput.{run_text}
use Rattle.sb_run.proofs.live.put_transcript.Goals as goal

pub answer_script-requires : goal.answer_script-requires
answer_script-requires g c κs within =
    let batching = c.requires.batching ∙ ap (λ p. (loaded_of p).batching) c.in-Online.is in
    let stores = subst (λ p. AllByRecursion (AsksOf (length (loaded_of p).declared.stores)) c.args.inputs.script.items) c.in-Online.is c.requires.stores in
    (within.0, (within.1, (search rules parts 8, (refl, (c.requires.chunk, (c.requires.shards, (c.requires.placed, (batching, (c.requires.fits, stores)))))))))

pub returns-clause-ok : goal.returns-clause-ok
returns-clause-ok g c =
    let log = records_of c.args.inputs.log in
    let before = g.K.Sink.written c.args.sink.now in
    let now = g.K.Sink.written c.answer_script.new.sink in
    subst (λ p. OnOk c.answer_script.result (Appends (run_text (run_of (loaded_of p) c.args.chunk c.args.shards log (map view_service c.args.inputs.services.items)) c.args.inputs.script.items) before now))
    (sym c.in-Online.is)
    (subst (λ (services : List Service). OnOk c.answer_script.result (Appends (run_text (run_of (online_of c.in-Online.program) c.args.chunk c.args.shards log (map view_service services)) c.args.inputs.script.items) before now))
    c.as_slice.ensures.value c.answer_script.ensures.ok)
