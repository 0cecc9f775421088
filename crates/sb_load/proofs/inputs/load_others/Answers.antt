use Rattle.std.proofs.Common.{◌≡◌, ◌∙◌, [], true, Ok, ap, length, map, refl, subst, sym}
use Rattle.std.specs.List.{AllByRecursion}
use Rattle.sb_check.specs.CheckedView.{checked_of}
use Rattle.sb_report.specs.Script.{AsksOf}
use Rattle.sb_service.specs.Views.{view_service}
use Rattle.sb_load.specs.Commands.{files_of, has_services, script_name}
use Rattle.sb_load.specs.Inputs.{LoadsRecords, LoadsScript, LoadsServices, WhenNamed, chunks_fit}
use Rattle.sb_load.specs.Steps.{TellsRefusal, loaded_of, records_of}
use Rattle.sb_load.proofs.Causes.{same_content}
use Rattle.sb_load.proofs.Others.{carried, log_refused, others_loaded, script_refused, services_refused}
use Rattle.sb_load.proofs.inputs.load_others.Goals as goal

pub returns-in-Err-clause-read : goal.returns-in-Err-clause-read
returns-in-Err-clause-read g c = λ command names.
    let content = g.H.Shelf.content in
    let program = loaded_of c.args.program in
    services_refused (content c.args.shelf.now) command program c.in-Err.refusal
    (carried (λ content p. LoadsServices content (has_services command) (files_of command) p.declared) (TellsRefusal c.in-Err.refusal) (content c.args.shelf.now) (content c.args.shelf.now) program (checked_of c.checked.result.now) refl c.checked.ensures (c.in-Err.ensures.read command names))

pub returns-in-Err-load_log-clause-read : goal.returns-in-Err-load_log-clause-read
returns-in-Err-load_log-clause-read g c = λ command names.
    let content = g.H.Shelf.content in
    let faults = g.H.Shelf.faults in
    let program = loaded_of c.args.program in
    let rows = map view_service c.in-Ok.services.items in
    let same = same_content command (content c.args.shelf.now) (content c.load_services.new.shelf) (faults c.args.shelf.now) (faults c.load_services.new.shelf) (c.in-Ok.ensures.frame command names) in
    log_refused (content c.args.shelf.now) command program rows
    (carried (λ content p. LoadsServices content (has_services command) (files_of command) p.declared) (λ step. step ≡ Ok rows) (content c.args.shelf.now) (content c.args.shelf.now) program (checked_of c.checked.result.now) refl c.checked.ensures (c.in-Ok.ensures.read command names))
    c.in-Err-load_log.refusal
    (carried (λ content p. LoadsRecords content command p) (TellsRefusal c.in-Err-load_log.refusal) (content c.args.shelf.now) (content c.load_services.new.shelf) program (checked_of c.checked-2.result.now) same c.checked-2.ensures (c.in-Err-load_log.ensures.read command names))

pub returns-in-Err-load_script-clause-read : goal.returns-in-Err-load_script-clause-read
returns-in-Err-load_script-clause-read g c = λ command names.
    let content = g.H.Shelf.content in
    let faults = g.H.Shelf.faults in
    let program = loaded_of c.args.program in
    let rows = map view_service c.in-Ok.services.items in
    let records = records_of c.in-Ok-load_log.log in
    let same = same_content command (content c.args.shelf.now) (content c.load_services.new.shelf) (faults c.args.shelf.now) (faults c.load_services.new.shelf) (c.in-Ok.ensures.frame command names) in
    let still = same_content command (content c.load_services.new.shelf) (content c.load_log.new.shelf) (faults c.load_services.new.shelf) (faults c.load_log.new.shelf) (c.in-Ok-load_log.ensures.frame command names) ∙ same in
    script_refused (content c.args.shelf.now) command program rows
    (carried (λ content p. LoadsServices content (has_services command) (files_of command) p.declared) (λ step. step ≡ Ok rows) (content c.args.shelf.now) (content c.args.shelf.now) program (checked_of c.checked.result.now) refl c.checked.ensures (c.in-Ok.ensures.read command names))
    records
    (carried (λ content p. LoadsRecords content command p) (λ step. step ≡ Ok records) (content c.args.shelf.now) (content c.load_services.new.shelf) program (checked_of c.checked-2.result.now) same c.checked-2.ensures (c.in-Ok-load_log.ensures.read command names))
    c.in-Err-load_script.refusal
    (carried (λ content p. WhenNamed (script_name command) [] (LoadsScript content p.declared)) (TellsRefusal c.in-Err-load_script.refusal) (content c.args.shelf.now) (content c.load_log.new.shelf) program (checked_of c.checked-3.result.now) still c.checked-3.ensures (c.in-Err-load_script.ensures.read command names))

pub returns-in-Ok-load_script-clause-read : goal.returns-in-Ok-load_script-clause-read
returns-in-Ok-load_script-clause-read g c = λ command names.
    let content = g.H.Shelf.content in
    let faults = g.H.Shelf.faults in
    let program = loaded_of c.args.program in
    let rows = map view_service c.in-Ok.services.items in
    let records = records_of c.in-Ok-load_log.log in
    let asks = c.in-Ok-load_script.script.items in
    let same = same_content command (content c.args.shelf.now) (content c.load_services.new.shelf) (faults c.args.shelf.now) (faults c.load_services.new.shelf) (c.in-Ok.ensures.frame command names) in
    let still = same_content command (content c.load_services.new.shelf) (content c.load_log.new.shelf) (faults c.load_services.new.shelf) (faults c.load_log.new.shelf) (c.in-Ok-load_log.ensures.frame command names) ∙ same in
    others_loaded (content c.args.shelf.now) command program rows
    (carried (λ content p. LoadsServices content (has_services command) (files_of command) p.declared) (λ step. step ≡ Ok rows) (content c.args.shelf.now) (content c.args.shelf.now) program (checked_of c.checked.result.now) refl c.checked.ensures (c.in-Ok.ensures.read command names))
    records
    (carried (λ content p. LoadsRecords content command p) (λ step. step ≡ Ok records) (content c.args.shelf.now) (content c.load_services.new.shelf) program (checked_of c.checked-2.result.now) same c.checked-2.ensures (c.in-Ok-load_log.ensures.read command names))
    asks
    (carried (λ content p. WhenNamed (script_name command) [] (LoadsScript content p.declared)) (λ step. step ≡ Ok asks) (content c.args.shelf.now) (content c.load_log.new.shelf) program (checked_of c.checked-3.result.now) still c.checked-3.ensures (c.in-Ok-load_script.ensures.read command names))

pub returns-in-Ok-load_script-clause-inputs : goal.returns-in-Ok-load_script-clause-inputs
returns-in-Ok-load_script-clause-inputs g c = λ command names admitted. record {
  admitted = admitted;
  placed = c.in-Ok-load_log.ensures.placed;
  batching = c.in-Ok-load_log.ensures.batching ∙ ap (λ p. p.batching) c.checked-2.ensures;
  fits = subst (λ o. chunks_fit o (length (records_of c.in-Ok-load_log.log)) ≡ true) (sym names.chunk) c.in-Ok-load_log.ensures.fits;
  stores = subst (λ p. AllByRecursion (AsksOf (length p.declared.stores)) c.in-Ok-load_script.script.items) c.checked-3.ensures c.in-Ok-load_script.ensures.stores;
}
