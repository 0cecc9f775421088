use Rattle.std.proofs.Common.{◌≡◌, [], Ok, subst, sym}
use Rattle.std.specs.Prelude.{Result}
use Rattle.sb_check.specs.CheckedView.{checked_of}
use Rattle.sb_load.specs.Commands.{chunk_of, log_name}
use Rattle.sb_load.specs.Inputs.{FitsChunks, LoadsLog, Then, WhenNamed}
use Rattle.sb_load.specs.Steps.{TellsRefusal, records_of}
use Rattle.sb_load.specs.declared.refusal.Refusal.{Refusal}
use Rattle.sb_load.proofs.Loading.{goes_on, stops}
use Rattle.sb_load.proofs.inputs.load_log.Goals as goal

pub returns-in-Err-clause-read : goal.returns-in-Err-clause-read
returns-in-Err-clause-read g c = λ command names.
    stops (WhenNamed (log_name command) [] (LoadsLog (g.H.Shelf.content c.args.shelf.now) (checked_of c.args.program.now)))
    (λ records. Then (FitsChunks (chunk_of command) records) (λ _ loaded. loaded ≡ Ok records)) c.in-Err.refusal (c.in-Err.ensures.read command names)

pub returns-in-Ok-fit_chunks-clause-read : goal.returns-in-Ok-fit_chunks-clause-read
returns-in-Ok-fit_chunks-clause-read g c = λ command names.
    let records = records_of c.in-Ok.log in
    goes_on (WhenNamed (log_name command) [] (LoadsLog (g.H.Shelf.content c.args.shelf.now) (checked_of c.args.program.now)))
    (λ records. Then (FitsChunks (chunk_of command) records) (λ _ loaded. loaded ≡ Ok records)) records (λ loaded. loaded ≡ Ok records) (c.in-Ok.ensures.read command names)
    (goes_on (FitsChunks (chunk_of command) records) (λ _ loaded. loaded ≡ Ok records) tt (λ loaded. loaded ≡ Ok records)
    (subst (λ o. (step : Result (Unit {0}) Refusal) → FitsChunks o records step → step ≡ Ok tt) (sym names.chunk) c.in-Ok-fit_chunks.ensures.read) (λ loaded is. is))

pub returns-in-Err-fit_chunks-clause-read : goal.returns-in-Err-fit_chunks-clause-read
returns-in-Err-fit_chunks-clause-read g c = λ command names.
    let records = records_of c.in-Ok.log in
    let refusal = c.in-Err-fit_chunks.refusal in
    goes_on (WhenNamed (log_name command) [] (LoadsLog (g.H.Shelf.content c.args.shelf.now) (checked_of c.args.program.now)))
    (λ records. Then (FitsChunks (chunk_of command) records) (λ _ loaded. loaded ≡ Ok records)) records (TellsRefusal refusal) (c.in-Ok.ensures.read command names)
    (stops (FitsChunks (chunk_of command) records) (λ _ loaded. loaded ≡ Ok records) refusal
    (subst (λ o. (step : Result (Unit {0}) Refusal) → FitsChunks o records step → TellsRefusal refusal step) (sym names.chunk) c.in-Err-fit_chunks.ensures.read))
