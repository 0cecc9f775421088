use Rattle.std.proofs.Common.{◌≡◌, ◌∙◌, ℕ, List, Ok, ap, map, refl, subst}
use Rattle.std.specs.Prelude.{Result}
use Rattle.sb_check.specs.CheckedView.{checked_of}
use Rattle.sb_service.specs.Views.{view_service}
use Rattle.sb_load.specs.Commands.{files_of, has_services}
use Rattle.sb_load.specs.Inputs.{LoadsFile, LoadsServices}
use Rattle.sb_load.specs.Limits.{most_log_bytes}
use Rattle.sb_load.specs.Steps.{AreBytes, TellsRefusal, loaded_of, text_at}
use Rattle.sb_load.specs.declared.refusal.Refusal.{Refusal}
use Rattle.sb_load.specs.declared.refusal.Refusal.TheVariants as refused
use Rattle.sb_load.specs.declared.refusal.Which.TheVariants as which
use Rattle.sb_load.proofs.BatchSteps.{text_loaded, text_refused}
use Rattle.sb_load.proofs.Causes.{fetch_leaves, leaves_then, same_content}
use Rattle.sb_load.proofs.Others.{carried, services_refused}
use Rattle.sb_load.proofs.batch_inputs.load_others.Goals as goal

pub returns-in-Err-clause-read : goal.returns-in-Err-clause-read
returns-in-Err-clause-read g c = λ command names.
    let content = g.H.Shelf.content in
    let program = loaded_of c.args.program in
    services_refused (content c.args.shelf.now) command program c.in-Err.refusal
    (carried (λ content p. LoadsServices content (has_services command) (files_of command) p.declared) (TellsRefusal c.in-Err.refusal) (content c.args.shelf.now) (content c.args.shelf.now) program (checked_of c.checked.result.now) refl c.checked.ensures (c.in-Err.ensures.read command names))

pub returns-in-Err-fetch_text-clause-read : goal.returns-in-Err-fetch_text-clause-read
returns-in-Err-fetch_text-clause-read g c = λ command names.
    let content = g.H.Shelf.content in
    let faults = g.H.Shelf.faults in
    let program = loaded_of c.args.program in
    let rows = map view_service c.in-Ok.services.items in
    let same = same_content command (content c.args.shelf.now) (content c.load_services.new.shelf) (faults c.args.shelf.now) (faults c.load_services.new.shelf) (c.in-Ok.ensures.frame command names) in
    text_refused (content c.args.shelf.now) command program c.args.log.now (names.log ∙ ap text_at c.requires.log) (names.chunk ∙ c.requires.chunk) (names.script ∙ ap text_at c.requires.script) rows
    (carried (λ content p. LoadsServices content (has_services command) (files_of command) p.declared) (λ step. step ≡ Ok rows) (content c.args.shelf.now) (content c.args.shelf.now) program (checked_of c.checked.result.now) refl c.checked.ensures (c.in-Ok.ensures.read command names))
    c.in-Err-fetch_text.refusal
    (subst (λ b. (loaded : Result (List ℕ) Refusal) → LoadsFile which.Log most_log_bytes refused.LogLonger AreBytes (b c.args.log.now) loaded → TellsRefusal c.in-Err-fetch_text.refusal loaded) same c.in-Err-fetch_text.ensures.read)

pub returns-in-Ok-fetch_text-clause-read : goal.returns-in-Ok-fetch_text-clause-read
returns-in-Ok-fetch_text-clause-read g c = λ command names.
    let content = g.H.Shelf.content in
    let faults = g.H.Shelf.faults in
    let program = loaded_of c.args.program in
    let rows = map view_service c.in-Ok.services.items in
    let bytes = c.in-Ok-fetch_text.log.items in
    let same = same_content command (content c.args.shelf.now) (content c.load_services.new.shelf) (faults c.args.shelf.now) (faults c.load_services.new.shelf) (c.in-Ok.ensures.frame command names) in
    text_loaded (content c.args.shelf.now) command program c.args.log.now (names.log ∙ ap text_at c.requires.log) (names.chunk ∙ c.requires.chunk) (names.script ∙ ap text_at c.requires.script) rows
    (carried (λ content p. LoadsServices content (has_services command) (files_of command) p.declared) (λ step. step ≡ Ok rows) (content c.args.shelf.now) (content c.args.shelf.now) program (checked_of c.checked.result.now) refl c.checked.ensures (c.in-Ok.ensures.read command names))
    bytes
    (subst (λ b. (loaded : Result (List ℕ) Refusal) → LoadsFile which.Log most_log_bytes refused.LogLonger AreBytes (b c.args.log.now) loaded → loaded ≡ Ok bytes) same c.in-Ok-fetch_text.ensures.read)

pub returns-in-Ok-fetch_text-clause-frame : goal.returns-in-Ok-fetch_text-clause-frame
returns-in-Ok-fetch_text-clause-frame g c = λ command names.
    let content = g.H.Shelf.content in
    let faults = g.H.Shelf.faults in
    leaves_then command (content c.args.shelf.now) (content c.load_services.new.shelf) (content c.fetch_text.new.shelf) (faults c.args.shelf.now) (faults c.load_services.new.shelf) (faults c.fetch_text.new.shelf) (c.in-Ok.ensures.frame command names)
    (fetch_leaves command which.Log c.args.log.now (names.log ∙ ap text_at c.requires.log) (content c.load_services.new.shelf) (content c.fetch_text.new.shelf) (faults c.load_services.new.shelf) (faults c.fetch_text.new.shelf) c.fetch_text.ensures.frame)

pub returns-in-Err-fetch_text-clause-frame : goal.returns-in-Err-fetch_text-clause-frame
returns-in-Err-fetch_text-clause-frame g c = λ command names.
    let content = g.H.Shelf.content in
    let faults = g.H.Shelf.faults in
    leaves_then command (content c.args.shelf.now) (content c.load_services.new.shelf) (content c.fetch_text.new.shelf) (faults c.args.shelf.now) (faults c.load_services.new.shelf) (faults c.fetch_text.new.shelf) (c.in-Ok.ensures.frame command names)
    (fetch_leaves command which.Log c.args.log.now (names.log ∙ ap text_at c.requires.log) (content c.load_services.new.shelf) (content c.fetch_text.new.shelf) (faults c.load_services.new.shelf) (faults c.fetch_text.new.shelf) c.fetch_text.ensures.frame)
