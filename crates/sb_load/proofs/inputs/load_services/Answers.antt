use Rattle.std.proofs.Common.{◌≡◌, ◌∙◌, true, ap, subst, is_some}
use Rattle.sb_check.specs.CheckedView.{checked_of}
use Rattle.sb_load.specs.Commands.{has_services}
use Rattle.sb_load.specs.Inputs.{LoadsServices}
use Rattle.sb_load.specs.Steps.{text_at}
use Rattle.sb_load.proofs.inputs.load_services.Goals as goal

pub returns-in-Some-clause-read : goal.returns-in-Some-clause-read
returns-in-Some-clause-read g c = λ command names loaded is.
    let content = g.H.Shelf.content c.args.shelf.now in
    let d = (checked_of c.args.program.now).declared in
    let has : has_services command ≡ true = ap is_some (names.log ∙ ap text_at c.in-Some.is) in
    c.fetch_services.ensures.read loaded
    (subst (λ b. LoadsServices content b c.args.names.now.services.now d loaded) has (subst (λ files. LoadsServices content (has_services command) files d loaded) names.services is))
