use Rattle.std.proofs.Common.{◌∙◌, Err, ap, subst, sym}
use Rattle.sb_check.specs.Declarations.{service_of}
use Rattle.sb_service.specs.Views.{view_service}
use Rattle.sb_load.specs.Commands.{file_named}
use Rattle.sb_load.specs.Inputs.{LoadsService}
use Rattle.sb_load.specs.Steps.{TellsAll}
use Rattle.sb_load.specs.declared.refusal.Refusal.TheVariants as refused
use Rattle.sb_load.specs.declared.refusal.Which.TheVariants as which
use Rattle.sb_load.proofs.Causes.{fetch_leaves}
use Rattle.sb_load.proofs.services.fetch_next.Goals as goal

pub returns-in-Some-clause-read : goal.returns-in-Some-clause-read
returns-in-Some-clause-read g c =
    let content = g.H.Shelf.content c.args.shelf.now in
    subst (λ o. TellsAll (LoadsService content (service_of c.args.service.now) o) view_service c.fetch_service.result) c.in-Some.ensures c.fetch_service.ensures.read

pub returns-in-Some-clause-frame : goal.returns-in-Some-clause-frame
returns-in-Some-clause-frame g c = λ command files.
    let content = g.H.Shelf.content in
    let faults = g.H.Shelf.faults in
    fetch_leaves command (which.Service c.in-Ok.name) c.in-Some.file.now ((λ i. file_named (c.in-Ok.ensures i) (files i)) ∙ sym c.in-Some.ensures)
    (content c.args.shelf.now) (content c.fetch_service.new.shelf) (faults c.args.shelf.now) (faults c.fetch_service.new.shelf) c.fetch_service.ensures.frame

pub returns-in-None-clause-read : goal.returns-in-None-clause-read
returns-in-None-clause-read g c =
    let content = g.H.Shelf.content c.args.shelf.now in
    λ loaded is. subst (λ o. LoadsService content (service_of c.args.service.now) o loaded) (sym c.in-None.ensures) is ∙ ap (λ n. Err (refused.ServiceMissing n)) (sym c.in-Ok.ensures)
