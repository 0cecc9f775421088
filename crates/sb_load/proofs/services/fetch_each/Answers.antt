use Rattle.std.proofs.Common.{◌∙◌, ◌+◌, [], ◌∷◌, ap, drop, map, refl, subst, sym}
use Rattle.std.proofs.lemmas.List.{drop_more}
use Rattle.sb_check.specs.Declarations.{service_of}
use Rattle.sb_service.specs.Views.{view_service}
use Rattle.sb_words.specs.declared.command.Command.TheVariants.{Batch}
use Rattle.sb_load.specs.Steps.{IsBehind, TellsRefusal}
use Rattle.sb_load.proofs.Advancing.{begins}
use Rattle.sb_load.proofs.Causes.{leaves_then, same_content, untouched}
use Rattle.sb_load.proofs.services.fetch_each.Goals as goal

pub loop-service-init : goal.loop-service-init
loop-service-init g c =
    let content = g.H.Shelf.content c.args.shelf.now in
    let services = map service_of c.args.services.now in
    record {
      read = λ loaded is. subst (λ items. IsBehind content c.args.files.now services (map view_service items) loaded) (sym c.new-all.ensures.items) (begins content c.args.files.now services loaded is);
      frame = λ command files. untouched command content (g.H.Shelf.faults c.args.shelf.now);
    }

-- some command has these files, so the shelf tells what it told
pub loop-service-preserved : goal.loop-service-preserved
loop-service-preserved g c =
    let content = g.H.Shelf.content in
    let faults = g.H.Shelf.faults in
    let files = c.args.files.now in
    let i = c.loop-service.service-index in
    let rows = map view_service c.loop-service.all.items in
    let others = map service_of (drop (i + 1) c.args.services.now) in
    let same = same_content (Batch [] [] files) (content c.args.shelf.now) (content c.loop-service.shelf) (faults c.args.shelf.now) (faults c.loop-service.shelf) (c.loop-service.invariant.frame (Batch [] [] files) refl) in
    let more = drop_more c.args.services.now i c.service-item.result c.loop-service-test.true ∙ ap (λ s. s ∷ drop (i + 1) c.args.services.now) (sym c.service-item.is) in
    record {
      read = λ loaded is.
          subst (λ told. IsBehind told files (service_of c.service-item.result ∷ others) rows loaded → IsBehind told files others (map view_service c.add_next.new.all.items) loaded) same (c.in-Ok.ensures.read others loaded)
          (subst (λ left. IsBehind (content c.args.shelf.now) files (map service_of left) rows loaded) more (c.loop-service.invariant.read loaded is));
      frame = λ command have.
          leaves_then command (content c.args.shelf.now) (content c.loop-service.shelf) (content c.add_next.new.shelf) (faults c.args.shelf.now) (faults c.loop-service.shelf) (faults c.add_next.new.shelf)
          (c.loop-service.invariant.frame command have) (c.in-Ok.ensures.frame command have);
    }

pub returns-in-Err-clause-read : goal.returns-in-Err-clause-read
returns-in-Err-clause-read g c = λ loaded is.
    let content = g.H.Shelf.content in
    let faults = g.H.Shelf.faults in
    let files = c.args.files.now in
    let i = c.loop-service.service-index in
    let rows = map view_service c.loop-service.all.items in
    let others = map service_of (drop (i + 1) c.args.services.now) in
    let same = same_content (Batch [] [] files) (content c.args.shelf.now) (content c.loop-service.shelf) (faults c.args.shelf.now) (faults c.loop-service.shelf) (c.loop-service.invariant.frame (Batch [] [] files) refl) in
    let more = drop_more c.args.services.now i c.service-item.result c.loop-service-test.true ∙ ap (λ s. s ∷ drop (i + 1) c.args.services.now) (sym c.service-item.is) in
    subst (λ told. IsBehind told files (service_of c.service-item.result ∷ others) rows loaded → TellsRefusal c.in-Err.refusal loaded) same (c.in-Err.ensures.read others loaded)
    (subst (λ left. IsBehind (content c.args.shelf.now) files (map service_of left) rows loaded) more (c.loop-service.invariant.read loaded is))
