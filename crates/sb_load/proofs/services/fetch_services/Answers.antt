use Rattle.std.proofs.Common.{◌≡◌, ◌∙◌, ap, sym, subst, true, false, cond, Ok, Err, map}
use Rattle.sb_check.specs.CheckedView.{checked_of}
use Rattle.sb_service.specs.Views.{view_service}
use Rattle.sb_load.specs.Inputs.{KnowsServices, LoadsEach, has_unknown}
use Rattle.sb_load.specs.Steps.{Tells, TellsAll}
use Rattle.sb_load.specs.declared.refusal.Refusal.TheVariants as refused
use Rattle.sb_load.proofs.Loading.{goes_on, stops}
use Rattle.sb_load.proofs.services.fetch_services.Goals as goal

pub returns-then-has_unknown-clause-read : goal.returns-then-has_unknown-clause-read
returns-then-has_unknown-clause-read g c =
    let files = c.args.files.now in
    let services = (checked_of c.args.program.now).declared.services in
    let unknown : has_unknown services files ≡ true = ap (λ s. has_unknown s files) (sym c.services.ensures) ∙ (sym c.has_unknown.ensures ∙ c.if-has_unknown.true) in
    stops (KnowsServices services files) (λ _. LoadsEach (g.H.Shelf.content c.args.shelf.now) files services) refused.ServiceUnknown (λ step is. is ∙ ap (λ b. cond b (Err refused.ServiceUnknown) (Ok tt)) unknown)

pub returns-clause-read : goal.returns-clause-read
returns-clause-read g c =
    let content = g.H.Shelf.content c.args.shelf.now in
    let files = c.args.files.now in
    let services = (checked_of c.args.program.now).declared.services in
    let known : has_unknown services files ≡ false = ap (λ s. has_unknown s files) (sym c.services.ensures) ∙ (sym c.has_unknown.ensures ∙ c.if-has_unknown.false) in
    goes_on (KnowsServices services files) (λ _. LoadsEach content files services) tt (λ loaded. Tells (λ all. map view_service all.items) loaded c.fetch_each.result)
    (λ step is. is ∙ ap (λ b. cond b (Err refused.ServiceUnknown) (Ok tt)) known)
    (subst (λ s. TellsAll (LoadsEach content files s) (λ all. map view_service all.items) c.fetch_each.result) c.services-2.ensures c.fetch_each.ensures.read)
