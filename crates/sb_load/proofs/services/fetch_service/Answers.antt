use Rattle.std.proofs.Common.{◌≡◌, Ok, List, ℕ, subst, sym}
use Rattle.std.specs.Prelude.{Result}
use Rattle.sb_check.specs.Declarations.{service_of}
use Rattle.sb_service.specs.Views.{view_service}
use Rattle.sb_load.specs.Inputs.{LoadsFile, ReadsService}
use Rattle.sb_load.specs.Limits.{most_service_bytes}
use Rattle.sb_load.specs.Steps.{AreBytes, TellsAll, TellsRefusal}
use Rattle.sb_load.specs.declared.refusal.Refusal.{Refusal}
use Rattle.sb_load.specs.declared.refusal.Refusal.TheVariants as refused
use Rattle.sb_load.specs.declared.refusal.Which.TheVariants as which
use Rattle.sb_load.proofs.Loading.{read_tells, refused_tells}
use Rattle.sb_load.proofs.services.fetch_service.Goals as goal

pub returns-in-Ok-clause-read : goal.returns-in-Ok-clause-read
returns-in-Ok-clause-read g c =
    let content = g.H.Shelf.content c.args.shelf.now c.args.file.now in
    let s = service_of c.args.service.now in
    subst (λ n. TellsAll (LoadsFile (which.Service n) most_service_bytes (refused.ServiceLonger n) (ReadsService s) content) view_service c.read_rows.result) c.requires.name
    (read_tells (which.Service c.args.name) most_service_bytes (refused.ServiceLonger c.args.name) (ReadsService s) view_service content c.deref.result.now c.read_rows.result
    (subst (λ b. (loaded : Result (List ℕ) Refusal) → LoadsFile (which.Service c.args.name) most_service_bytes (refused.ServiceLonger c.args.name) AreBytes content loaded → loaded ≡ Ok b) (sym c.deref.ensures.value) c.in-Ok.ensures.read)
    c.read_rows.ensures.read)

pub returns-in-Err-clause-read : goal.returns-in-Err-clause-read
returns-in-Err-clause-read g c =
    let content = g.H.Shelf.content c.args.shelf.now c.args.file.now in
    let s = service_of c.args.service.now in
    refused_tells (which.Service s.name) most_service_bytes (refused.ServiceLonger s.name) (ReadsService s) view_service content c.in-Err.refusal
    (subst (λ n. (loaded : Result (List ℕ) Refusal) → LoadsFile (which.Service n) most_service_bytes (refused.ServiceLonger n) AreBytes content loaded → TellsRefusal c.in-Err.refusal loaded) c.requires.name c.in-Err.ensures.read)
