use Rattle.std.proofs.Common.{◌≡◌, Ok, List, ℕ, subst, sym}
use Rattle.std.specs.Prelude.{Result}
use Rattle.sb_check.specs.CheckedView.{checked_of}
use Rattle.sb_load.specs.Inputs.{LoadsFile, ReadsLog}
use Rattle.sb_load.specs.Limits.{most_log_bytes}
use Rattle.sb_load.specs.Steps.{AreBytes, records_of}
use Rattle.sb_load.specs.declared.refusal.Refusal.{Refusal}
use Rattle.sb_load.specs.declared.refusal.Refusal.TheVariants as refused
use Rattle.sb_load.specs.declared.refusal.Which.TheVariants as which
use Rattle.sb_load.proofs.Loading.{read_tells, refused_tells}
use Rattle.sb_load.proofs.logs.fetch_log.Goals as goal

pub returns-in-Ok-clause-read : goal.returns-in-Ok-clause-read
returns-in-Ok-clause-read g c =
    let content = g.H.Shelf.content c.args.shelf.now c.args.name.now in
    read_tells which.Log most_log_bytes refused.LogLonger (ReadsLog (checked_of c.args.program.now)) records_of content c.deref.result.now c.read_records.result
    (subst (λ b. (loaded : Result (List ℕ) Refusal) → LoadsFile which.Log most_log_bytes refused.LogLonger AreBytes content loaded → loaded ≡ Ok b) (sym c.deref.ensures.value) c.in-Ok.ensures.read)
    c.read_records.ensures.read

pub returns-in-Err-clause-read : goal.returns-in-Err-clause-read
returns-in-Err-clause-read g c =
    refused_tells which.Log most_log_bytes refused.LogLonger (ReadsLog (checked_of c.args.program.now)) records_of (g.H.Shelf.content c.args.shelf.now c.args.name.now) c.in-Err.refusal c.in-Err.ensures.read
