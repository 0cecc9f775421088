use Rattle.std.proofs.Common.{◌≡◌, Global, Ok, List, ℕ, subst, sym}
use Rattle.std.specs.Prelude.{Result}
use Rattle.std.specs.declared.vec.Vec.{Vec}
use Rattle.sb_check.specs.CheckedView.{checked_of}
use Rattle.sb_report.specs.declared.script.Ask.{Ask}
use Rattle.sb_load.specs.Inputs.{LoadsFile, ReadsScript}
use Rattle.sb_load.specs.Limits.{most_script_bytes}
use Rattle.sb_load.specs.Steps.{AreBytes}
use Rattle.sb_load.specs.declared.refusal.Refusal.{Refusal}
use Rattle.sb_load.specs.declared.refusal.Refusal.TheVariants as refused
use Rattle.sb_load.specs.declared.refusal.Which.TheVariants as which
use Rattle.sb_load.proofs.Loading.{read_tells, refused_tells}
use Rattle.sb_load.proofs.scripts.fetch_script.Goals as goal

pub returns-in-Ok-clause-read : goal.returns-in-Ok-clause-read
returns-in-Ok-clause-read g c =
    let content = g.H.Shelf.content c.args.shelf.now c.args.name.now in
    read_tells which.Script most_script_bytes refused.ScriptLonger (ReadsScript (checked_of c.args.program.now).declared) (λ (asks : Vec Ask Global). asks.items) content c.deref.result.now c.read_asks.result
    (subst (λ b. (loaded : Result (List ℕ) Refusal) → LoadsFile which.Script most_script_bytes refused.ScriptLonger AreBytes content loaded → loaded ≡ Ok b) (sym c.deref.ensures.value) c.in-Ok.ensures.read)
    c.read_asks.ensures.read

pub returns-in-Err-clause-read : goal.returns-in-Err-clause-read
returns-in-Err-clause-read g c =
    refused_tells which.Script most_script_bytes refused.ScriptLonger (ReadsScript (checked_of c.args.program.now).declared) (λ (asks : Vec Ask Global). asks.items) (g.H.Shelf.content c.args.shelf.now c.args.name.now) c.in-Err.refusal c.in-Err.ensures.read
