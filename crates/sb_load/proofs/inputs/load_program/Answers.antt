use Rattle.std.proofs.Common.{◌∙◌, ap, sym, subst, is_some}
use Rattle.sb_check.specs.CheckedView.{checked_of}
use Rattle.sb_load.specs.Commands.{is_online}
use Rattle.sb_load.specs.Inputs.{Admits, LoadsProgram}
use Rattle.sb_load.specs.Steps.{Tells, TellsAll, loaded_of}
use Rattle.sb_load.specs.declared.refusal.Which.TheVariants as which
use Rattle.sb_load.proofs.Causes.{fetch_leaves}
use Rattle.sb_load.proofs.Loading.{goes_on, stops}
use Rattle.sb_load.proofs.inputs.load_program.Goals as goal

pub returns-in-Ok-clause-read : goal.returns-in-Ok-clause-read
returns-in-Ok-clause-read g c = λ command names.
    let content = g.H.Shelf.content c.args.shelf.now in
    let program = checked_of c.in-Ok.program in
    goes_on (LoadsProgram (content c.args.names.now.program.now)) (Admits (is_online command)) program (λ loaded. Tells loaded_of loaded c.admit_program.result) c.in-Ok.ensures.read
    (subst (λ b. TellsAll (Admits b program) loaded_of c.admit_program.result) (c.is_some.ensures ∙ ap is_some (sym names.chunk)) c.admit_program.ensures.read)

pub returns-in-Ok-clause-frame : goal.returns-in-Ok-clause-frame
returns-in-Ok-clause-frame g c = λ command names.
    let content = g.H.Shelf.content in
    let faults = g.H.Shelf.faults in
    fetch_leaves command which.Program c.args.names.now.program.now names.program (content c.args.shelf.now) (content c.fetch_program.new.shelf) (faults c.args.shelf.now) (faults c.fetch_program.new.shelf) c.in-Ok.ensures.frame

pub returns-in-Err-clause-frame : goal.returns-in-Err-clause-frame
returns-in-Err-clause-frame g c = λ command names.
    let content = g.H.Shelf.content in
    let faults = g.H.Shelf.faults in
    fetch_leaves command which.Program c.args.names.now.program.now names.program (content c.args.shelf.now) (content c.fetch_program.new.shelf) (faults c.args.shelf.now) (faults c.fetch_program.new.shelf) c.in-Err.ensures.frame

pub returns-in-Err-clause-read : goal.returns-in-Err-clause-read
returns-in-Err-clause-read g c = λ command names.
    stops (LoadsProgram (g.H.Shelf.content c.args.shelf.now c.args.names.now.program.now)) (Admits (is_online command)) c.in-Err.refusal c.in-Err.ensures.read
