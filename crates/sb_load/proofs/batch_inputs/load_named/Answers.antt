use Rattle.std.proofs.Common.{subst}
use Rattle.sb_load.specs.Batches.{TellsBatch}
use Rattle.sb_load.specs.Inputs.{LoadsChecked, LoadsOthers}
use Rattle.sb_load.specs.Steps.{loaded_of}
use Rattle.sb_load.proofs.BatchSteps.{behind_program}
use Rattle.sb_load.proofs.Causes.{same_content}
use Rattle.sb_load.proofs.Loading.{stops}
use Rattle.sb_load.proofs.batch_inputs.load_named.Goals as goal

pub returns-in-Ok-clause-read : goal.returns-in-Ok-clause-read
returns-in-Ok-clause-read g c = λ command names.
    let content = g.H.Shelf.content in
    let faults = g.H.Shelf.faults in
    let program = loaded_of c.in-Ok.program in
    behind_program (content c.args.shelf.now) command c.args.names.now.program.now program (c.in-Ok.ensures.read command names) c.load_others.result
    (subst (λ b. TellsBatch (LoadsOthers b command program) c.load_others.result)
    (same_content command (content c.args.shelf.now) (content c.load_program.new.shelf) (faults c.args.shelf.now) (faults c.load_program.new.shelf) (c.in-Ok.ensures.frame command names))
    (c.load_others.ensures.read command names))

pub returns-in-Err-clause-read : goal.returns-in-Err-clause-read
returns-in-Err-clause-read g c = λ command names.
    let content = g.H.Shelf.content c.args.shelf.now in
    stops (LoadsChecked content command c.args.names.now.program.now) (LoadsOthers content command) c.in-Err.refusal (c.in-Err.ensures.read command names)
