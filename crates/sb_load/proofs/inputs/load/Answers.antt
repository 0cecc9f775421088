use Rattle.std.proofs.Common.{subst, sym}
use Rattle.sb_load.specs.Inputs.{Loads}
use Rattle.sb_load.specs.Steps.{TellsAll, inputs_of}
use Rattle.sb_load.proofs.inputs.load.Goals as goal

pub returns-in-Some-clause-read : goal.returns-in-Some-clause-read
returns-in-Some-clause-read g c =
    subst (λ o. TellsAll (Loads (g.H.Shelf.content c.args.shelf.now) c.args.command.now o) inputs_of c.load_named.result) (sym c.in-Some.ensures.names.program) (c.load_named.ensures.read c.args.command.now c.in-Some.ensures.names)
