use Rattle.std.proofs.Common.{◌∙◌, ap}
use Rattle.sb_load.specs.Steps.{text_at}
use Rattle.sb_load.specs.declared.refusal.Which.TheVariants as which
use Rattle.sb_load.proofs.Causes.{fetch_leaves}
use Rattle.sb_load.proofs.inputs.load_records.Goals as goal

pub returns-in-Some-clause-frame : goal.returns-in-Some-clause-frame
returns-in-Some-clause-frame g c = λ command names.
    let content = g.H.Shelf.content in
    let faults = g.H.Shelf.faults in
    fetch_leaves command which.Log c.in-Some.name.now (names.log ∙ ap text_at c.in-Some.is) (content c.args.shelf.now) (content c.fetch_log.new.shelf) (faults c.args.shelf.now) (faults c.fetch_log.new.shelf) c.fetch_log.ensures.frame
