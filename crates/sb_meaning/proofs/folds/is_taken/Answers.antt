use Rattle.sb_meaning.proofs.Taken.{taken}
use Rattle.sb_meaning.proofs.folds.is_taken.Goals as goal

pub returns : goal.returns
returns c = taken c.args.take.now c.args.position c.contains.result c.contains.ensures
