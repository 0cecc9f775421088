use Rattle.sb_shard.proofs.Events.{new_folds}
use Rattle.sb_shard.proofs.shard.Shard.new.Goals as goal

pub returns-clause-folds : goal.returns-clause-folds
returns-clause-folds g c stores add log shard = rw (c.new.ensures, c.new-2.ensures) (new_folds stores add log shard)
