use Rattle.sb_run.proofs.Sharded.{same_text}
use Rattle.sb_run.proofs.laws.shards_are_not_written.Goals as goal

pub returns : goal.returns
returns c = same_text
