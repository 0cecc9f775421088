use Rattle.std.proofs.Common.{◌∙◌}
use Rattle.sb_feed.proofs.KeyTies.{equals_same}
use Rattle.sb_job.proofs.by_batch.is_key.Goals as goal

pub returns : goal.returns
returns c = c.eq.ensures ∙ equals_same c.args.a.now c.args.b.now
