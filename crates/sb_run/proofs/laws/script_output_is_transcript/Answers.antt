use Rattle.sb_run.proofs.Settling.{script_is_settled}
use Rattle.sb_run.proofs.laws.script_output_is_transcript.Goals as goal

pub returns : goal.returns
returns c = script_is_settled
