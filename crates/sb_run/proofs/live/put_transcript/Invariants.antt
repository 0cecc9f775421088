use Rattle.std.proofs.Common.{map}
use Rattle.sb_check.specs.OnlineView.{online_of}
use Rattle.sb_load.specs.Steps.{records_of}
use Rattle.sb_service.specs.Views.{view_service}
use Rattle.sb_run.specs.Run.{run_of}
use Rattle.sb_run.proofs.live.put_transcript.Given as goal

abbrev pub ghost-answer_script : goal.ghost-answer_script
ghost-answer_script g a = run_of (online_of a.program.now) a.chunk a.shards (records_of a.log.now) (map view_service a.services.now)
