use denote.Exit.{no}
use denote.Param.Send.{arg_send, arg_sync, param_send, param_sync}
use Rattle.sb_kind.proofs.Crossing.{agg_send, agg_sync}
use Rattle.sb_run.proofs.Crossing.{commuting_sync, feed_sync}
use Rattle.sb_run.proofs.answering.publish.Goals as goal

pub publish-requires-send-E : goal.publish-requires-send-E
publish-requires-send-E g c κs within = param_send 0 _ (arg_send _ no _ agg_send)

pub publish-requires-sync-E : goal.publish-requires-sync-E
publish-requires-sync-E g c κs within = param_sync 0 _ (arg_sync _ no _ agg_sync)

pub publish-requires-sync-M : goal.publish-requires-sync-M
publish-requires-sync-M g c κs within = param_sync 2 _ (arg_sync _ no _ commuting_sync)

pub publish-requires-sync-F : goal.publish-requires-sync-F
publish-requires-sync-F g c κs within = param_sync 3 _ (arg_sync _ no _ feed_sync)
