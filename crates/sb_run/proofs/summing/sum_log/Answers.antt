use Rattle.std.proofs.Common.{map}
use Rattle.sb_check.specs.CheckedView.{checked_of}
use Rattle.sb_check.specs.Log.{log_of}
use Rattle.sb_service.specs.Views.{view_service}
use Rattle.sb_run.proofs.Summed.{rows_given}
use Rattle.sb_run.proofs.summing.sum_log.Goals as goal

pub returns : goal.returns
returns g c =
    let p = checked_of c.args.c.now in
    rows_given p (map view_service c.args.services.now) c.args.runner.now (log_of p c.args.log.now) c.in_ok-sums.sums c.in_ok-sums.ensures c.rows_of.result c.rows_of.ensures.ok
    c.rows_of.ensures.err
