use Rattle.std.proofs.Common.{◌∙◌, ap, length, map, subst, sym}
use Rattle.sb_check.specs.CheckedView.{checked_of}
use Rattle.sb_check.specs.Log.{records_of}
use Rattle.sb_log.specs.Reading.{GivesLog}
use Rattle.sb_service.specs.Views.{view_service}
use Rattle.sb_run.specs.Batching.{AreSummed}
use Rattle.sb_run.proofs.PieceSums.{all_fit}
use Rattle.sb_run.proofs.summing.add_text.Goals as goal

pub returns : goal.returns
returns g c =
    let p = checked_of c.args.c.now in
    let lines = c.in-Ok.ensures.lines in
    subst (λ said. GivesLog (AreSummed p (map view_service c.args.services.now) c.args.runner.now) said c.add_halves.result)
    (ap (records_of p) lines ∙ all_fit p c.args.log.now c.in-Ok.piece.lines (c.in-Ok.ensures.piece ∙ ap length lines) (sym c.if-not-fits.ensures)) c.add_halves.ensures.gives
