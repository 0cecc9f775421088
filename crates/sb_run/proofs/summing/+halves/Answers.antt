use denote.Exit.{no}
use denote.Param.{param}
use denote.Param.Send.{IsSync, arg_send, param_send, shr_send, shr_slice_send}
use denote.Builtin.{u8, u32, u64}
use Rattle.std.proofs.Common.{◌∙◌, ap, map, rules, sym, subst}
use Rattle.std.specs.contracts.alloc.Global as global
use Rattle.std.proofs.alloc.Global.TheSendSync as Global
use Rattle.sb_check.specs.CheckedView.{checked_of}
use Rattle.sb_check.specs.Log.{records_of}
use Rattle.sb_check.specs.contracts.checked.Checked as checked
use Rattle.sb_log.specs.PieceLines.{piece_lines}
use Rattle.sb_log.specs.Reading.{GivesLog}
use Rattle.sb_log.proofs.PieceLines.{records_append}
use Rattle.sb_job.specs.contracts.seed.Seed as seed
use Rattle.sb_plan.specs.contracts.batch_runner.Runner as runner
use Rattle.sb_service.specs.Views.{view_service}
use Rattle.sb_service.specs.contracts.service.Service as service
use Rattle.sb_run.specs.Batching.{AreSummed}
use Rattle.sb_run.proofs.Crossing.{byte_sync, checked_sync, depth_sync, number_sync, runner_sync, seed_sync, service_sync, sums_send, ten_send}
use Rattle.sb_run.proofs.PieceSums.{given_valid}
use Rattle.sb_run.proofs.summing.+halves.Goals as goal

pub join-first-requires-send-F : goal.join-first-requires-send-F
join-first-requires-send-F g t c κs within =
    let shared : IsSync (param 0 g.row.R) = search rules parts 8 in
    param_send 1 _ (arg_send _ no _ (ten_send _ _ _ _ _ _ _ _ _ _ _
    (shr_send _ _ (param 0 g.row.R) shared)
    (shr_send _ _ global.the_row Global.the_sync)
    (shr_send _ _ checked.the_row checked_sync)
    (shr_send _ _ runner.the_row runner_sync)
    (shr_slice_send _ _ service.the_row service_sync)
    (shr_send _ _ u64 number_sync)
    (shr_send _ _ u64 number_sync)
    (shr_slice_send _ _ u8 byte_sync)
    (shr_send _ _ u32 depth_sync)
    (shr_send _ _ seed.the_row seed_sync)))

pub join-first-requires-send-A : goal.join-first-requires-send-A
join-first-requires-send-A g t c κs within = param_send 3 _ (arg_send _ no _ sums_send)

pub add_behind-requires-clause-first : goal.add_behind-requires-clause-first
add_behind-requires-clause-first g t c =
    let p = checked_of c.args.c.now in
    given_valid p (map view_service c.args.services.now) c.args.runner.now _ c.join-first.result.0 c.join-first.ensures.first.gives

pub add_behind-requires-clause-second : goal.add_behind-requires-clause-second
add_behind-requires-clause-second g t c =
    let p = checked_of c.args.c.now in
    given_valid p (map view_service c.args.services.now) c.args.runner.now _ c.join-first.result.1 c.join-first.ensures.second.gives

pub returns : goal.returns
returns g t c =
    let p = checked_of c.args.c.now in
    let services = map view_service c.args.services.now in
    let first = piece_lines c.in-Ok.first in
    let second = piece_lines c.in-Ok.second in
    record {
      gives = subst (λ said. GivesLog (AreSummed p services c.args.runner.now) said c.add_behind.result)
          (sym (records_append p first second) ∙ ap (records_of p) c.in-Ok.ensures.lines)
          (c.add_behind.ensures p services (records_of p first) (records_of p second) c.join-first.ensures.first.gives c.join-first.ensures.second.gives);
    }
