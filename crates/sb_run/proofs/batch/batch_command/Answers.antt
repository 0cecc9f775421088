use Rattle.std.proofs.Common.{map}
use Rattle.sb_check.specs.Log.{log_of}
use Rattle.sb_load.specs.Steps.{loaded_of}
use Rattle.sb_service.specs.Views.{view_service}
use Rattle.sb_run.proofs.Endings.{batch_keeps, refused_keeps, served_batch}
use Rattle.sb_run.proofs.batch.batch_command.Goals as goal

pub returns-in-Ok : goal.returns-in-Ok
returns-in-Ok g c =
    let inputs = c.in-Ok.inputs in
    let program = loaded_of inputs.program in
    batch_keeps (g.H.Shelf.content c.args.shelf.now) (g.H.Shelf.content c.load_batch.new.shelf) (g.H.Shelf.faults c.args.shelf.now) (g.H.Shelf.faults c.load_batch.new.shelf)
    (g.K.Sink.written c.args.sink.now) (g.K.Sink.written c.put_answer.new.sink) (g.K.Sink.faults c.args.sink.now) (g.K.Sink.faults c.put_answer.new.sink) c.put_answer.result
    c.args.command.now (served_batch c.args.command.now c.requires.own) c.requires.own program (map view_service inputs.services.items) (log_of program inputs.log.items)
    c.in-Ok.ensures.read c.in-Ok.ensures.frame c.put_answer.ensures.ends c.put_answer.ensures.sink c.put_answer.ensures.later

pub returns-in-Err : goal.returns-in-Err
returns-in-Err g c =
    refused_keeps (g.H.Shelf.content c.args.shelf.now) (g.H.Shelf.content c.load_batch.new.shelf) (g.H.Shelf.faults c.args.shelf.now) (g.H.Shelf.faults c.load_batch.new.shelf)
    (g.K.Sink.written c.args.sink.now) (g.K.Sink.written c.put_refusal.new.sink) (g.K.Sink.faults c.args.sink.now) (g.K.Sink.faults c.put_refusal.new.sink) c.put_refusal.result
    c.args.command.now (served_batch c.args.command.now c.requires.own) c.in-Err.refusal c.in-Err.ensures.read c.in-Err.ensures.cause c.in-Err.ensures.frame
    c.put_refusal.ensures.ends c.put_refusal.ensures.sink c.put_refusal.ensures.later
