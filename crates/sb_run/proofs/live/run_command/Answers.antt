use Rattle.sb_run.proofs.Endings.{refused_keeps, served_run}
use Rattle.sb_run.proofs.live.run_command.Goals as goal

pub returns-in-Err : goal.returns-in-Err
returns-in-Err g c =
    refused_keeps (g.H.Shelf.content c.args.shelf.now) (g.H.Shelf.content c.load.new.shelf) (g.H.Shelf.faults c.args.shelf.now) (g.H.Shelf.faults c.load.new.shelf)
    (g.K.Sink.written c.args.sink.now) (g.K.Sink.written c.put_refusal.new.sink) (g.K.Sink.faults c.args.sink.now) (g.K.Sink.faults c.put_refusal.new.sink) c.put_refusal.result
    c.args.command.now (served_run c.args.command.now c.requires.own) c.in-Err.refusal c.in-Err.ensures.read c.in-Err.ensures.cause c.in-Err.ensures.frame
    c.put_refusal.ensures.ends c.put_refusal.ensures.sink c.put_refusal.ensures.later
