use Rattle.std.proofs.Common.{Some, refl, sym}
use Rattle.sb_run.specs.Due.{unserved_answer}
use Rattle.sb_run.proofs.Endings.{all_left, unserved_only, words_keep}
use Rattle.sb_run.proofs.top.carry_out.Goals as goal

pub returns-then-not-is_served : goal.returns-then-not-is_served
returns-then-not-is_served g c =
    let content = g.H.Shelf.content c.args.shelf.now in
    let faults = g.H.Shelf.faults c.args.shelf.now in
    let command = c.args.command.now in
    let unserved = sym c.if-not-is_served.ensures in
    words_keep content content faults faults
    (g.K.Sink.written c.args.sink.now) (g.K.Sink.written c.put_unserved.new.sink) (g.K.Sink.faults c.args.sink.now) (g.K.Sink.faults c.put_unserved.new.sink) c.put_unserved.result
    (Some command) unserved_answer (unserved, refl) (unserved_only content command unserved) (all_left (Some command) content faults)
    c.put_unserved.ensures.ends c.put_unserved.ensures.sink c.put_unserved.ensures.later
