use Rattle.std.proofs.Common.{subst}
use Rattle.sb_io.specs.Sink.{Appends}
use Rattle.sb_run.proofs.answering.put_report.Goals as goal

pub returns-clause-ok : goal.returns-clause-ok
returns-clause-ok g c =
    subst (λ bytes. Appends bytes (g.K.Sink.written c.args.sink.now) (g.K.Sink.written c.put_rows.new.sink))
    (c.requires.1.0.report c.in-Ok.rows c.in_ok-put_rows.ensures.rising c.in-Ok.ensures) c.in_ok-put_rows.ensures.ok
