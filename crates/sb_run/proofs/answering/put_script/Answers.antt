use Rattle.std.proofs.Common.{subst}
use Rattle.std.specs.Prelude.{OnOk}
use Rattle.sb_check.specs.CheckedView.{checked_of}
use Rattle.sb_io.specs.Sink.{Appends}
use Rattle.sb_report.specs.Transcript.{store_name}
use Rattle.sb_run.specs.ScriptOutput.{lines_text, script_lines}
use Rattle.sb_run.proofs.answering.put_script.Goals as goal

pub returns-clause-ok : goal.returns-clause-ok
returns-clause-ok g c =
    subst (λ at. OnOk c.put_answers.result (Appends (lines_text (store_name (checked_of c.args.c.now).declared) (script_lines g.run at c.args.asks.items)) (g.K.Sink.written c.args.sink.now) (g.K.Sink.written c.put_answers.new.sink)))
    c.requires.1.1.1.1.1.1 c.put_answers.ensures.ok
