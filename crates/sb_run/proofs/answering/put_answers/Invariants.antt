use Rattle.std.proofs.Common.{◌≡◌, [], ◌≤◌, length}
use Rattle.std.specs.List.{AllByRecursion}
use Rattle.std.specs.Vec.Iter.{into_iter_items}
use Rattle.sb_check.specs.CheckedView.{checked_of}
use Rattle.sb_report.specs.Script.{AsksOf}
use Rattle.sb_report.specs.Transcript.{store_name}
use Rattle.sb_run.specs.Answering.{progress, IsOverFeed}
use Rattle.sb_run.specs.Blocks.{Sends}
use Rattle.sb_run.specs.ScriptOutput.{lines_text, script_lines}
use Rattle.sb_run.proofs.answering.put_answers.Given as goal

abbrev pub invariant-loop-ask : goal.invariant-loop-ask
invariant-loop-ask g l = record {
  sent : Sends (lines_text (store_name (checked_of l.c).declared) (script_lines g.run (progress l.fn.session) l.fn.asks.items)) (g.K.Sink.written l.fn.sink) [] (g.K.Sink.written l.sink)
      (lines_text (store_name (checked_of l.c).declared) (script_lines g.run (progress l.session) (into_iter_items l.ask-iterator)));
  over : IsOverFeed l.feed l.session;
  stores : AllByRecursion (AsksOf (length (checked_of l.c).declared.stores)) (into_iter_items l.ask-iterator);
  cut : l.session.cut ≡ l.fn.session.cut;
  later : g.K.Sink.faults l.fn.sink ≤ g.K.Sink.faults l.sink;
}

abbrev pub ghost-put_answer : goal.ghost-put_answer
ghost-put_answer g a = g.run
