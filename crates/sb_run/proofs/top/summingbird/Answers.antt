use Rattle.std.proofs.Common.{◌≡◌, Option, None, refl, subst, sym}
use Rattle.sb_run.specs.Call.{texts, Keeps}
use Rattle.sb_run.specs.Due.{usage_answer}
use Rattle.sb_run.proofs.Endings.{all_left, usage_only, words_keep}
use Rattle.sb_words.specs.Answers.{Fails}
use Rattle.sb_words.specs.Command.{command_of}
use Rattle.sb_words.specs.declared.command.Command.{Command}
use Rattle.sb_run.proofs.top.summingbird.Goals as goal

pub returns-in-Err-Usage-clause-refusals : goal.returns-in-Err-Usage-clause-refusals
returns-in-Err-Usage-clause-refusals g c =
    let content = g.H.Shelf.content c.args.shelf.now in
    let faults = g.H.Shelf.faults c.args.shelf.now in
    let kept : Keeps None content content faults faults (g.K.Sink.written c.args.sink.now) (g.K.Sink.written c.put_usage.new.sink) (g.K.Sink.faults c.args.sink.now) (g.K.Sink.faults c.put_usage.new.sink) c.put_usage.result =
    words_keep content content faults faults
    (g.K.Sink.written c.args.sink.now) (g.K.Sink.written c.put_usage.new.sink) (g.K.Sink.faults c.args.sink.now) (g.K.Sink.faults c.put_usage.new.sink) c.put_usage.result
    None usage_answer refl (usage_only content) (all_left None content faults)
    c.put_usage.ensures.ends c.put_usage.ensures.sink c.put_usage.ensures.later in
    let is : command_of (texts c.args.words.now) ≡ None = subst (Fails (command_of (texts c.args.words.now))) c.in-Err-Usage.field-0-is c.in-Err-Usage.ensures.command in
    let all = subst (λ (command : Option Command). Keeps command content content faults faults (g.K.Sink.written c.args.sink.now) (g.K.Sink.written c.put_usage.new.sink) (g.K.Sink.faults c.args.sink.now) (g.K.Sink.faults c.put_usage.new.sink) c.put_usage.result) (sym is) kept in
    all.refusals
