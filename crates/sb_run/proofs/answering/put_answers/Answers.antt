use Rattle.std.proofs.Common.{length, rules, subst, sym}
use Rattle.std.specs.List.{AllByRecursion}
use Rattle.sb_check.specs.CheckedView.{checked_of}
use Rattle.sb_report.specs.Script.{AsksOf}
use Rattle.sb_run.specs.Answering.{Serves}
use Rattle.sb_run.proofs.answering.put_answers.Goals as goal

pub put_answer-requires : goal.put_answer-requires
put_answer-requires g c κs within =
    let p = checked_of c.args.c.now in
    let serves = subst (λ cut. Serves p c.args.feed.now cut g.run) (sym c.loop-ask.invariant.cut) c.requires.1.1.1.0 in
    let stores = subst (AllByRecursion (AsksOf (length p.declared.stores))) c.in-Some.ensures.steps.0 c.loop-ask.invariant.stores in
    (within.0, (within.1, (search rules parts 8, (serves, (c.loop-ask.invariant.over, stores.0)))))
