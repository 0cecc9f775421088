use Rattle.std.proofs.Common.{rules, subst, sym}
use Rattle.sb_check.specs.CheckedView.{checked_of}
use Rattle.sb_run.specs.Answering.{Serves}
use Rattle.sb_run.proofs.answering.answer_all.Goals as goal

pub put_script-requires : goal.put_script-requires
put_script-requires g c κs within =
    let serves = subst (λ cut. Serves (checked_of c.args.c.now) c.args.feed.now cut g.run) (sym c.in-Ok.ensures.cut) c.requires.1.1.1.0 in
    (within.0, (within.1, (search rules parts 8, (serves, (c.in-Ok.ensures.over, (c.requires.1.1.1.1.1, c.in-Ok.ensures.start))))))
