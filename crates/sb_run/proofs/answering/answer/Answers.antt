use Rattle.std.proofs.Common.{◌≡◌, sym, subst}
use Rattle.std.specs.Prelude.{IfOk, OnOk}
use Rattle.sb_run.specs.Answering.{progress}
use Rattle.sb_run.specs.ScriptOutput.{after, answer_line}
use Rattle.sb_run.proofs.answering.answer.Goals as goal

pub returns-in-Expire-clause-named : goal.returns-in-Expire-clause-named
returns-in-Expire-clause-named g c = c.expire.ensures.named _

pub returns-in-Expire-clause-line : goal.returns-in-Expire-clause-line
returns-in-Expire-clause-line g c =
    subst (λ a. IfOk c.expire.result (λ line. line ≡ answer_line g.run (progress c.args.session.now) a)) (sym c.in-Expire.is) (c.expire.ensures.line g.run)

pub returns-in-Expire-clause-after : goal.returns-in-Expire-clause-after
returns-in-Expire-clause-after g c =
    subst (λ a. OnOk c.expire.result (progress c.expire.new.session ≡ after g.run.places (progress c.args.session.now) a)) (sym c.in-Expire.is) (c.expire.ensures.after g.run.places)
