use Rattle.std.proofs.lemmas.Result.{IfOk-weaker}
use Rattle.sb_run.proofs.answering.session_over.Goals as goal

pub returns-clause-start : goal.returns-clause-start
returns-clause-start c =
    IfOk-weaker c.new.result _ _ (λ session numbers. λ i. record { worked = numbers.0 i; published = numbers.1 i; floor = numbers.2 i }) c.new.ensures.numbers
