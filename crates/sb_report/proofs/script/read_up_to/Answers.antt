use Rattle.std.proofs.Common.{◌∙◌, arith}
use Rattle.sb_report.proofs.Asks.{within_limit, beyond_limit, none_within}
use Rattle.sb_report.proofs.script.read_up_to.Goals as goal

pub returns-in_err-number : goal.returns-in_err-number
returns-in_err-number c = c.from_residual.ensures ∙ none_within c.args.limit c.args.bytes.now (omega arith) c.in_err-number.ensures.value

pub returns-then-number-limit : goal.returns-then-number-limit
returns-then-number-limit c = within_limit c.args.limit c.in_ok-number.number c.args.bytes.now c.in_ok-number.ensures.value c.if-number-limit.true

pub returns-else-number-limit : goal.returns-else-number-limit
returns-else-number-limit c =
    beyond_limit c.args.limit c.in_ok-number.number c.args.bytes.now (omega arith) c.in_ok-number.ensures.value (omega (arith, c.if-number-limit.false))
