use Rattle.std.proofs.Common.{◌∙◌, ap}
use Rattle.sb_text.specs.Decimal.{integer}
use Rattle.sb_text.proofs.Decimals.{integer-spelled, integer-signed_decimal}
use Rattle.sb_text.proofs.decimal.read_i64.Goals as goal

pub returns-clause-spelled : goal.returns-clause-spelled
returns-clause-spelled c = rw c.read_integer.ensures (integer-spelled c.args.bytes.now)

pub returns-clause-every : goal.returns-clause-every
returns-clause-every c = λ n fits is. c.read_integer.ensures ∙ (ap integer is ∙ integer-signed_decimal n fits)
