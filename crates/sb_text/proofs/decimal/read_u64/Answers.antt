use Rattle.std.proofs.Common.{◌∙◌, ◌-◌, ◌^◌, ap, arith}
use Rattle.std.proofs.lemmas.Option.{IfSome_then}
use Rattle.sb_text.specs.Decimal.{natural}
use Rattle.sb_text.proofs.Decimals.{natural-spelled, natural-decimal}
use Rattle.sb_text.proofs.decimal.read_u64.Goals as goal

pub returns-clause-spelled : goal.returns-clause-spelled
returns-clause-spelled c =
    rw c.read_natural.ensures.value (IfSome_then (natural (2 ^ 64 - 1) c.args.bytes.now) (natural-spelled (2 ^ 64 - 1) c.args.bytes.now (omega arith)) (λ n is. is.0))

pub returns-clause-every : goal.returns-clause-every
returns-clause-every c = λ n small is.
    c.read_natural.ensures.value ∙ (ap (natural (2 ^ 64 - 1)) is ∙ natural-decimal (2 ^ 64 - 1) n small (omega arith))
