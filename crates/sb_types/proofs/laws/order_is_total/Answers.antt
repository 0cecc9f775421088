use Rattle.sb_types.specs.OrderLaws.{value_total}
use Rattle.sb_types.proofs.OrderEqual.{value_equal, value_cmp-same}
use Rattle.sb_types.proofs.laws.order_is_total.Goals as goal

pub returns : goal.returns
returns c = record { total = value_total; equal = λ v w. (value_equal v w, value_cmp-same v w) }
