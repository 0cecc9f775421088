use Rattle.std.proofs.Common.{refl}
use Rattle.sb_types.proofs.OrderCases.{cmp-int, cmp-text, cmp-truth, cmp-pair, cmp-some, cmp-variants}
use Rattle.sb_types.proofs.laws.order_by_cases.Goals as goal

pub returns : goal.returns
returns c = record {
  int = cmp-int;
  text = cmp-text;
  truth = cmp-truth;
  pair = cmp-pair;
  none = λ v. refl;
  some = cmp-some;
  list = λ vs ws. refl;
  rec = λ vs ws. refl;
  parts = λ v w vs ws. refl;
  prefix = λ v vs. refl;
  variants = cmp-variants;
}
