use Rattle.std.proofs.Common.{◌∙◌, sym, ap}
use Rattle.sb_meaning.proofs.Views.{value_or, lent_value, nth_at}
use Rattle.sb_meaning.proofs.parts.nth.Goals as goal

pub returns : goal.returns
returns c = lent_value c.get.result ∙ (ap value_or c.get.ensures.value ∙ sym (nth_at c.args.values.now c.args.place))
