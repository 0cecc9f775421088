use Rattle.std.proofs.Common.{◌+◌, ◌∙◌, ap, sym}
use Rattle.sb_text.proofs.Splits.{length-pieces}
use Rattle.sb_text.proofs.columns.count_columns.Goals as goal

pub returns : goal.returns
returns c = ap (λ n. n + 1) c.count_separators.ensures.count ∙ sym (length-pieces c.args.separator c.args.line.now)
