use Rattle.sb_text.proofs.RangeReads.{cut_found}
use Rattle.sb_text.proofs.range_texts.split_range.Goals as goal

pub returns : goal.returns
returns c = cut_found c.args.text.now c.split_once.result c.split_once.ensures
