use Rattle.sb_types.proofs.Keys.{same_key}
use Rattle.sb_types.proofs.laws.keys_have_own_texts.Goals as goal

pub returns : goal.returns
returns c = same_key
