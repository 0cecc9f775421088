use Rattle.sb_types.proofs.Keys.{key_is_value, key_without_lists, value_is_key}
use Rattle.sb_types.proofs.laws.keys_are_values.Goals as goal

pub returns : goal.returns
returns c = λ t v. ((λ key. (key_is_value t v key, key_without_lists t v key)), λ both. value_is_key t v both.0 both.1)
