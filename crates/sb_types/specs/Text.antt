-- The text of a value.
use Rattle.std.specs.Prelude.{ℕ, true, false, codes, List, [], ◌++◌}
use Rattle.std.specs.Fmt.{signed_decimal}
use Rattle.sb_text.specs.Escape.{escaped}
use Rattle.sb_types.specs.Value.{Value, Values, int, text, truth, pair, none, some, list, rec, end, more}

abbrev mutual
  pub value_text : Value → List ℕ
  value_text (int n) = signed_decimal n
  value_text (text t) = escaped t
  value_text (truth true) = codes "true"
  value_text (truth false) = codes "false"
  value_text (pair v w) = codes "(" ++ value_text v ++ codes "," ++ value_text w ++ codes ")"
  value_text none = codes "~"
  value_text (some v) = codes "+" ++ value_text v
  value_text (list vs) = codes "[" ++ parts_text vs ++ codes "]"
  value_text (rec vs) = codes "{" ++ parts_text vs ++ codes "}"

  -- the texts of parts, with a comma before each but the first
  pub parts_text : Values → List ℕ
  parts_text end = []
  parts_text (more v vs) = value_text v ++ further_text vs

  pub further_text : Values → List ℕ
  further_text end = []
  further_text (more v vs) = codes "," ++ value_text v ++ further_text vs
