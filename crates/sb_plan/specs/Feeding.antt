-- What a store is fed with.
use Rattle.std.specs.Prelude.{ℕ, List}
use Rattle.sb_types.specs.Text.{value_text}
use Rattle.sb_types.specs.Value.{Value}
use Rattle.sb_types.specs.ValView.{val_of}
use Rattle.sb_kind.specs.Monoids.{Monoid}
use Rattle.sb_kind.specs.Prepared.{prepared}
use Rattle.sb_kind.specs.declared.agg.Agg.{Agg}
use Rattle.sb_meaning.specs.Expression.{ev}
use Rattle.sb_plan.specs.Given.{fed}
use Rattle.sb_plan.specs.declared.making.Ending.{Ending}
use Rattle.sb_plan.specs.declared.making.Ending.TheVariants as ending

-- the text of a key and the element that come of a value
abbrev pub made_by : Ending → Monoid → Value → List ℕ × Agg
made_by ending.Pair m v = fed m v
made_by (ending.Split key value) m v = (value_text (ev key.now v), prepared m (val_of (ev value.now v)))
