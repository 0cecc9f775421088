-- The value that `it` is.
use Rattle.sb_types.specs.Value.{Value, rec}
use Rattle.sb_types.specs.ValView.{value_of, view_values}
use Rattle.sb_meaning.specs.declared.it.It.{It}
use Rattle.sb_meaning.specs.declared.it.It.TheVariants as it

abbrev pub it_value : It → Value
it_value (it.Value v) = value_of v.now
it_value (it.Fields fields) = rec (view_values fields.now)
