-- What an addition keeps, so that it can be taken back.
use Rattle.std.specs.Prelude.{◌≡◌, ℕ, ℤ, pos, Bool, true, false, ◌&&◌, List, [], take, Option}
use Rattle.sb_gather.specs.Maps.{ValueBack}
use Rattle.sb_gather.specs.Steps.{StepBack, StepsBack, TopStepBack}
use Rattle.sb_sketch.specs.Undone.{CellsBack, RegistersBack}
use Rattle.sb_sketch.specs.declared.undone.CellsUndone.{CellsUndone}
use Rattle.sb_sketch.specs.declared.undone.CellsUndone.TheVariants.{Counted}
use Rattle.sb_sketch.specs.declared.undone.RegistersUndone.{RegistersUndone}
use Rattle.sb_sketch.specs.declared.undone.RegistersUndone.TheVariants.{Nothing as NotRaised}
use Rattle.sb_kind.specs.Elements.{values_in, scored_in, cells_in, registers_in, left_in, right_in, entries_in}
use Rattle.sb_kind.specs.Monoids.{Monoid, sums, least, greatest, firsts, lasts, concats, sets, tops, sketches, registers, pairs, maps}
use Rattle.sb_kind.specs.declared.agg.Agg.{Agg, Sum, Concat, Set, Top, Cms, Hll, Pair, Map}
use Rattle.sb_types.specs.declared.values.Val.{Val}
use Rattle.sb_kind.specs.declared.undone.Undone.{Undone, out-Undone, Nothing}
use Rattle.sb_kind.specs.declared.undone.Undone.TheOpen as layer
use Rattle.sb_kind.specs.declared.undone.Undone.TheOpen.{Undone-F}

abbrev kept_layer : Undone-F Undone → Agg
kept_layer (layer.Kept a) = a
kept_layer other = Sum (pos 0)

-- the earlier element
abbrev pub kept_in : Undone → Agg
kept_in u = kept_layer (out-Undone u)

abbrev length_layer : Undone-F Undone → ℕ
length_layer (layer.Length n) = n
length_layer other = 0

-- the earlier number of values
abbrev pub length_in : Undone → ℕ
length_in u = length_layer (out-Undone u)

abbrev keys_layer : Undone-F Undone → List (ℕ × Option (Unit {0}))
keys_layer (layer.Keys steps) = steps
keys_layer other = []

-- the steps of a set
abbrev pub key_steps : Undone → List (ℕ × Option (Unit {0}))
key_steps u = keys_layer (out-Undone u)

abbrev items_layer : Undone-F Undone → List (ℕ × Option (ℤ × List ℕ))
items_layer (layer.Scored steps) = steps
items_layer other = []

-- the steps of a top
abbrev pub item_steps : Undone → List (ℕ × Option (ℤ × List ℕ))
item_steps u = items_layer (out-Undone u)

abbrev cells_undone_layer : Undone-F Undone → CellsUndone
cells_undone_layer (layer.Cells undone) = undone
cells_undone_layer other = Counted []

-- what takes a plus of count-min sketches back
abbrev pub cells_undone : Undone → CellsUndone
cells_undone u = cells_undone_layer (out-Undone u)

abbrev registers_undone_layer : Undone-F Undone → RegistersUndone
registers_undone_layer (layer.Registers undone) = undone
registers_undone_layer other = NotRaised

-- what takes a plus of HyperLogLogs back
abbrev pub registers_undone : Undone → RegistersUndone
registers_undone u = registers_undone_layer (out-Undone u)

abbrev first_layer : Undone-F Undone → Undone
first_layer (layer.Pair v w) = v
first_layer other = Nothing

abbrev second_layer : Undone-F Undone → Undone
second_layer (layer.Pair v w) = w
second_layer other = Nothing

-- what was kept for the parts of a pair
abbrev pub first_in : Undone → Undone
first_in u = first_layer (out-Undone u)

abbrev pub second_in : Undone → Undone
second_in u = second_layer (out-Undone u)

abbrev pub entries_layer : Undone-F Undone → List (ℕ × Option Undone)
entries_layer (layer.Map steps) = steps
entries_layer other = []

-- the steps of a map
abbrev pub entry_steps : Undone → List (ℕ × Option Undone)
entry_steps u = entries_layer (out-Undone u)

-- whether adding takes no memory, and so is never refused
abbrev pub is_infallible : Monoid → Bool
is_infallible sums = true
is_infallible least = true
is_infallible greatest = true
is_infallible firsts = true
is_infallible lasts = true
is_infallible concats = false
is_infallible sets = false
is_infallible (tops k) = false
is_infallible (sketches d w) = false
is_infallible (registers b) = false
is_infallible (pairs m n) = is_infallible m && is_infallible n
is_infallible (maps m) = false

-- what was kept takes the later element of a monoid back to the earlier one
abbrev pub TakesBack : Monoid → Undone → Agg → Agg → Type 0
TakesBack sums u later earlier = kept_in u ≡ earlier
TakesBack least u later earlier = kept_in u ≡ earlier
TakesBack greatest u later earlier = kept_in u ≡ earlier
TakesBack firsts u later earlier = later ≡ earlier
TakesBack lasts u later earlier = kept_in u ≡ earlier
TakesBack concats u later earlier = Concat (take (length_in u) (values_in later)) ≡ earlier
TakesBack sets u later earlier = (earlier ≡ Set (values_in earlier)) × StepsBack (StepBack (λ _ y x. y ≡ x)) (key_steps u) (values_in later) (values_in earlier)
TakesBack (tops k) u later earlier = (earlier ≡ Top (scored_in earlier)) × StepsBack TopStepBack (item_steps u) (scored_in later) (scored_in earlier)
TakesBack (sketches d w) u later earlier = (earlier ≡ Cms (cells_in earlier)) × CellsBack (cells_undone u) (cells_in later) (cells_in earlier)
TakesBack (registers b) u later earlier = (earlier ≡ Hll (registers_in earlier)) × RegistersBack (registers_undone u) (registers_in later) (registers_in earlier)
TakesBack (pairs m n) u later earlier =
    (later ≡ Pair (left_in later) (right_in later)) × (earlier ≡ Pair (left_in earlier) (right_in earlier))
    × TakesBack m (first_in u) (left_in later) (left_in earlier) × TakesBack n (second_in u) (right_in later) (right_in earlier)
TakesBack (maps m) u later earlier =
    (earlier ≡ Map (entries_in earlier)) × StepsBack (StepBack (ValueBack (TakesBack m))) (entry_steps u) (entries_in later) (entries_in earlier)

-- the steps take the later entries of a map back to the earlier ones, where the parts are elements of the monoid
abbrev pub StepBackBy : Monoid → ℕ × Option Undone → List (Val × Agg) → List (Val × Agg) → Type 0
StepBackBy m = StepBack (ValueBack (TakesBack m))

abbrev pub StepsBackBy : Monoid → List (ℕ × Option Undone) → List (Val × Agg) → List (Val × Agg) → Type 0
StepsBackBy m = StepsBack (StepBack (ValueBack (TakesBack m)))
