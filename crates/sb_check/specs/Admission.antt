-- Which checked programs may run online: those whose sums don't depend on the order of what is added.
use Rattle.std.specs.Prelude.{ℕ, ◌+◌, Bool, List, [], ◌∷◌, Option, Some, None, Result, Ok, Err, if◌then◌else◌}
use Rattle.std.specs.List.{list_all}
use Rattle.sb_kind.specs.Monoids.{commutes}
use Rattle.sb_check.specs.declared.admission.AdmitError.{AdmitError}
use Rattle.sb_check.specs.declared.admission.AdmitError.TheVariants.{NotCommuting}
use Rattle.sb_check.specs.Declarations.{Store}
use Rattle.sb_check.specs.Programs.{CheckedProgram}

-- the first store that doesn't commute, the first of all having this number
abbrev pub first_ordered : ℕ → List Store → Option (ℕ × Store)
first_ordered number [] = None
first_ordered number (s ∷ stores) =
    if commutes s.monoid then first_ordered (number + 1) stores else Some (number, s)

-- the program where every store commutes, else the number and the name of the first that doesn't
abbrev pub admitted : CheckedProgram → Option (ℕ × Store) → Result CheckedProgram AdmitError
admitted c None = Ok c
admitted c (Some s) = Err (NotCommuting s.0 s.1.name)

abbrev pub admission_of : CheckedProgram → Result CheckedProgram AdmitError
admission_of c = admitted c (first_ordered 0 c.declared.stores)

abbrev pub all_commute : List Store → Bool
all_commute = list_all (λ s. commutes s.monoid)
