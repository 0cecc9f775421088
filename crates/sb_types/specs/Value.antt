-- Values as definitions see them: the plain mirror of `Val`.
use Rattle.std.specs.Prelude.{ℕ, ℤ, Bool, List, [], ◌∷◌}

mutual
  -- one constructor for each variant, and two for an option
  pub data Value : Type 0 where
    int : ℤ → Value
    text : List ℕ → Value
    truth : Bool → Value
    pair : Value → Value → Value
    none : Value
    some : Value → Value
    list : Values → Value
    rec : Values → Value

  -- the parts of a list or a record
  pub data Values : Type 0 where
    end : Values
    more : Value → Values → Values

abbrev pub values_of : List Value → Values
values_of [] = end
values_of (v ∷ vs) = more v (values_of vs)

abbrev pub items_of : Values → List Value
items_of end = []
items_of (more v vs) = v ∷ items_of vs
