-- The limits of a script, which definitions cite by name. The code has its own constants.
use Rattle.std.specs.Prelude.{ℕ}

abbrev pub most_script_lines : ℕ
most_script_lines = 65536

-- the greatest number that a line of a script says
abbrev pub most_asked : ℕ
most_asked = 65536
