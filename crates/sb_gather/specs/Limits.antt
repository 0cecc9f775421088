-- The limit of a top, which clauses and definitions cite by name. The code has its own constant.
use Rattle.std.specs.Prelude.{ℕ}

-- how many items a top keeps at most
abbrev pub most_places : ℕ
most_places = 1024
