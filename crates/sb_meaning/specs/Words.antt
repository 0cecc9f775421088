-- The words of a text, and texts in lower case.
use Rattle.std.specs.Prelude.{ℕ, Bool, true, false, ◌==◌, ◌||◌, List, [], ◌∷◌, map, filter, take, Option, Some, None, if◌then◌else◌}
use Rattle.std.specs.Borrow.{Bor}
use Rattle.std.specs.Char.{to_ascii_lowercase}
use Rattle.sb_text.specs.Columns.{onto_piece}

-- tab, LF, CR and space
abbrev pub is_blank : ℕ → Bool
is_blank byte = byte == 9 || byte == 10 || byte == 13 || byte == 32

-- what stands between the blanks, one piece more than there are of these
abbrev pub pieces : List ℕ → List (List ℕ)
pieces [] = [] ∷ []
pieces (byte ∷ bytes) = if is_blank byte then [] ∷ pieces bytes else onto_piece byte (pieces bytes)

abbrev pub is_filled : List ℕ → Bool
is_filled [] = false
is_filled (byte ∷ bytes) = true

-- the pieces of what follows a blank, and none at the end
abbrev pub pieces_left : Option (Bor (List ℕ)) → List (List ℕ)
pieces_left None = []
pieces_left (Some rest) = pieces rest.now

-- the first pieces that aren't empty, at most so many
abbrev pub words_of : ℕ → List ℕ → List (List ℕ)
words_of most bytes = take most (filter is_filled (pieces bytes))

-- A to Z become a to z, and all other bytes stay
abbrev pub lowered : List ℕ → List ℕ
lowered = map to_ascii_lowercase
