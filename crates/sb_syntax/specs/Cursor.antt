-- What a cursor shows, and what it keeps ready.
use Rattle.std.specs.Prelude.{◌≡◌, ℕ, List, ◌∷◌}
use Rattle.sb_tokens.specs.Token.{Token}
use Rattle.sb_tokens.specs.Lexed.{Lexed, stopped, bad, IsEnd}
use Rattle.sb_tokens.specs.View.{token_view}
use Rattle.sb_syntax.specs.declared.cursor.Cursor.TheInside.{Inside}
use Rattle.sb_syntax.specs.declared.cursor.Next as rust
use Rattle.sb_syntax.specs.declared.cursor.Next.TheVariants as n
use Rattle.sb_syntax.specs.Reading.{Input}

-- the next token in front of those behind it
abbrev pub onto_next : rust.Next → List (ℕ × Token) → List (ℕ × Token)
onto_next (n.Token offset token) places = (offset, token_view token) ∷ places
onto_next n.End places = places
onto_next (n.Bad offset) places = places

abbrev pub input_of : Inside → Input
input_of c = record { places = onto_next c.next c.tokens.tokens; budget = record { room = c.room; ending = c.tokens.ending } }

-- behind the last token nothing is left
abbrev pub IsNext : rust.Next → Lexed → Type 0
IsNext (n.Token offset token) all = Unit {0}
IsNext n.End all = IsEnd all
IsNext (n.Bad offset) all = all ≡ stopped (bad offset)

abbrev pub IsReady : Inside → Type 0
IsReady c = IsNext c.next c.tokens
