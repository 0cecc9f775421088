-- The tokens of a text.
use Rattle.std.specs.Prelude.{◌≡◌, ◌≢◌, false, ℕ, zero, suc, ◌+◌, ◌-◌, Bool, ◌||◌, ◌==◌, not, List, [], ◌∷◌, Option, Some, None, length, map, if◌then◌else◌}
use Rattle.std.specs.List.{prefix_len}
use Rattle.sb_tokens.specs.Front.{first_token}
use Rattle.sb_tokens.specs.Token.{Token, spelling}

-- where the tokens end: at the end of the text, which has this length, or at this offset, where no token begins or a
-- word, a number or a quoted text breaks its form
pub data Ending : Type 0 where
  ends : ℕ → Ending
  bad : ℕ → Ending

-- tokens with the offsets at which they begin, and where they end
pub record Lexed : Type 0 where
  pub tokens : List (ℕ × Token)
  pub ending : Ending

-- no more tokens
abbrev pub stopped : Ending → Lexed
stopped ending = record { tokens = []; ending = ending }

-- the text is at its end
abbrev pub IsEnd : Lexed → Type 0
IsEnd all = (offset : ℕ) × (all ≡ stopped (ends offset))

-- space, tab, LF and CR
abbrev pub is_blank : ℕ → Bool
is_blank b = b == 32 || (b == 9 || (b == 10 || b == 13))

-- a byte that ends no comment
abbrev pub is_in_comment : ℕ → Bool
is_in_comment b = not (b == 10)

-- a blank or a comment of so many bytes, a token, or none of them
pub data Piece : Type 0 where
  gap : ℕ → Piece
  piece : Token → Piece
  fault : Piece

abbrev pub piece_of_token : Option Token → Piece
piece_of_token None = fault
piece_of_token (Some token) = piece token

-- neither a blank nor a comment stands at the front
abbrev pub BeginsNoGap : List ℕ → Type 0
BeginsNoGap [] = Unit {0}
BeginsNoGap (b ∷ bytes) = (is_blank b ≡ false) × (b ≢ 35)

-- what stands at the front
abbrev pub first_piece : List ℕ → Piece
first_piece [] = fault
first_piece (b ∷ bytes) =
    if is_blank b then gap 1
    else (if b == 35 then gap (1 + prefix_len is_in_comment bytes)
    else piece_of_token (first_token (b ∷ bytes)))

-- a token in front of others
abbrev pub onto_tokens : ℕ × Token → Lexed → Lexed
onto_tokens first lexed = record { tokens = first ∷ lexed.tokens; ending = lexed.ending }

-- a piece at an offset in front of what stands behind it, which is told by the piece's number of bytes
abbrev pub onto_lexed : ℕ → Piece → (ℕ → Lexed) → Lexed
onto_lexed offset (gap count) behind = behind count
onto_lexed offset (piece token) behind = onto_tokens (offset, token) (behind (length (spelling token)))
onto_lexed offset fault behind = stopped (bad offset)

-- the tokens behind the next `skip` bytes, where the first of the bytes stands at `offset`
abbrev pub lexed_behind : ℕ → ℕ → List ℕ → Lexed
lexed_behind skip offset [] = stopped (ends offset)
lexed_behind zero offset (b ∷ bytes) = onto_lexed offset (first_piece (b ∷ bytes)) (λ count. lexed_behind (count - 1) (offset + 1) bytes)
lexed_behind (suc skip) offset (b ∷ bytes) = lexed_behind skip (offset + 1) bytes

-- the tokens of bytes that stand at an offset
abbrev pub lexed_from : ℕ → List ℕ → Lexed
lexed_from = lexed_behind zero

-- the tokens of a text
abbrev pub lexed : List ℕ → Lexed
lexed = lexed_from zero

-- the tokens without their offsets
abbrev pub tokens_of : Lexed → List Token
tokens_of all = map (λ place. place.1) all.tokens
