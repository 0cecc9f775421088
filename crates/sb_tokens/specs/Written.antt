-- Tokens as they stand in a text.
use Rattle.std.specs.Prelude.{◌≡◌, true, ℕ, List, [], ◌∷◌, ◌++◌, length, drop, take}
use Rattle.std.specs.List.{flat_map}
use Rattle.sb_tokens.specs.Token.{Token, spelling, IsSpelled}
use Rattle.sb_tokens.specs.Lexed.{Lexed, ends, is_blank, tokens_of}

-- these are the tokens of a text of that length
pub record AreTokens (all : Lexed) (these : List Token) (count : ℕ) : Type 0 where
  pub tokens : tokens_of all ≡ these
  pub ending : all.ending ≡ ends count

-- a token stands at its place in a text, in its one spelling
pub record StandsIn (bytes : List ℕ) (place : ℕ × Token) : Type 0 where
  pub is_spelled : IsSpelled place.1
  pub stands : take (length (spelling place.1)) (drop place.0 bytes) ≡ spelling place.1

-- tokens, each with the byte that is written behind it
abbrev pub Pieces : Type 0
Pieces = List (Token × ℕ)

abbrev pub written : Pieces → List ℕ
written = flat_map (λ p. spelling p.0 ++ p.1 ∷ [])

-- a token that can be spelled, with a blank behind it
pub record IsWritten (p : Token × ℕ) : Type 0 where
  pub is_spelled : IsSpelled p.0
  pub blank : is_blank p.1 ≡ true
