-- For callers: what holds of the tokens of a text.
use Rattle.std.proofs.Common.{ℕ, List, [], ◌∷◌, refl, map, length}
use Rattle.std.specs.List.{AllByRecursion}
use Rattle.sb_tokens.specs.Token.{Token, IsSpelled}
use Rattle.sb_tokens.specs.Lexed.{lexed, tokens_of}
use Rattle.sb_tokens.specs.Written.{StandsIn, Pieces, written, IsWritten, AreTokens}
use Rattle.sb_tokens.proofs.Rereading.{written_whole}
use Rattle.sb_tokens.proofs.Standing.{standing_behind}

are_spelled : (bytes : List ℕ) (places : List (ℕ × Token)) → AllByRecursion (StandsIn bytes) places → AllByRecursion IsSpelled (map (λ place. place.1) places)
are_spelled bytes [] all = tt
are_spelled bytes (place ∷ places) all = (all.0.is_spelled, are_spelled bytes places all.1)

-- the tokens of a text can be spelled
pub lexed_are_spelled : (bytes : List ℕ) → AllByRecursion IsSpelled (tokens_of (lexed bytes))
lexed_are_spelled bytes = are_spelled bytes (lexed bytes).tokens (standing_behind [] bytes 0 0 refl)

-- the tokens of what is written are those that were written
pub lexed-written : (pieces : Pieces) → AllByRecursion IsWritten pieces → AreTokens (lexed (written pieces)) (map (λ p. p.0) pieces) (length (written pieces))
lexed-written pieces all = written_whole (written pieces) pieces all refl
