-- How tokens are printed.
use Rattle.std.specs.Prelude.{ℕ, codes, List, [], ◌∷◌, ◌++◌}
use Rattle.sb_tokens.specs.Token.{Token, spelling}

-- the tokens with one space between, and LF at the end
abbrev pub line : List Token → List ℕ
line [] = []
line (t ∷ []) = spelling t ++ codes "\n"
line (t ∷ ts) = spelling t ++ (codes " " ++ line ts)

-- a line for each statement
abbrev pub printed : List (List Token) → List ℕ
printed [] = []
printed (ts ∷ tss) = line ts ++ printed tss
