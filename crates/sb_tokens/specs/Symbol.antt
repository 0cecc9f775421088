-- The symbols and how they are written.
use Rattle.std.specs.Prelude.{ℕ, List, [], ◌∷◌, codes}
use Rattle.sb_tokens.specs.declared.symbol.Symbol.{Symbol}
use Rattle.sb_tokens.specs.declared.symbol.Symbol.TheVariants as s

abbrev pub symbol_text : Symbol → List ℕ
symbol_text s.OpenParen = codes "("
symbol_text s.CloseParen = codes ")"
symbol_text s.OpenBracket = codes "["
symbol_text s.CloseBracket = codes "]"
symbol_text s.Comma = codes ","
symbol_text s.Colon = codes ":"
symbol_text s.Dot = codes "."
symbol_text s.Assign = codes "="
symbol_text s.Equal = codes "=="
symbol_text s.Unequal = codes "!="
symbol_text s.Less = codes "<"
symbol_text s.AtMost = codes "<="
symbol_text s.Greater = codes ">"
symbol_text s.AtLeast = codes ">="
symbol_text s.Plus = codes "+"
symbol_text s.Minus = codes "-"
symbol_text s.Star = codes "*"
symbol_text s.Slash = codes "/"
symbol_text s.Percent = codes "%"
symbol_text s.Bar = codes "|"
symbol_text s.Arrow = codes "->"

-- the longer ones first
abbrev pub symbols : List Symbol
symbols = s.Equal ∷ s.Unequal ∷ s.AtMost ∷ s.AtLeast ∷ s.Arrow ∷ s.OpenParen ∷ s.CloseParen ∷ s.OpenBracket ∷ s.CloseBracket ∷ s.Comma ∷ s.Colon ∷ s.Dot ∷ s.Assign ∷ s.Less ∷ s.Greater ∷ s.Plus ∷ s.Minus ∷ s.Star ∷ s.Slash ∷ s.Percent ∷ s.Bar ∷ []
