-- What the answers of `parse` say.
use Rattle.std.specs.Prelude.{ℕ, List}
use Rattle.sb_grammar.specs.Program.{FirstFault}
use Rattle.sb_syntax.specs.declared.parsing.SyntaxError.{SyntaxError}
use Rattle.sb_syntax.specs.declared.parsing.SyntaxError.TheVariants.{At, NoMemory}

-- the first wrong token stands at the offset, for this reason; want of memory says nothing
abbrev pub Explains : List ℕ → SyntaxError → Type 0
Explains bytes (At offset why) = FirstFault bytes offset why
Explains bytes NoMemory = Unit {0}
