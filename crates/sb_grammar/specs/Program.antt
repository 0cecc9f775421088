-- Programs and their tokens, the limits, and the first wrong token.
use Rattle.std.specs.Prelude.{◌≡◌, ◌≢◌, ◌≤◌, ◌+◌, ℕ, List, [], ◌∷◌, ◌++◌, map, length}
use Rattle.std.specs.List.{AllByRecursion}
use Rattle.sb_tokens.specs.Token.{Token}
use Rattle.sb_tokens.specs.Lexed.{Lexed, Ending, ends, bad, lexed}
use Rattle.sb_grammar.specs.declared.code.Code.{Code}
use Rattle.sb_grammar.specs.declared.code.Code.TheVariants as code
use Rattle.sb_grammar.specs.declared.programs.Program.{Program}
use Rattle.sb_grammar.specs.declared.programs.Statement.{Statement}
use Rattle.sb_grammar.specs.Grammar.{Derives, batch, statement}

-- one list of tokens after the other
abbrev pub joined : List (List Token) → List Token
joined [] = []
joined (ts ∷ tss) = ts ++ joined tss

-- the statements have these tokens, a list for each
abbrev pub StatementsAre : List Statement → List (List Token) → Type 0
StatementsAre [] [] = Unit {0}
StatementsAre (a ∷ as') (ts ∷ tss) = Derives statement a (ts ++ joined tss) (joined tss) × StatementsAre as' tss
StatementsAre _ _ = ⊥

-- the program has these tokens, a list for each statement, and the first for the batch head, which is statement 1
abbrev pub IsProgram : Program → List (List Token) → Type 0
IsProgram p [] = ⊥
IsProgram p (ts ∷ tss) = Derives batch (p.length, (p.minus, p.from)) (ts ++ joined tss) (joined tss) × StatementsAre p.statements tss

-- as many tokens as a statement may have
abbrev pub IsShort : List Token → Type 0
IsShort ts = length ts ≤ 256

abbrev pub tokens_at : List (ℕ × Token) → List Token
tokens_at places = map (λ place. place.1) places

-- the text has no bad token
abbrev pub IsWhole : Ending → Type 0
IsWhole (ends _) = Unit {0}
IsWhole (bad _) = ⊥

-- the tokens are the program's, within the limits
pub record IsTextIn (p : Program) (text : Lexed) : Type 0 where
  pub statements : List (List Token)
  pub is_program : IsProgram p statements
  pub tokens : tokens_at text.tokens ≡ joined statements
  pub is_whole : IsWhole text.ending
  pub short : AllByRecursion IsShort statements
  pub few : length statements ≤ 256

-- the text is one of the program
abbrev pub IsTextOf : Program → List ℕ → Type 0
IsTextOf p bytes = IsTextIn p (lexed bytes)

-- how many statements have begun
abbrev pub begun : List (List Token) → List Token → ℕ
begun whole [] = length whole
begun whole (_ ∷ _) = length whole + 1

-- The tokens begin a program, within the limits: whole statements, and a part of one. The statement can go on with
-- these others.
pub record Begins (ts others : List Token) : Type 0 where
  pub program : Program
  pub whole : List (List Token)
  pub part : List Token
  pub behind : List (List Token)
  pub is_program : IsProgram program (whole ++ (part ++ others) ∷ behind)
  pub tokens : ts ≡ joined whole ++ part
  pub short : AllByRecursion IsShort whole
  pub short_part : IsShort part
  pub few : begun whole part ≤ 256

-- no program begins with these
abbrev pub BeginNone : List Token → Type 0
BeginNone ts = (p : Program) (statements : List (List Token)) (after : List Token) → IsProgram p statements → joined statements ≢ ts ++ after

-- no program has exactly these
abbrev pub AreNone : List Token → Type 0
AreNone ts = (p : Program) (statements : List (List Token)) → IsProgram p statements → joined statements ≢ ts

-- why the next token is wrong, or no token is next
abbrev pub IsFault : Code → (size offset : ℕ) (ts others : List Token) → Begins ts others → List (ℕ × Token) → Ending → Type 0
IsFault code.BadToken size offset ts others b [] ending = ending ≡ bad offset
IsFault code.End size offset ts others b [] ending = IsWhole ending × (offset ≡ size) × AreNone ts
IsFault code.Unexpected size offset ts others b (place ∷ _) ending = (offset ≡ place.0) × BeginNone (ts ++ place.1 ∷ [])
IsFault code.Long size offset ts others b (place ∷ _) ending = (offset ≡ place.0) × (length b.part ≡ 256) × (after : List Token) × (others ≡ place.1 ∷ after)
IsFault code.Many size offset ts others b (place ∷ _) ending = (offset ≡ place.0) × (b.part ≡ []) × (length b.whole ≡ 256) × (after : List Token) × (others ≡ place.1 ∷ after)
IsFault _ size offset ts others b _ ending = ⊥

-- The first wrong token of a text of this size, at this offset: those before it begin a program within the limits.
pub record FaultIn (text : Lexed) (size offset : ℕ) (why : Code) : Type 0 where
  pub before : List (ℕ × Token)
  pub rest : List (ℕ × Token)
  pub split : text.tokens ≡ before ++ rest
  pub others : List Token
  pub begins : Begins (tokens_at before) others
  pub here : IsFault why size offset (tokens_at before) others begins rest text.ending

abbrev pub FirstFault : List ℕ → ℕ → Code → Type 0
FirstFault bytes = FaultIn (lexed bytes) (length bytes)
