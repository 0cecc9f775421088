-- The lines of a script, and what they ask.
use Rattle.std.specs.Prelude.{◌≡◌, ℕ, ◌<◌, Bool, ◌&&◌, nat_le, is_some, codes, List, [], ◌∷◌, Option, Some, None, Result, Ok, Err, option_map, if◌then◌else◌}
use Rattle.std.specs.Str.{bytes_eq}
use Rattle.std.specs.declared.vec.Vec.{Vec}
use Rattle.std.specs.declared.alloc.Global.{Global}
use Rattle.sb_text.specs.Columns.{pieces}
use Rattle.sb_text.specs.Decimal.{natural}
use Rattle.sb_text.specs.Lines.{Line, lines_of}
use Rattle.sb_types.specs.Read.{value_read}
use Rattle.sb_types.specs.ValueType.{ValueType}
use Rattle.sb_check.specs.Declarations.{Declarations, Store}
use Rattle.sb_check.specs.Names.{store_named}
use Rattle.sb_feed.specs.Limits.{last_batch}
use Rattle.sb_report.specs.Limits.{most_script_lines, most_asked}
use Rattle.sb_report.specs.declared.script.Ask.{Ask}
use Rattle.sb_report.specs.declared.script.Ask.TheVariants.{Read, Asof, Look, Work, Publish, Expire}
use Rattle.sb_report.specs.declared.script.ScriptError.{ScriptError}
use Rattle.sb_report.specs.declared.script.ScriptError.TheVariants.{BadLine, NoMemory}

-- the bytes are the text of a value of this type
abbrev pub is_text_of : ValueType → List ℕ → Bool
is_text_of t bytes = is_some (value_read t bytes)

-- a key of a store, where it is the text of one: the store's number and the text
abbrev pub keyed_at : List ℕ → Option (ℕ × Store) → Option (ℕ × List ℕ)
keyed_at key None = None
keyed_at key (Some s) = if is_text_of s.1.key key then Some (s.0, key) else None

-- STORE KEY
abbrev pub key_in : Declarations → List (List ℕ) → Option (ℕ × List ℕ)
key_in d (name ∷ key ∷ []) = keyed_at key (store_named d name)
key_in d words = None

-- what stands behind `read`: STORE KEY
abbrev pub read_in : Declarations → List (List ℕ) → Option Ask
read_in d words = option_map (λ k. Read k.0 k.1) (key_in d words)

-- what stands behind `asof`: BATCH STORE KEY, with a batch up to 65,535
abbrev pub asof_at : Option ℕ → Option (ℕ × List ℕ) → Option Ask
asof_at None key = None
asof_at (Some batch) key = option_map (λ k. Asof batch k.0 k.1) key

abbrev pub asof_in : Declarations → List (List ℕ) → Option Ask
asof_in d [] = None
asof_in d (batch ∷ words) = asof_at (natural last_batch batch) (key_in d words)

-- what stands behind `look`: nothing
abbrev pub look_in : List (List ℕ) → Option Ask
look_in [] = Some Look
look_in (word ∷ words) = None

-- what stands behind `work`, `publish` and `expire`: a number up to 65,536
abbrev pub number_in : (ℕ → Ask) → List (List ℕ) → Option Ask
number_in ask (n ∷ []) = option_map ask (natural most_asked n)
number_in ask words = None

-- what these words ask of the stores
abbrev pub ask_in : Declarations → List (List ℕ) → Option Ask
ask_in d [] = None
ask_in d (word ∷ words) =
    if bytes_eq word (codes "read") then read_in d words
    else (if bytes_eq word (codes "asof") then asof_in d words
    else (if bytes_eq word (codes "look") then look_in words
    else (if bytes_eq word (codes "work") then number_in Work words
    else (if bytes_eq word (codes "publish") then number_in Publish words
    else (if bytes_eq word (codes "expire") then number_in Expire words else None)))))

-- What a line asks. Its words stand between single blanks. A line that nothing ends, and each behind the 65,536th, asks nothing.
abbrev pub ask_of : Declarations → Line → Option Ask
ask_of d line = if line.ended && nat_le line.number most_script_lines then ask_in d (pieces 32 line.bytes) else None

-- an ask in front of others; a line without one is the bad line
abbrev pub onto_asks : ℕ → Option Ask → Result (List Ask) ℕ → Result (List Ask) ℕ
onto_asks number None others = Err number
onto_asks number (Some ask) (Err line) = Err line
onto_asks number (Some ask) (Ok asks) = Ok (ask ∷ asks)

-- the asks of these lines, or the number of the first line that asks nothing
abbrev pub asks_of : Declarations → List Line → Result (List Ask) ℕ
asks_of d [] = Ok []
asks_of d (line ∷ lines) = onto_asks line.number (ask_of d line) (asks_of d lines)

-- the asks of a script for the stores that are declared, or the number of its first bad line
abbrev pub script_of : Declarations → List ℕ → Result (List Ask) ℕ
script_of d bytes = asks_of d (lines_of bytes)

-- the ask's store is one of so many
abbrev pub AsksOf : ℕ → Ask → Type 0
AsksOf stores (Read store key) = store < stores
AsksOf stores (Asof batch store key) = store < stores
AsksOf stores Look = Unit {0}
AsksOf stores (Work most) = Unit {0}
AsksOf stores (Publish upto) = Unit {0}
AsksOf stores (Expire floor) = Unit {0}

-- what is read of a script is what it says, or its first bad line
abbrev pub ReadsScript : Result (List Ask) ℕ → Result (Vec Ask Global) ScriptError → Type 0
ReadsScript said (Ok asks) = said ≡ Ok asks.items
ReadsScript said (Err (BadLine line)) = said ≡ Err line
ReadsScript said (Err NoMemory) = Unit {0}
