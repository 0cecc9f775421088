-- The texts of a transcript's lines.
use Rattle.std.specs.Prelude.{ℕ, ◌<◌, slice_get, List, [], ◌∷◌, ◌++◌, codes, decimal}
use Rattle.std.specs.Option.{option_map_or}
use Rattle.sb_check.specs.Declarations.{Declarations}
use Rattle.sb_text.specs.Ranges.{ranges_text}
use Rattle.sb_report.specs.Report.{row_text}
use Rattle.sb_report.specs.declared.line.TranscriptLine.{TranscriptLine}
use Rattle.sb_report.specs.declared.line.TranscriptLine.TheVariants.{Read, Asof, Expired, Flushed, Worked, Published, Floor, Refused, Drained, Row, End}

-- the name of a store by its number; of one that isn't there, no name
abbrev pub store_name : Declarations → ℕ → List ℕ
store_name d store = option_map_or (λ s. s.name) (slice_get d.stores store) []

-- the key of a store, and its value
abbrev pub value_text : List ℕ → List ℕ → List ℕ → List ℕ
value_text name key value = name ++ (32 ∷ key ++ 32 ∷ value)

-- the numbers and the chunks by which a value was read, and the LF
abbrev pub cover_text : ℕ → ℕ → List ℕ → List ℕ
cover_text published floor cover =
    codes " p=" ++ (decimal published ++ (codes " f=" ++ (decimal floor ++ (codes " c=" ++ (ranges_text cover ++ codes "\n")))))

-- the batch that was asked for and the floor above it, and the LF
abbrev pub asked_text : ℕ → ℕ → List ℕ
asked_text asked floor = codes " asked=" ++ (decimal asked ++ (codes " f=" ++ (decimal floor ++ codes "\n")))

-- the floor that was asked for and the published batches below it, and the LF
abbrev pub refused_text : ℕ → ℕ → List ℕ
refused_text asked published = codes " asked=" ++ (decimal asked ++ (codes " p=" ++ (decimal published ++ codes "\n")))

-- a line with its LF, by the names of the stores
abbrev pub line_text : (ℕ → List ℕ) → TranscriptLine → List ℕ
line_text name (Read store key value published floor cover) =
    (codes "read " ++ value_text (name store) key value) ++ cover_text published floor cover
line_text name (Asof batch store key value published floor cover) =
    (codes "asof " ++ (decimal batch ++ 32 ∷ value_text (name store) key value)) ++ cover_text published floor cover
line_text name (Expired store key asked floor) = (codes "expired " ++ (name store ++ 32 ∷ key)) ++ asked_text asked floor
line_text name (Flushed chunks) = codes "flushed " ++ (ranges_text chunks ++ codes "\n")
line_text name (Worked count chunks) = codes "worked " ++ (decimal count ++ (32 ∷ ranges_text chunks ++ codes "\n"))
line_text name (Published published) = codes "published " ++ (decimal published ++ codes "\n")
line_text name (Floor floor) = codes "floor " ++ (decimal floor ++ codes "\n")
line_text name (Refused asked published) = codes "refused expire" ++ refused_text asked published
line_text name Drained = codes "drained\n"
line_text name (Row store key value) = row_text (name store) key value
line_text name End = codes "end\n"

-- the line's store is one of so many
abbrev pub NamesStore : ℕ → TranscriptLine → Type 0
NamesStore stores (Read store key value published floor cover) = store < stores
NamesStore stores (Asof batch store key value published floor cover) = store < stores
NamesStore stores (Expired store key asked floor) = store < stores
NamesStore stores (Row store key value) = store < stores
NamesStore stores line = Unit {0}
