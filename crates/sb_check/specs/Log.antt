-- The log: which lines are good, and the records that they say.
use Rattle.std.specs.Prelude.{◌≡◌, ℕ, suc, ◌+◌, ◌-◌, ◌==◌, nat_lt, nat_le, ℤ, Bool, true, false, codes, List, [], ◌∷◌, length, map, fold, max, Option, Some, None, Result, Ok, Err, option_map, if◌then◌else◌, bytes_eq}
use Rattle.std.specs.List.{list_all}
use Rattle.sb_text.specs.Columns.{columns_of}
use Rattle.sb_text.specs.Decimal.{integer}
use Rattle.sb_text.specs.Field.{field_text}
use Rattle.sb_text.specs.Lines.{Line, lines_of}
use Rattle.sb_types.specs.Value.{Value, int, text, truth}
use Rattle.sb_types.specs.ValueType.{ValueType, ints, texts, truths, pairs, options, lists, records, Fields, no_field, field}
use Rattle.sb_types.specs.ValView.{value_of}
use Rattle.sb_types.specs.declared.values.LogRecord.{LogRecord}
use Rattle.sb_batcher.specs.Batches.{Batching, batch_of}
use Rattle.sb_check.specs.declared.log.LineKind.{LineKind}
use Rattle.sb_check.specs.declared.log.LineKind.TheVariants.{TooLong, NoEnd, NoSource, BadTime, Early, FarBatch, FieldCount, BadField}
use Rattle.sb_check.specs.Declarations.{Source}
use Rattle.sb_check.specs.Names.{source_named}
use Rattle.sb_check.specs.Programs.{CheckedProgram}

-- the most bytes of a line, without its LF
abbrev pub most_line_bytes : ℕ
most_line_bytes = 16384

-- the greatest batch of a record
abbrev pub last_batch : ℕ
last_batch = 65535

abbrev pub most_records : ℕ
most_records = 1048576

-- a record: its place in the log from 0, the number of its source, its time in milliseconds, and its fields
pub record Logged : Type 0 where
  pub position : ℕ
  pub source : ℕ
  pub time : ℤ
  pub fields : List Value

abbrev pub logged_of : LogRecord → Logged
logged_of r = record {
  position = r.position;
  source = r.source;
  time = r.time;
  fields = map value_of r.fields;
}

-- ---- fields

-- the truth that a field spells
abbrev pub truth_in : List ℕ → Option Bool
truth_in bytes =
    if bytes_eq bytes (codes "true") then Some true
    else (if bytes_eq bytes (codes "false") then Some false else None)

-- the value that a field spells; the fields of a source are ints, texts and truths
abbrev pub value_in : ValueType → List ℕ → Option Value
value_in ints bytes = option_map int (integer bytes)
value_in texts bytes = option_map text (field_text bytes)
value_in truths bytes = option_map truth (truth_in bytes)
value_in (pairs a b) bytes = None
value_in (options a) bytes = None
value_in (lists a most) bytes = None
value_in (records fields) bytes = None

-- a field in front of the others; the first that isn't of its type is the bad one
abbrev pub onto_fields : ℕ → Option Value → Result (List Value) LineKind → Result (List Value) LineKind
onto_fields number None others = Err (BadField number)
onto_fields number (Some value) (Err kind) = Err kind
onto_fields number (Some value) (Ok values) = Ok (value ∷ values)

-- the fields that stand in these columns, numbered from `number` on
abbrev pub fields_from : ℕ → Fields → List (List ℕ) → Result (List Value) LineKind
fields_from number no_field columns = Ok []
fields_from number (field name t fields) [] = Err FieldCount
fields_from number (field name t fields) (column ∷ columns) =
    onto_fields number (value_in t column) (fields_from (number + 1) fields columns)

abbrev pub field_count : Fields → ℕ
field_count no_field = 0
field_count (field name t fields) = field_count fields + 1

-- as many columns as fields, and numbered from 1
abbrev pub fields_in : Fields → List (List ℕ) → Result (List Value) LineKind
fields_in fields columns =
    if length columns == field_count fields then fields_from 1 fields columns else Err FieldCount

-- ---- lines

abbrev pub with_fields : ℕ → ℕ → ℤ → Result (List Value) LineKind → Result Logged LineKind
with_fields position source time (Err kind) = Err kind
with_fields position source time (Ok fields) =
    Ok (record { position = position; source = source; time = time; fields = fields })

-- a record's batch is at most the last
abbrev pub in_batch : Option ℕ → Result Logged LineKind → Result Logged LineKind
in_batch None next = Err Early
in_batch (Some batch) next = if nat_lt last_batch batch then Err FarBatch else next

-- what stands behind the time
abbrev pub after_time : Batching → ℕ → ℕ × Source → List (List ℕ) → Option ℤ → Result Logged LineKind
after_time b position source columns None = Err BadTime
after_time b position source columns (Some time) =
    in_batch (batch_of b time) (with_fields position source.0 time (fields_in source.1.fields columns))

-- what stands behind the source's name
abbrev pub after_source : Batching → ℕ → List (List ℕ) → Option (ℕ × Source) → Result Logged LineKind
after_source b position columns None = Err NoSource
after_source b position [] (Some source) = Err BadTime
after_source b position (time ∷ columns) (Some source) =
    after_time b position source columns (integer time)

-- what a line's columns say
abbrev pub record_in : CheckedProgram → ℕ → List (List ℕ) → Result Logged LineKind
record_in c position [] = Err NoSource
record_in c position (name ∷ columns) =
    after_source c.batching position columns (source_named c.declared name)

-- the record that a line says, or the first thing that is wrong with it
abbrev pub record_of : CheckedProgram → Line → Result Logged LineKind
record_of c line =
    if nat_lt most_line_bytes (length line.bytes) then Err TooLong
    else (if line.ended then record_in c (line.number - 1) (columns_of line.bytes) else Err NoEnd)

-- ---- logs

-- what is wrong with a log: the first line that isn't good, or too many lines that all are
pub data LogFault : Type 0 where
  bad_line : ℕ → LineKind → LogFault
  too_many : LogFault

abbrev pub onto_records : ℕ → Result Logged LineKind → Result (List Logged) LogFault → Result (List Logged) LogFault
onto_records number (Err kind) others = Err (bad_line number kind)
onto_records number (Ok first) (Err fault) = Err fault
onto_records number (Ok first) (Ok others) = Ok (first ∷ others)

-- the records of these lines, or the first bad line
abbrev pub records_of : CheckedProgram → List Line → Result (List Logged) LogFault
records_of c [] = Ok []
records_of c (line ∷ lines) = onto_records line.number (record_of c line) (records_of c lines)

abbrev pub within_limit : Result (List Logged) LogFault → Result (List Logged) LogFault
within_limit (Err fault) = Err fault
within_limit (Ok all) = if nat_lt most_records (length all) then Err too_many else Ok all

-- the records of a text, which is an empty log where it is empty, or what is wrong with it
abbrev pub log_of : CheckedProgram → List ℕ → Result (List Logged) LogFault
log_of c bytes = within_limit (records_of c (lines_of bytes))

-- ---- the batches of a log

-- a batch that isn't above the last
abbrev pub is_batch : Option ℕ → Bool
is_batch None = false
is_batch (Some batch) = nat_le batch last_batch

-- every record is in such a batch
abbrev pub are_in_batches : Batching → List Logged → Bool
are_in_batches b = list_all (λ r. is_batch (batch_of b r.time))

-- the number of a batch and of those before it
abbrev pub up_to : Option ℕ → ℕ
up_to None = 0
up_to (Some batch) = batch + 1

-- one more than the greatest batch, and 0 for the empty log
abbrev pub batch_count : Batching → List Logged → ℕ
batch_count b = fold (λ most r. max most (up_to (batch_of b r.time))) 0

-- the records have the places from one on
abbrev pub HavePlaces : ℕ → List Logged → Type 0
HavePlaces i [] = Unit {0}
HavePlaces i (r ∷ log) = (r.position ≡ i) × HavePlaces (suc i) log
