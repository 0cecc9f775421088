-- What a reader of a log answers.
use Rattle.std.specs.Prelude.{◌≡◌, ℕ, true, List, ◌++◌, map, Option, Some, None, Result, Ok, Err}
use Rattle.std.specs.Borrow.{Bor}
use Rattle.std.specs.declared.alloc.Global.{Global}
use Rattle.std.specs.declared.vec.Vec.{Vec}
use Rattle.sb_batcher.specs.Batches.{Batching, batch_of}
use Rattle.sb_types.specs.Value.{Value}
use Rattle.sb_types.specs.declared.values.LogRecord.{LogRecord}
use Rattle.sb_check.specs.Declarations.{Source, source_of}
use Rattle.sb_text.specs.Lines.{Line}
use Rattle.sb_check.specs.Programs.{CheckedProgram}
use Rattle.sb_check.specs.Log.{LogFault, Logged, bad_line, is_batch, logged_of, record_of, too_many}
use Rattle.sb_check.specs.declared.declarations.SourceDecl.{SourceDecl}
use Rattle.sb_check.specs.declared.log.LineKind.{LineKind}
use Rattle.sb_check.specs.declared.log.LogError.{LogError}
use Rattle.sb_check.specs.declared.log.LogError.TheVariants as log_error
use Rattle.sb_log.specs.declared.line_error.LineError.{LineError}
use Rattle.sb_log.specs.declared.line_error.LineError.TheVariants.{Bad, NoMemory}

-- what is read of a line is what it says, or the first thing that is wrong with it; want of memory is free
abbrev pub ReadsLine : {X Y : Type 0} → (X → Y) → Result Y LineKind → Result X LineError → Type 0
ReadsLine view said (Ok x) = said ≡ Ok (view x)
ReadsLine view said (Err (Bad kind)) = said ≡ Err kind
ReadsLine view said (Err NoMemory) = Unit {0}

-- what is read of a log is what it says, or what is wrong with it; want of memory is free
abbrev pub ReadsLog : {X Y : Type 0} → (X → Y) → Result Y LogFault → Result X LogError → Type 0
ReadsLog view said (Ok x) = said ≡ Ok (view x)
ReadsLog view said (Err (log_error.Line number kind)) = said ≡ Err (bad_line number kind)
ReadsLog view said (Err log_error.TooMany) = said ≡ Err too_many
ReadsLog view said (Err log_error.NoMemory) = Unit {0}

-- what is made of a log stands for its records, or it is told what is wrong with it; want of memory is free
abbrev pub GivesLog : {X : Type 0} → (List Logged → X → Type 0) → Result (List Logged) LogFault → Result X LogError → Type 0
GivesLog Stands said (Ok x) = (records : List Logged) × (said ≡ Ok records) × Stands records x
GivesLog Stands said (Err (log_error.Line number kind)) = said ≡ Err (bad_line number kind)
GivesLog Stands said (Err log_error.TooMany) = said ≡ Err too_many
GivesLog Stands said (Err log_error.NoMemory) = Unit {0}

-- values in front of what is read behind them
abbrev pub behind : List Value → Result (List Value) LineKind → Result (List Value) LineKind
behind values (Err kind) = Err kind
behind values (Ok others) = Ok (values ++ others)

-- the time of a record is in a batch that isn't above the last
abbrev pub InBatch : Batching → LogRecord → Type 0
InBatch b logged = is_batch (batch_of b logged.time) ≡ true

-- a source that was found, with its number
abbrev pub found_view : ℕ × Bor SourceDecl → ℕ × Source
found_view found = (found.0, source_of found.1.now)

abbrev pub records_view : Vec LogRecord Global → List Logged
records_view records = map logged_of records.items

-- records in front of those that are still to come
abbrev pub records_behind : List Logged → Result (List Logged) LogFault → Result (List Logged) LogFault
records_behind kept (Err fault) = Err fault
records_behind kept (Ok others) = Ok (kept ++ others)

-- ---- logs in pieces

-- what is read of a piece, and then of the rest: the first fault decides
abbrev pub onto_log : Result (List Logged) LogFault → Result (List Logged) LogFault → Result (List Logged) LogFault
onto_log (Err fault) rest = Err fault
onto_log (Ok records) rest = records_behind records rest

-- ---- lines of a log

-- the record that a line says, or what is wrong with it
abbrev pub SaysLine : CheckedProgram → Line → Result LogRecord LogError → Type 0
SaysLine c line (Ok logged) = record_of c line ≡ Ok (logged_of logged)
SaysLine c line (Err (log_error.Line number kind)) = (number ≡ line.number) × (record_of c line ≡ Err kind)
SaysLine c line (Err log_error.TooMany) = ⊥
SaysLine c line (Err log_error.NoMemory) = Unit {0}

abbrev pub fault_in : {X : Type 0} → Result X LogFault → Option LogFault
fault_in (Ok x) = None
fault_in (Err fault) = Some fault

-- the lines are good, or have this first bad one
abbrev pub AreGood : Result (List Logged) LogFault → Result (Unit {0}) LogError → Type 0
AreGood said (Ok done) = fault_in said ≡ None
AreGood said (Err (log_error.Line number kind)) = fault_in said ≡ Some (bad_line number kind)
AreGood said (Err log_error.TooMany) = ⊥
AreGood said (Err log_error.NoMemory) = Unit {0}
