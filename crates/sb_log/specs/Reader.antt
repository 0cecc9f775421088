-- A reader of a log: the records that are still to come.
use Rattle.std.specs.Prelude.{◌≡◌, ℕ, nat_lt, List, [], ◌∷◌, length, Option, Some, None, Result, Ok, Err, if◌then◌else◌}
use Rattle.sb_types.specs.declared.values.LogRecord.{LogRecord}
use Rattle.sb_check.specs.CheckedView.{checked_of}
use Rattle.sb_check.specs.Log.{LogFault, Logged, bad_line, logged_of, records_of, too_many}
use Rattle.sb_check.specs.Programs.{CheckedProgram}
use Rattle.sb_check.specs.declared.log.LogError.{LogError}
use Rattle.sb_check.specs.declared.log.LogError.TheVariants as log_error
use Rattle.sb_log.specs.PieceLines.{lines_behind}
use Rattle.sb_log.specs.declared.reader.Records.{Records}

-- no more records than there is room for
abbrev pub within_room : ℕ → Result (List Logged) LogFault → Result (List Logged) LogFault
within_room room (Err fault) = Err fault
within_room room (Ok all) = if nat_lt room (length all) then Err too_many else Ok all

-- the program whose log is read
abbrev pub program_of : Records → CheckedProgram
program_of reader = checked_of reader.program.now

-- the records that are still to come, or what is wrong with the log
abbrev pub left_of : Records → Result (List Logged) LogFault
left_of reader = within_room reader.room (records_of (program_of reader) (lines_behind reader.before reader.lines))

-- how many lines are still to be read
abbrev pub lines_left : Records → ℕ
lines_left reader = length reader.lines

-- a record in front of those that are still to come
abbrev pub in_front : Logged → Result (List Logged) LogFault → Result (List Logged) LogFault
in_front first (Err fault) = Err fault
in_front first (Ok others) = Ok (first ∷ others)

-- The first record that was to come, the end, or what is wrong with the log; want of memory is free.
abbrev pub GivesNext : Result (List Logged) LogFault → Result (List Logged) LogFault → Result (Option LogRecord) LogError → Type 0
GivesNext before now (Ok (Some logged)) = before ≡ in_front (logged_of logged) now
GivesNext before now (Ok None) = before ≡ Ok []
GivesNext before now (Err (log_error.Line number kind)) = before ≡ Err (bad_line number kind)
GivesNext before now (Err log_error.TooMany) = before ≡ Err too_many
GivesNext before now (Err log_error.NoMemory) = Unit {0}
