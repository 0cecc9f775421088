-- Refusals of inputs: the cause of each, its status, and its line.
use Rattle.std.specs.Prelude.{ℕ, List, ◌++◌, codes, decimal}
use Rattle.sb_grammar.specs.declared.code.Code.{Code}
use Rattle.sb_grammar.specs.declared.code.Code.TheVariants as code
use Rattle.sb_check.specs.declared.log.LineKind.{LineKind}
use Rattle.sb_check.specs.declared.log.LineKind.TheVariants as kind
use Rattle.sb_load.specs.Commands.{Step, program, order, services, log, chunks, script}
use Rattle.sb_load.specs.declared.refusal.CheckKind.{CheckKind}
use Rattle.sb_load.specs.declared.refusal.CheckKind.TheVariants as check
use Rattle.sb_load.specs.declared.refusal.Refusal.{Refusal}
use Rattle.sb_load.specs.declared.refusal.Refusal.TheVariants as refused
use Rattle.sb_load.specs.declared.refusal.Which.{Which}
use Rattle.sb_load.specs.declared.refusal.Which.TheVariants as which

-- the shelf failed at a file; memory was wanted; a step doesn't accept what it reads
pub data Cause : Type 0 where
  shelf : Which → Cause
  memory : Cause
  input : Step → Cause

abbrev pub cause_of : Refusal → Cause
cause_of (refused.Shelf file) = shelf file
cause_of refused.NoMemory = memory
cause_of refused.ProgramLonger = input program
cause_of (refused.Syntax offset why) = input program
cause_of (refused.Check statement why) = input program
cause_of (refused.Order store) = input order
cause_of refused.ServiceUnknown = input services
cause_of (refused.ServiceMissing name) = input services
cause_of (refused.ServiceLonger name) = input services
cause_of (refused.ServiceBad name line) = input services
cause_of (refused.ServiceTwice name line first) = input services
cause_of refused.LogLonger = input log
cause_of (refused.LogLine line why) = input log
cause_of refused.LogTooMany = input log
cause_of refused.LogChunks = input chunks
cause_of refused.ScriptLonger = input script
cause_of (refused.ScriptLine line) = input script

abbrev pub status_of : Cause → ℕ
status_of (shelf file) = 3
status_of memory = 5
status_of (input program) = 6
status_of (input order) = 6
status_of (input services) = 9
status_of (input log) = 7
status_of (input chunks) = 7
status_of (input script) = 8

-- the name of a file in an error line
abbrev pub file_text : Which → List ℕ
file_text which.Program = codes "program"
file_text which.Log = codes "log"
file_text which.Script = codes "script"
file_text (which.Service name) = codes "service " ++ name

abbrev pub code_text : Code → List ℕ
code_text code.BadToken = codes "BadToken"
code_text code.Unexpected = codes "Unexpected"
code_text code.End = codes "End"
code_text code.Long = codes "Long"
code_text code.Many = codes "Many"

abbrev pub check_text : CheckKind → List ℕ
check_text check.Unknown = codes "Unknown"
check_text check.Twice = codes "Twice"
check_text check.Mistyped = codes "Mistyped"
check_text check.TooLarge = codes "TooLarge"
check_text check.TooWide = codes "TooWide"
check_text check.NotAKey = codes "NotAKey"

-- what is wrong with a line; fields count from 1
abbrev pub kind_text : LineKind → List ℕ
kind_text kind.TooLong = codes "TooLong"
kind_text kind.NoEnd = codes "NoEnd"
kind_text kind.NoSource = codes "NoSource"
kind_text kind.BadTime = codes "BadTime"
kind_text kind.Early = codes "Early"
kind_text kind.FarBatch = codes "FarBatch"
kind_text kind.FieldCount = codes "FieldCount"
kind_text (kind.BadField field) = codes "BadField " ++ decimal field

-- the error line of a refusal, without its LF
abbrev pub error_line : Refusal → List ℕ
error_line (refused.Shelf file) = codes "error 3 shelf " ++ file_text file
error_line refused.NoMemory = codes "error 5 memory"
error_line refused.ProgramLonger = codes "error 6 longer"
error_line (refused.Syntax offset why) = codes "error 6 syntax " ++ (decimal offset ++ (codes " " ++ code_text why))
error_line (refused.Check statement why) = codes "error 6 check " ++ (decimal statement ++ (codes " " ++ check_text why))
error_line (refused.Order store) = codes "error 6 order " ++ store
error_line refused.ServiceUnknown = codes "error 9 unknown"
error_line (refused.ServiceMissing name) = codes "error 9 " ++ (name ++ codes " missing")
error_line (refused.ServiceLonger name) = codes "error 9 " ++ (name ++ codes " longer")
error_line (refused.ServiceBad name line) = codes "error 9 " ++ (name ++ (codes " " ++ (decimal line ++ codes " bad")))
error_line (refused.ServiceTwice name line first) =
    codes "error 9 " ++ (name ++ (codes " " ++ (decimal line ++ (codes " twice " ++ decimal first))))
error_line refused.LogLonger = codes "error 7 longer"
error_line (refused.LogLine line why) = codes "error 7 " ++ (decimal line ++ (codes " " ++ kind_text why))
error_line refused.LogTooMany = codes "error 7 0 TooMany"
error_line refused.LogChunks = codes "error 7 0 Chunks"
error_line refused.ScriptLonger = codes "error 8 longer"
error_line (refused.ScriptLine line) = codes "error 8 " ++ decimal line

-- a status, and the bytes that are written
pub record Answer : Type 0 where
  pub status : ℕ
  pub bytes : List ℕ

abbrev pub refusal_answer : Refusal → Answer
refusal_answer refusal = record { status = status_of (cause_of refusal); bytes = error_line refusal ++ codes "\n" }
