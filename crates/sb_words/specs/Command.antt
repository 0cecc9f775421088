-- The command that words are.
use Rattle.std.specs.Prelude.{List, [], ◌∷◌, Option, Some, None, codes, if◌then◌else◌}
use Rattle.std.specs.Str.{bytes_eq}
use Rattle.clap.specs.Words.{Row, Text, first_of}
use Rattle.sb_words.specs.Answers.{◌>>=◌}
use Rattle.sb_words.specs.Forms.{audit_form, batch_form, check_form, demo_form, rows_in, run_form}
use Rattle.sb_words.specs.Services.{services_in}
use Rattle.sb_words.specs.Numbers.{most_workers, most_seed, most_generated}
use Rattle.sb_words.specs.Settings.{number, chunk_in, shards_in, settings_in}
use Rattle.sb_words.specs.declared.command.Command.{Command}
use Rattle.sb_words.specs.declared.command.Command.TheVariants.{Check, Batch, Run, Audit, Demo}

-- `check PROGRAM`
unfoldable pub check_in : List Text → Option Command
check_in words = do
  rows ← rows_in check_form words
  program ← first_of (codes "program") rows
  Some (Check program)

-- `batch PROGRAM LOG NAME=FILE ..`
unfoldable pub batch_in : List Text → Option Command
batch_in words = do
  rows ← rows_in batch_form words
  program ← first_of (codes "program") rows
  log ← first_of (codes "log") rows
  services ← services_in rows
  Some (Batch program log services)

-- `run PROGRAM LOG SCRIPT NAME=FILE ..`, with options
unfoldable pub run_in : List Text → Option Command
run_in words = do
  rows ← rows_in run_form words
  program ← first_of (codes "program") rows
  log ← first_of (codes "log") rows
  script ← first_of (codes "script") rows
  services ← services_in rows
  settings ← settings_in rows
  Some (Run program log script services settings)

-- `audit PROGRAM LOG SCRIPT TRANSCRIPT NAME=FILE ..`, with options
unfoldable pub audit_in : List Text → Option Command
audit_in words = do
  rows ← rows_in audit_form words
  program ← first_of (codes "program") rows
  log ← first_of (codes "log") rows
  script ← first_of (codes "script") rows
  transcript ← first_of (codes "transcript") rows
  services ← services_in rows
  chunk ← chunk_in rows
  shards ← shards_in rows
  Some (Audit program log script transcript services chunk shards)

unfoldable pub demo_from : List Row → Option Command
demo_from rows = do
  seed ← first_of (codes "seed") rows
  seed ← number 0 most_seed seed
  records ← first_of (codes "records") rows
  records ← number 0 most_generated records
  workers ← first_of (codes "workers") rows
  workers ← number 0 most_workers workers
  Some (Demo seed records workers)

-- `demo SEED RECORDS WORKERS`
unfoldable pub demo_in : List Text → Option Command
demo_in words = do
  rows ← rows_in demo_form words
  demo_from rows

-- the command that the words are
abbrev pub command_of : List Text → Option Command
command_of [] = None
command_of (word ∷ words) =
    if bytes_eq word (codes "check") then check_in words
    else (if bytes_eq word (codes "batch") then batch_in words
    else (if bytes_eq word (codes "run") then run_in words
    else (if bytes_eq word (codes "audit") then audit_in words
    else (if bytes_eq word (codes "demo") then demo_in words
    else None))))
