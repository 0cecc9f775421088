-- What a command does with its files, and which file is which.
use Rattle.std.specs.Prelude.{ℕ, Bool, List, [], ◌∷◌, Option, Some, None, is_some, if◌then◌else◌, bytes_eq}
use Rattle.sb_words.specs.declared.command.Command.{Command}
use Rattle.sb_words.specs.declared.command.Command.TheVariants.{Check, Batch, Run, Audit, Demo}
use Rattle.sb_load.specs.declared.refusal.Which.{Which}
use Rattle.sb_load.specs.declared.refusal.Which.TheVariants as which

-- the names of services, each with the name of its file
abbrev pub Files : Type 0
Files = List (List ℕ × List ℕ)

-- the file of a service; the first of the name
abbrev pub file_named : List ℕ → Files → Option (List ℕ)
file_named name [] = None
file_named name (f ∷ files) = if bytes_eq name f.0 then Some f.1 else file_named name files

-- the files of its services; `check` and `demo` have none
abbrev pub files_of : Command → Files
files_of (Check program) = []
files_of (Batch program log services) = services
files_of (Run program log script services settings) = services
files_of (Audit program log script transcript services chunk shards) = services
files_of (Demo seed records workers) = []

-- the file's name, where the command reads the file
abbrev pub program_name : Command → Option (List ℕ)
program_name (Check program) = Some program
program_name (Batch program log services) = Some program
program_name (Run program log script services settings) = Some program
program_name (Audit program log script transcript services chunk shards) = Some program
program_name (Demo seed records workers) = None

abbrev pub log_name : Command → Option (List ℕ)
log_name (Check program) = None
log_name (Batch program log services) = Some log
log_name (Run program log script services settings) = Some log
log_name (Audit program log script transcript services chunk shards) = Some log
log_name (Demo seed records workers) = None

abbrev pub script_name : Command → Option (List ℕ)
script_name (Check program) = None
script_name (Batch program log services) = None
script_name (Run program log script services settings) = Some script
script_name (Audit program log script transcript services chunk shards) = Some script
script_name (Demo seed records workers) = None

abbrev pub name_of : Command → Which → Option (List ℕ)
name_of command which.Program = program_name command
name_of command which.Log = log_name command
name_of command which.Script = script_name command
name_of command (which.Service name) = file_named name (files_of command)

-- the number of a chunk's records, where the command divides the log into chunks
abbrev pub chunk_of : Command → Option ℕ
chunk_of (Check program) = None
chunk_of (Batch program log services) = None
chunk_of (Run program log script services settings) = Some settings.chunk
chunk_of (Audit program log script transcript services chunk shards) = Some chunk
chunk_of (Demo seed records workers) = None

-- a command that divides the log sums in any order
abbrev pub is_online : Command → Bool
is_online command = is_some (chunk_of command)

-- what a command does with its inputs: it reads a program, joins services, reads a log, divides it into chunks, reads a script
pub data Step : Type 0 where
  program : Step
  order : Step
  services : Step
  log : Step
  chunks : Step
  script : Step

-- whether a command has services: `check` doesn't ask for them
abbrev pub has_services : Command → Bool
has_services command = is_some (log_name command)

-- the steps of a command
abbrev pub takes : Command → Step → Bool
takes command program = is_some (program_name command)
takes command order = is_online command
takes command services = has_services command
takes command log = is_some (log_name command)
takes command chunks = is_online command
takes command script = is_some (script_name command)
