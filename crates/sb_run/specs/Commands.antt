-- Which command is which, and its shards.
use Rattle.std.specs.Prelude.{◌≡◌, ℕ, true}
use Rattle.sb_words.specs.declared.command.Command.{Command}
use Rattle.sb_words.specs.declared.command.Command.TheVariants.{Check, Batch, Run, Audit, Demo}
use Rattle.sb_run.specs.Due.{is_served}

abbrev pub IsCheck : Command → Type 0
IsCheck (Check program) = Unit {0}
IsCheck (Batch program log services) = ⊥
IsCheck (Run program log script services settings) = ⊥
IsCheck (Audit program log script judged services chunk shards) = ⊥
IsCheck (Demo seed records workers) = ⊥

abbrev pub IsBatch : Command → Type 0
IsBatch (Check program) = ⊥
IsBatch (Batch program log services) = Unit {0}
IsBatch (Run program log script services settings) = ⊥
IsBatch (Audit program log script judged services chunk shards) = ⊥
IsBatch (Demo seed records workers) = ⊥

-- a live run, with settings that are served: without workers and publisher
abbrev pub IsServedRun : Command → Type 0
IsServedRun (Check program) = ⊥
IsServedRun (Batch program log services) = ⊥
IsServedRun (Run program log script services settings) = is_served (Run program log script services settings) ≡ true
IsServedRun (Audit program log script judged services chunk shards) = ⊥
IsServedRun (Demo seed records workers) = ⊥

-- the number of shards; a command that divides nothing has one
abbrev pub shards_of : Command → ℕ
shards_of (Check program) = 1
shards_of (Batch program log services) = 1
shards_of (Run program log script services settings) = settings.shards
shards_of (Audit program log script judged services chunk shards) = shards
shards_of (Demo seed records workers) = 1
