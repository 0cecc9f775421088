-- The limits that a command keeps.
use Rattle.std.specs.Prelude.{◌≡◌, ◌≤◌, ℕ, true, IfSome}
use Rattle.sb_words.specs.Numbers.{most_workers, most_shards, most_records_of_a_chunk, most_cached, most_chunks_between, most_kept, most_seed, most_generated}
use Rattle.sb_words.specs.Services.{have_distinct_names}
use Rattle.sb_words.specs.declared.command.Command.{Command}
use Rattle.sb_words.specs.declared.command.Command.TheVariants.{Check, Batch, Run, Audit, Demo}
use Rattle.sb_words.specs.declared.command.Settings.{Settings}

abbrev pub IsBetween : ℕ → ℕ → ℕ → Type 0
IsBetween least most n = (least ≤ n) × (n ≤ most)

pub record AreWithin (settings : Settings) : Type 0 where
  pub workers : IsBetween 0 most_workers settings.workers
  pub shards : IsBetween 1 most_shards settings.shards
  pub chunk : IsBetween 1 most_records_of_a_chunk settings.chunk
  pub cache : IsBetween 1 most_cached settings.cache
  pub every : IsBetween 1 most_chunks_between settings.every
  pub keep : IfSome settings.keep (IsBetween 0 most_kept)

-- a command's numbers are within their limits, and no two of its services have one name
abbrev pub IsWithin : Command → Type 0
IsWithin (Check program) = Unit {0}
IsWithin (Batch program log services) = have_distinct_names services ≡ true
IsWithin (Run program log script services settings) = (have_distinct_names services ≡ true) × AreWithin settings
IsWithin (Audit program log script transcript services chunk shards) =
    (have_distinct_names services ≡ true) × IsBetween 1 most_records_of_a_chunk chunk × IsBetween 1 most_shards shards
IsWithin (Demo seed records workers) = IsBetween 0 most_seed seed × IsBetween 0 most_generated records × IsBetween 0 most_workers workers
