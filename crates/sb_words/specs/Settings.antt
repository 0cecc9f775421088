-- Numbers and options.
use Rattle.std.specs.Prelude.{ℕ, ◌-◌, ◌^◌, ◌&&◌, Bool, nat_le, List, Option, Some, None, option_map, codes, if◌then◌else◌}
use Rattle.sb_text.specs.Decimal.{natural}
use Rattle.clap.specs.Words.{Row, Text, first_of}
use Rattle.sb_words.specs.Answers.{◌>>=◌}
use Rattle.sb_words.specs.Found.{is_set}
use Rattle.sb_words.specs.Numbers.{most_workers, most_shards, most_records_of_a_chunk, most_cached, most_chunks_between, most_kept}
use Rattle.sb_words.specs.declared.command.Settings.{Settings}

-- the number from `least` to `most` that the text spells as a canonical decimal
abbrev pub number : ℕ → ℕ → Text → Option ℕ
number least most text = do
  n ← natural (2 ^ 64 - 1) text
  if nat_le least n && nat_le n most then Some n else None

-- the number of an option, and its default where it isn't given
abbrev pub setting : ℕ → ℕ → ℕ → Option Text → Option ℕ
setting least most default None = Some default
setting least most default (Some text) = number least most text

-- `keep` is given only beside `publisher`
abbrev pub keep_in : Bool → Option Text → Option (Option ℕ)
keep_in publisher None = Some None
keep_in publisher (Some text) = if publisher then option_map (λ n. Some n) (number 0 most_kept text) else None

abbrev pub shards_in : List Row → Option ℕ
shards_in rows = setting 1 most_shards 8 (first_of (codes "shards") rows)

abbrev pub chunk_in : List Row → Option ℕ
chunk_in rows = setting 1 most_records_of_a_chunk 256 (first_of (codes "chunk") rows)

-- the options of `run`
unfoldable pub settings_in : List Row → Option Settings
settings_in rows = do
  workers ← setting 0 most_workers 4 (first_of (codes "workers") rows)
  shards ← shards_in rows
  chunk ← chunk_in rows
  cache ← setting 1 most_cached 1024 (first_of (codes "cache") rows)
  every ← setting 1 most_chunks_between 4 (first_of (codes "every") rows)
  keep ← keep_in (is_set (first_of (codes "publisher") rows)) (first_of (codes "keep") rows)
  Some (record {
    workers = workers;
    shards = shards;
    chunk = chunk;
    cache = cache;
    every = every;
    publisher = is_set (first_of (codes "publisher") rows);
    keep = keep;
  })
