-- Each command that some words are keeps the limits.
use Rattle.std.proofs.Common.{◌≡◌, ◌-◌, ◌^◌, ◌&&◌, ℕ, Bool, false, true, nat_le, List, [], ◌∷◌, Option, Some, None, IfSome, IfOk, Result, Ok, Err, refl, subst, arith}
use Rattle.std.specs.Prelude.{codes, option_map, unwrap_or, bytes_eq, if◌then◌else◌}
use Rattle.std.proofs.lemmas.Bool.{leb-true}
use Rattle.std.proofs.lemmas.Option.{cond_some, none-some}
use Rattle.clap.proofs.WalkLemmas.{both}
use Rattle.clap.specs.Words.{Row, Text, all_of, first_of}
use Rattle.sb_text.specs.Decimal.{natural}
use Rattle.sb_words.specs.Answers.{◌>>=◌, Answers}
use Rattle.sb_words.specs.Found.{is_set}
use Rattle.sb_words.specs.Command.{audit_in, batch_in, check_in, command_of, demo_from, demo_in, run_in}
use Rattle.sb_words.specs.Limits.{AreWithin, IsBetween, IsWithin}
use Rattle.sb_words.specs.Forms.{audit_form, batch_form, check_form, demo_form, rows_in, run_form}
use Rattle.sb_words.specs.Services.{File, each_file, files_in, have_distinct_names, services_in}
use Rattle.sb_words.specs.Numbers.{most_workers, most_shards, most_records_of_a_chunk, most_cached, most_chunks_between, most_kept, most_seed, most_generated}
use Rattle.sb_words.specs.Settings.{chunk_in, keep_in, number, setting, settings_in, shards_in}
use Rattle.sb_words.specs.declared.command.Command.{Command}
use Rattle.sb_words.specs.declared.command.Settings.{Settings}
use Rattle.sb_words.specs.declared.words_error.WordsError.{WordsError}

-- the service words among the rows
abbrev service_texts : List Row → List Text
service_texts rows = unwrap_or (all_of (codes "services") rows) []

-- what holds of each value of f holds of what f gives
through : {A B : Type 0} (o : Option A) (f : A → Option B) (Q : B → Type 0) → ((x : A) → o ≡ Some x → (y : B) → f x ≡ Some y → Q y) → (y : B) → (o >>= f) ≡ Some y → Q y
through None f Q each y e = absurd (none-some y e)
through (Some x) f Q each y e = each x refl y e

between : (least most n m : ℕ) → (if nat_le least n && nat_le n most then Some n else None) ≡ Some m → IsBetween least most m
between least most n m e =
    let c = cond_some (nat_le least n && nat_le n most) n m e in
    let b = both (nat_le least n) (nat_le n most) c.0 in
    subst (IsBetween least most) c.1 (leb-true least n b.0, leb-true n most b.1)

pub number_between : (least most : ℕ) (text : Text) (n : ℕ) → number least most text ≡ Some n → IsBetween least most n
number_between least most text =
    through (natural (2 ^ 64 - 1) text) (λ n. if nat_le least n && nat_le n most then Some n else None) (IsBetween least most) (λ n is. between least most n)

pub setting_between : (least most default : ℕ) (text : Option Text) → IsBetween least most default → (n : ℕ) → setting least most default text ≡ Some n → IsBetween least most n
setting_between least most default None within n e = subst (λ (o : Option ℕ). IfSome o (IsBetween least most)) e within
setting_between least most default (Some text) within n e = number_between least most text n e

pub distinct : (words : List Text) (files : List File) → files_in words ≡ Some files → have_distinct_names files ≡ true
distinct words = through (each_file words) (λ files. if have_distinct_names files then Some files else None) (λ files. have_distinct_names files ≡ true)
    (λ files is more e. let c = cond_some (have_distinct_names files) files more e in subst (λ (f : List File). have_distinct_names f ≡ true) c.1 c.0)

some_number : (o : Option ℕ) (least most : ℕ) → ((n : ℕ) → o ≡ Some n → IsBetween least most n) → (k : Option ℕ) → option_map (λ n. Some n) o ≡ Some k
    → IfSome k (IsBetween least most)
some_number None least most each k e = absurd (none-some k e)
some_number (Some n) least most each k e = subst (λ (o : Option (Option ℕ)). IfSome (unwrap_or o None) (IsBetween least most)) e (each n refl)

pub keep_between : (publisher : Bool) (text : Option Text) (k : Option ℕ) → keep_in publisher text ≡ Some k → IfSome k (IsBetween 0 most_kept)
keep_between publisher None k e = subst (λ (o : Option (Option ℕ)). IfSome (unwrap_or o None) (IsBetween 0 most_kept)) e tt
keep_between false (Some text) k e = absurd (none-some k e)
keep_between true (Some text) k e = some_number (number 0 most_kept text) 0 most_kept (number_between 0 most_kept text) k e

pub settings_within : (rows : List Row) (s : Settings) → settings_in rows ≡ Some s → AreWithin s
unfolding settings_in
settings_within rows =
    let text = λ (name : Text). first_of name rows in
    let publisher = is_set (text (codes "publisher")) in
    through (setting 0 most_workers 4 (text (codes "workers"))) _ AreWithin (λ workers is_workers.
    through (shards_in rows) _ AreWithin (λ shards is_shards.
    through (chunk_in rows) _ AreWithin (λ chunk is_chunk.
    through (setting 1 most_cached 1024 (text (codes "cache"))) _ AreWithin (λ cache is_cache.
    through (setting 1 most_chunks_between 4 (text (codes "every"))) _ AreWithin (λ every is_every.
    through (keep_in publisher (text (codes "keep"))) _ AreWithin (λ keep is_keep s e.
    subst (λ (o : Option Settings). IfSome o AreWithin) e (record {
      workers = setting_between 0 most_workers 4 (text (codes "workers")) (omega arith, omega arith) workers is_workers;
      shards = setting_between 1 most_shards 8 (text (codes "shards")) (omega arith, omega arith) shards is_shards;
      chunk = setting_between 1 most_records_of_a_chunk 256 (text (codes "chunk")) (omega arith, omega arith) chunk is_chunk;
      cache = setting_between 1 most_cached 1024 (text (codes "cache")) (omega arith, omega arith) cache is_cache;
      every = setting_between 1 most_chunks_between 4 (text (codes "every")) (omega arith, omega arith) every is_every;
      keep = keep_between publisher (text (codes "keep")) keep is_keep;
    })))))))

check_within : (words : List Text) (command : Command) → check_in words ≡ Some command → IsWithin command
unfolding check_in
check_within words = through (rows_in check_form words) _ IsWithin (λ rows is_rows.
    through (first_of (codes "program") rows) _ IsWithin (λ program is_program command e.
    subst (λ (o : Option Command). IfSome o IsWithin) e tt))

batch_within : (words : List Text) (command : Command) → batch_in words ≡ Some command → IsWithin command
unfolding batch_in
batch_within words = through (rows_in batch_form words) _ IsWithin (λ rows is_rows.
    through (first_of (codes "program") rows) _ IsWithin (λ program is_program.
    through (first_of (codes "log") rows) _ IsWithin (λ log is_log.
    through (services_in rows) _ IsWithin (λ services is_services command e.
    subst (λ (o : Option Command). IfSome o IsWithin) e (distinct (service_texts rows) services is_services)))))

run_within : (words : List Text) (command : Command) → run_in words ≡ Some command → IsWithin command
unfolding run_in
run_within words = through (rows_in run_form words) _ IsWithin (λ rows is_rows.
    through (first_of (codes "program") rows) _ IsWithin (λ program is_program.
    through (first_of (codes "log") rows) _ IsWithin (λ log is_log.
    through (first_of (codes "script") rows) _ IsWithin (λ script is_script.
    through (services_in rows) _ IsWithin (λ services is_services.
    through (settings_in rows) _ IsWithin (λ settings is_settings command e.
    subst (λ (o : Option Command). IfSome o IsWithin) e
    (distinct (service_texts rows) services is_services, settings_within rows settings is_settings)))))))

audit_within : (words : List Text) (command : Command) → audit_in words ≡ Some command → IsWithin command
unfolding audit_in
audit_within words = through (rows_in audit_form words) _ IsWithin (λ rows is_rows.
    through (first_of (codes "program") rows) _ IsWithin (λ program is_program.
    through (first_of (codes "log") rows) _ IsWithin (λ log is_log.
    through (first_of (codes "script") rows) _ IsWithin (λ script is_script.
    through (first_of (codes "transcript") rows) _ IsWithin (λ transcript is_transcript.
    through (services_in rows) _ IsWithin (λ services is_services.
    through (chunk_in rows) _ IsWithin (λ chunk is_chunk.
    through (shards_in rows) _ IsWithin (λ shards is_shards command e.
    subst (λ (o : Option Command). IfSome o IsWithin) e (
      distinct (service_texts rows) services is_services,
      setting_between 1 most_records_of_a_chunk 256 (first_of (codes "chunk") rows) (omega arith, omega arith) chunk is_chunk,
      setting_between 1 most_shards 8 (first_of (codes "shards") rows) (omega arith, omega arith) shards is_shards,
    )))))))))

demo_within : (words : List Text) (command : Command) → demo_in words ≡ Some command → IsWithin command
unfolding demo_in demo_from
demo_within words = through (rows_in demo_form words) _ IsWithin (λ rows is_rows.
    through (first_of (codes "seed") rows) _ IsWithin (λ seed_text is_seed_text.
    through (number 0 most_seed seed_text) _ IsWithin (λ seed is_seed.
    through (first_of (codes "records") rows) _ IsWithin (λ records_text is_records_text.
    through (number 0 most_generated records_text) _ IsWithin (λ records is_records.
    through (first_of (codes "workers") rows) _ IsWithin (λ workers_text is_workers_text.
    through (number 0 most_workers workers_text) _ IsWithin (λ workers is_workers command e.
    subst (λ (o : Option Command). IfSome o IsWithin) e (
      number_between 0 most_seed seed_text seed is_seed,
      number_between 0 most_generated records_text records is_records,
      number_between 0 most_workers workers_text workers is_workers,
    ))))))))

-- what holds of either branch
branch : {A : Type 0} (b : Bool) (o p : Option A) (Q : A → Type 0) → ((y : A) → o ≡ Some y → Q y) → ((y : A) → p ≡ Some y → Q y)
    → (y : A) → (if b then o else p) ≡ Some y → Q y
branch true o p Q left right y e = left y e
branch false o p Q left right y e = right y e

-- each command that some words are keeps its limits
pub within : (words : List Text) (command : Command) → command_of words ≡ Some command → IsWithin command
within [] = λ command e. absurd (none-some command e)
within (word ∷ words) = branch (bytes_eq word (codes "check")) (check_in words) _ IsWithin (check_within words)
    (branch (bytes_eq word (codes "batch")) (batch_in words) _ IsWithin (batch_within words)
    (branch (bytes_eq word (codes "run")) (run_in words) _ IsWithin (run_within words)
    (branch (bytes_eq word (codes "audit")) (audit_in words) _ IsWithin (audit_within words)
    (branch (bytes_eq word (codes "demo")) (demo_in words) _ IsWithin (demo_within words)
    (λ command e. absurd (none-some command e))))))

-- what a reader of words answers keeps them
pub answered : (words : List Text) (answer : Result Command WordsError) → Answers (command_of words) answer → IfOk answer IsWithin
answered words (Ok command) e = within words command e
answered words (Err error) e = tt
