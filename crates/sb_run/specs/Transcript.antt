-- What a transcript is: which lines may answer a script, whatever the interleaving behind them.
use Rattle.std.specs.Prelude.{◌≡◌, ℕ, ◌+◌, ◌<◌, ◌≤◌, ◌==◌, min, max, List, [], ◌∷◌, ◌++◌, length, Contains, if◌then◌else◌}
use Rattle.std.specs.List.{AllByRecursion, flat_map}
use Rattle.sb_text.specs.Ranges.{IsRising}
use Rattle.sb_feed.specs.Keys.{shard_of}
use Rattle.sb_feed.specs.Limits.{last_batch}
use Rattle.sb_feed.specs.Places.{Places, batches_of, chunks_of}
use Rattle.sb_report.specs.declared.script.Ask.{Ask}
use Rattle.sb_report.specs.declared.script.Ask.TheVariants as ask
use Rattle.sb_report.specs.declared.line.TranscriptLine.{TranscriptLine}
use Rattle.sb_report.specs.declared.line.TranscriptLine.TheVariants as line
use Rattle.sb_run.specs.Run.{Run, good_value}
use Rattle.sb_run.specs.ScriptOutput.{transcript_of}

-- the shard of a key
abbrev pub key_shard : Places → ℕ → List ℕ → ℕ
key_shard places store key = shard_of places.shards (record { store = store; text = key })

-- What a line tells a reader of a shard. A line that shows a key of another shard tells it nothing.
abbrev pub told_chunks : Places → ℕ → TranscriptLine → List ℕ
told_chunks places shard (line.Read store key value published floor cover) = if key_shard places store key == shard then cover else []
told_chunks places shard (line.Asof batch store key value published floor cover) = if key_shard places store key == shard then cover else []
told_chunks places shard (line.Flushed chunks) = chunks
told_chunks places shard (line.Worked count chunks) = chunks
told_chunks places shard l = []

abbrev pub told_published : Places → ℕ → TranscriptLine → ℕ
told_published places shard (line.Read store key value published floor cover) = if key_shard places store key == shard then published else 0
told_published places shard (line.Asof batch store key value published floor cover) = if key_shard places store key == shard then published else 0
told_published places shard (line.Published published) = published
told_published places shard l = 0

abbrev pub told_floor : Places → ℕ → TranscriptLine → ℕ
told_floor places shard (line.Read store key value published floor cover) = if key_shard places store key == shard then floor else 0
told_floor places shard (line.Asof batch store key value published floor cover) = if key_shard places store key == shard then floor else 0
told_floor places shard (line.Expired store key asked floor) = if key_shard places store key == shard then floor else 0
told_floor places shard (line.Floor floor) = floor
told_floor places shard l = 0

-- the number of a `published` line, which is 0 for every other one
abbrev pub published_number : TranscriptLine → ℕ
published_number (line.Published published) = published
published_number l = 0

-- that of a `floor` line
abbrev pub floor_number : TranscriptLine → ℕ
floor_number (line.Floor floor) = floor
floor_number l = 0

-- the chunks of a `worked` line
abbrev pub worked_chunks : TranscriptLine → List ℕ
worked_chunks (line.Worked count chunks) = chunks
worked_chunks l = []

-- the chunks of a `flushed` or a `worked` line
abbrev pub flushed_chunks : TranscriptLine → List ℕ
flushed_chunks (line.Flushed chunks) = chunks
flushed_chunks l = worked_chunks l

-- the greatest of the numbers of lines
abbrev pub greatest : (TranscriptLine → ℕ) → List TranscriptLine → ℕ
greatest number [] = 0
greatest number (l ∷ lines) = max (number l) (greatest number lines)

-- the known numbers of a shard, by the earlier lines: all chunks that were told, and the greatest numbers
abbrev pub known_chunks : Places → ℕ → List TranscriptLine → List ℕ
known_chunks places shard lines = flat_map (told_chunks places shard) lines

abbrev pub known_published : Places → ℕ → List TranscriptLine → ℕ
known_published places shard = greatest (told_published places shard)

abbrev pub known_floor : Places → ℕ → List TranscriptLine → ℕ
known_floor places shard = greatest (told_floor places shard)

-- the number of the last `published` line, which is the greatest, and 0 before any
abbrev pub last_published : List TranscriptLine → ℕ
last_published = greatest published_number

-- the same of the `floor` lines
abbrev pub last_floor : List TranscriptLine → ℕ
last_floor = greatest floor_number

-- chunks of the log, in rising order
pub record AreChunks (places : Places) (chunks : List ℕ) : Type 0 where
  pub rising : IsRising chunks
  pub there : AllByRecursion (λ c. c < chunks_of places) chunks

-- A good line has the fold over the records that it names. It is fresh: it names no less than was known of the key's shard.
pub record IsGoodRead {E : Type 0} (run : Run E) (lines : List TranscriptLine) (asked store : ℕ) (key value : List ℕ) (published floor : ℕ) (cover : List ℕ) : Type 0 where
  pub good : value ≡ good_value run store asked key published cover
  pub there : AreChunks run.places cover
  pub batches : published ≤ batches_of run.places
  pub floors : floor ≤ published
  pub fresh_chunks : AllByRecursion (Contains cover) (known_chunks run.places (key_shard run.places store key) lines)
  pub fresh_published : known_published run.places (key_shard run.places store key) lines ≤ published
  pub fresh_floor : known_floor run.places (key_shard run.places store key) lines ≤ floor

-- a `worked` line has chunks that no earlier one had, and no more than were asked for
pub record IsGoodWork (places : Places) (lines : List TranscriptLine) (most count : ℕ) (chunks : List ℕ) : Type 0 where
  pub number : count ≡ length chunks
  pub limit : count ≤ most
  pub there : AreChunks places chunks
  pub new : AllByRecursion (λ c. Contains (flat_map worked_chunks lines) c → ⊥) chunks

-- An `expired` line has a floor above the batch behind the asked one. It is fresh: the floor is no lower than was known.
pub record IsGoodExpired (places : Places) (lines : List TranscriptLine) (asked store : ℕ) (key : List ℕ) (floor : ℕ) : Type 0 where
  pub above : asked + 1 < floor
  pub batches : floor ≤ batches_of places
  pub fresh : known_floor places (key_shard places store key) lines ≤ floor

-- a `flushed` line has the chunks of all earlier ones, and of all `worked` lines
pub record IsGoodLook (places : Places) (lines : List TranscriptLine) (chunks : List ℕ) : Type 0 where
  pub there : AreChunks places chunks
  pub fresh : AllByRecursion (Contains chunks) (flat_map flushed_chunks lines)

-- The line may answer the ask, behind these earlier lines. A line of any other form answers it never.
abbrev pub AnswersRead : {E : Type 0} → Run E → List TranscriptLine → ℕ → List ℕ → TranscriptLine → Type 0
AnswersRead run lines store key (line.Read s k value published floor cover) = (s ≡ store) × (k ≡ key) × IsGoodRead run lines last_batch store key value published floor cover
AnswersRead run lines store key l = ⊥

abbrev pub AnswersAsof : {E : Type 0} → Run E → List TranscriptLine → ℕ → ℕ → List ℕ → TranscriptLine → Type 0
AnswersAsof run lines batch store key (line.Asof b s k value published floor cover) =
    (b ≡ batch) × (s ≡ store) × (k ≡ key) × (floor ≤ batch + 1) × IsGoodRead run lines batch store key value published floor cover
AnswersAsof run lines batch store key (line.Expired s k asked floor) = (s ≡ store) × (k ≡ key) × (asked ≡ batch) × IsGoodExpired run.places lines batch store key floor
AnswersAsof run lines batch store key l = ⊥

abbrev pub AnswersLook : Places → List TranscriptLine → TranscriptLine → Type 0
AnswersLook places lines (line.Flushed chunks) = IsGoodLook places lines chunks
AnswersLook places lines l = ⊥

abbrev pub AnswersWork : Places → List TranscriptLine → ℕ → TranscriptLine → Type 0
AnswersWork places lines most (line.Worked count chunks) = IsGoodWork places lines most count chunks
AnswersWork places lines most l = ⊥

abbrev pub AnswersPublish : Places → List TranscriptLine → ℕ → TranscriptLine → Type 0
AnswersPublish places lines upto (line.Published published) = published ≡ max (last_published lines) (min upto (batches_of places))
AnswersPublish places lines upto l = ⊥

abbrev pub AnswersExpire : List TranscriptLine → ℕ → TranscriptLine → Type 0
AnswersExpire lines asked (line.Floor floor) = (asked ≤ last_published lines) × (floor ≡ max (last_floor lines) asked)
AnswersExpire lines asked (line.Refused a published) = (a ≡ asked) × (published ≡ last_published lines) × (published < asked)
AnswersExpire lines asked l = ⊥

abbrev pub Answers : {E : Type 0} → Run E → List TranscriptLine → Ask → TranscriptLine → Type 0
Answers run lines (ask.Read store key) l = AnswersRead run lines store key l
Answers run lines (ask.Asof batch store key) l = AnswersAsof run lines batch store key l
Answers run lines ask.Look l = AnswersLook run.places lines l
Answers run lines (ask.Work most) l = AnswersWork run.places lines most l
Answers run lines (ask.Publish upto) l = AnswersPublish run.places lines upto l
Answers run lines (ask.Expire floor) l = AnswersExpire lines floor l

-- the lines answer the asks one by one
abbrev pub AnswerAll : {E : Type 0} → Run E → List TranscriptLine → List Ask → List TranscriptLine → Type 0
AnswerAll run earlier [] [] = Unit {0}
AnswerAll run earlier [] (l ∷ lines) = ⊥
AnswerAll run earlier (a ∷ asks) [] = ⊥
AnswerAll run earlier (a ∷ asks) (l ∷ lines) = Answers run earlier a l × AnswerAll run (earlier ++ l ∷ []) asks lines

-- a transcript: lines that answer the script, `drained`, the report over the whole log, and `end`
pub record IsTranscript {E : Type 0} (run : Run E) (asks : List Ask) (bytes : List ℕ) : Type 0 where
  pub lines : List TranscriptLine
  pub answer : AnswerAll run [] asks lines
  pub text : bytes ≡ transcript_of run lines
