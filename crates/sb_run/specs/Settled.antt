-- What the settings of a run settle of the numbers of its transcript.
use Rattle.std.specs.Prelude.{◌≡◌, ◌⊎◌, ℕ, ◌+◌, ◌≤◌, nat_lt, Bool, true, false, ◌||◌, List, [], ◌∷◌, ◌++◌, Option, Some, None}
use Rattle.sb_report.specs.declared.script.Ask.{Ask}
use Rattle.sb_report.specs.declared.script.Ask.TheVariants as ask
use Rattle.sb_report.specs.declared.line.TranscriptLine.{TranscriptLine}
use Rattle.sb_report.specs.declared.line.TranscriptLine.TheVariants as line
use Rattle.sb_run.specs.Run.{Run}
use Rattle.sb_feed.specs.Places.{batches_of}
use Rattle.sb_run.specs.Transcript.{IsTranscript, last_published, last_floor}

-- whether a publisher works beside the session, and how many published batches it keeps above the floor, where any expire
pub record Settings : Type 0 where
  pub publisher : Bool
  pub keep : Option ℕ

-- a run whose session publishes
abbrev pub serial : Settings
serial = record { publisher = false; keep = None }

-- The numbers of a read beside a publisher: the floor is 0 where it keeps all, and else 0 or so many below the published number.
abbrev pub SettlesKept : Option ℕ → ℕ → ℕ → Type 0
SettlesKept None published floor = floor ≡ 0
SettlesKept (Some n) published floor = (floor ≡ 0) ⊎ (floor + n ≤ published)

-- Without a publisher they are those of the last `published` line before it, and of the last `floor` line.
abbrev pub SettlesNumbers : Bool → Option ℕ → List TranscriptLine → ℕ → ℕ → Type 0
SettlesNumbers false keep earlier published floor = (published ≡ last_published earlier) × (floor ≡ last_floor earlier)
SettlesNumbers true keep earlier published floor = SettlesKept keep published floor

-- An `expired` line shows no published number. Beside a publisher that of all batches stands for it.
abbrev pub SettlesFloor : Bool → Option ℕ → ℕ → List TranscriptLine → ℕ → Type 0
SettlesFloor false keep batches earlier floor = floor ≡ last_floor earlier
SettlesFloor true keep batches earlier floor = SettlesKept keep batches floor

abbrev pub SettlesRead : Settings → ℕ → List TranscriptLine → TranscriptLine → Type 0
SettlesRead settings batches earlier (line.Read store key value published floor cover) = SettlesNumbers settings.publisher settings.keep earlier published floor
SettlesRead settings batches earlier (line.Asof batch store key value published floor cover) = SettlesNumbers settings.publisher settings.keep earlier published floor
SettlesRead settings batches earlier (line.Expired store key asked floor) = SettlesFloor settings.publisher settings.keep batches earlier floor
SettlesRead settings batches earlier l = Unit {0}

-- whether a `worked` line shows fewer chunks than were asked for
abbrev pub is_short : Ask → TranscriptLine → Bool
is_short (ask.Work most) (line.Worked count chunks) = nat_lt count most
is_short a l = false

-- no `worked` line shows a chunk
abbrev pub ShowsNone : TranscriptLine → Type 0
ShowsNone (line.Worked count chunks) = count ≡ 0
ShowsNone l = Unit {0}

-- where no chunk was left, a `worked` line shows none
abbrev pub SettlesWork : Bool → TranscriptLine → Type 0
SettlesWork true l = ShowsNone l
SettlesWork false l = Unit {0}

-- The lines of the asks are settled, one by one, behind these earlier lines. No chunk is left once a `worked` line was short.
abbrev pub SettleAll : Settings → ℕ → Bool → List TranscriptLine → List Ask → List TranscriptLine → Type 0
SettleAll settings batches none_left earlier [] [] = Unit {0}
SettleAll settings batches none_left earlier [] (l ∷ lines) = ⊥
SettleAll settings batches none_left earlier (a ∷ asks) [] = ⊥
SettleAll settings batches none_left earlier (a ∷ asks) (l ∷ lines) =
    SettlesRead settings batches earlier l × SettlesWork none_left l
    × SettleAll settings batches (none_left || is_short a l) (earlier ++ l ∷ []) asks lines

-- a transcript that is settled
pub record IsSettled {E : Type 0} (settings : Settings) (run : Run E) (asks : List Ask) (bytes : List ℕ) : Type 0 where
  pub transcript : IsTranscript run asks bytes
  pub settled : SettleAll settings (batches_of run.places) false [] asks transcript.lines
