-- What a run without workers writes is a transcript.
use Rattle.std.proofs.Common.{◌≡◌, ℕ, zero, suc, ◌+◌, ◌-◌, ◌<◌, ◌≤◌, Bool, true, false, cond, List, [], ◌∷◌, ◌++◌, length, refl, sym, ap, subst, ◌∙◌, arith}
use Rattle.std.specs.Prelude.{◌==◌, nat_lt, nat_le, min, max, Contains}
use Rattle.std.proofs.lemmas.Bool.{ltb-true, ltb-false, leb-true, leb-false}
use Rattle.std.specs.List.{AllByRecursion, flat_map, range_with_len}
use Rattle.std.proofs.lemmas.Grind.{flat_map-append}
use Rattle.std.proofs.lemmas.List.FromFn.{length-range_with_len, get_or-range_with_len}
use Rattle.std.proofs.Math.ListN.{get_or}
use Rattle.sb_text.specs.Ranges.{IsRising}
use Rattle.sb_feed.proofs.PartSums.{valid_append}
use Rattle.sb_report.specs.declared.script.Ask.{Ask}
use Rattle.sb_report.specs.declared.script.Ask.TheVariants as ask
use Rattle.sb_report.specs.declared.line.TranscriptLine.{TranscriptLine}
use Rattle.sb_report.specs.declared.line.TranscriptLine.TheVariants as line
use Rattle.sb_feed.specs.Limits.{last_batch}
use Rattle.sb_feed.specs.Places.{Places, batches_of, chunks_of}
use Rattle.sb_run.specs.Run.{Run, good_value}
use Rattle.sb_run.specs.ScriptOutput.{Progress, start, cover_at, after, answer_line, script_lines}
use Rattle.sb_run.specs.Transcript.{key_shard, told_chunks, told_published, told_floor, known_chunks, known_published, known_floor, published_number, floor_number, greatest, last_published, last_floor, worked_chunks, flushed_chunks, AreChunks, IsGoodRead, AnswersAsof, AnswersExpire, Answers, AnswerAll}

-- Ranges of numbers

all_below : (e f : ℕ) (xs : List ℕ) → e ≤ f → AllByRecursion (λ x. x < e) xs → AllByRecursion (λ x. x < f) xs
all_below e f [] le h = tt
all_below e f (x ∷ xs) le h = (omega (arith, le, h.0), all_below e f xs le h.1)

range_below : (a n e : ℕ) → a + n ≤ e → AllByRecursion (λ x. x < e) (range_with_len a n)
range_below a zero e h = tt
range_below a (suc n) e h = (omega (arith, h), range_below (a + 1) n e (omega (arith, h)))

range_above : (b a n : ℕ) → b < a → AllByRecursion (λ x. b < x) (range_with_len a n)
range_above b a zero h = tt
range_above b a (suc n) h = (h, range_above b (a + 1) n (omega (arith, h)))

range_rising : (a n : ℕ) → IsRising (range_with_len a n)
range_rising a zero = tt
range_rising a (suc n) = (range_above a (a + 1) n (omega arith), range_rising (a + 1) n)

-- a number below the end of the first numbers is one of them
in_first : (w c : ℕ) → c < w → Contains (range_with_len 0 w) c
in_first w c h = let long = length-range_with_len 0 w in (c, omega (arith, h, long), get_or-range_with_len 0 w c c h ∙ omega arith)

all_in_first : (w : ℕ) (xs : List ℕ) → AllByRecursion (λ x. x < w) xs → AllByRecursion (Contains (range_with_len 0 w)) xs
all_in_first w [] h = tt
all_in_first w (x ∷ xs) h = (in_first w x h.0, all_in_first w xs h.1)

-- what stands in a list of numbers below e is below e
below_at : (e : ℕ) (xs : List ℕ) (k c : ℕ) → AllByRecursion (λ x. x < e) xs → k < length xs → get_or xs k c ≡ c → c < e
below_at e [] k c h lt is = absurd (omega (arith, lt))
below_at e (x ∷ xs) zero c h lt is = subst (λ n. n < e) is h.0
below_at e (x ∷ xs) (suc k) c h lt is = below_at e xs k c h.1 (omega (arith, lt)) is

range_new : (xs : List ℕ) (w a n : ℕ) → AllByRecursion (λ x. x < w) xs → w ≤ a → AllByRecursion (λ c. Contains xs c → ⊥) (range_with_len a n)
range_new xs w a zero h le = tt
range_new xs w a (suc n) h le = (λ there. let lt = below_at w xs there.0 a h there.1 there.2 in omega (arith, le, lt), range_new xs w (a + 1) n h (omega (arith, le)))

range_chunks : (places : Places) (a n : ℕ) → a + n ≤ chunks_of places → AreChunks places (range_with_len a n)
range_chunks places a n h = record { rising = range_rising a n; there = range_below a n (chunks_of places) h }

-- One line more

more_chunks : (f : TranscriptLine → List ℕ) (e w : ℕ) (lines : List TranscriptLine) (l : TranscriptLine) → e ≤ w → AllByRecursion (λ c. c < e) (flat_map f lines) → AllByRecursion (λ c. c < w) (f l)
    → AllByRecursion (λ c. c < w) (flat_map f (lines ++ l ∷ []))
more_chunks f e w lines l le h told =
    subst (AllByRecursion (λ c. c < w)) (sym (flat_map-append f lines (l ∷ [])))
    (valid_append (λ c. c < w) (flat_map f lines) (f l ++ []) (all_below e w (flat_map f lines) le h) (valid_append (λ c. c < w) (f l) [] told tt))

more_greatest : (number : TranscriptLine → ℕ) (n m : ℕ) (lines : List TranscriptLine) (l : TranscriptLine) → n ≤ m → greatest number lines ≤ n → number l ≤ m → greatest number (lines ++ l ∷ []) ≤ m
more_greatest number n m [] l le h told = omega (arith, told)
more_greatest number n m (x ∷ lines) l le h told = let later = more_greatest number n m lines l le (omega (arith, h)) told in omega (arith, le, h, later)

more_last : (number : TranscriptLine → ℕ) (lines : List TranscriptLine) (l : TranscriptLine) → greatest number (lines ++ l ∷ []) ≡ max (greatest number lines) (number l)
more_last number [] l = omega arith
more_last number (x ∷ lines) l = let later = more_last number lines l in omega (arith, later)

-- Behind these earlier lines the machine is here: they tell no chunk that isn't worked, and no greater number than it has.
pub record IsBehind {E : Type 0} (run : Run E) (lines : List TranscriptLine) (at : Progress) : Type 0 where
  pub chunks : (shard : ℕ) → AllByRecursion (λ c. c < at.worked) (known_chunks run.places shard lines)
  pub worked : AllByRecursion (λ c. c < at.worked) (flat_map worked_chunks lines)
  pub published : (shard : ℕ) → known_published run.places shard lines ≤ at.published
  pub last : last_published lines ≡ at.published
  pub floor : (shard : ℕ) → known_floor run.places shard lines ≤ at.floor
  pub last_floor : last_floor lines ≡ at.floor
  pub flushed : AllByRecursion (λ c. c < at.worked) (flat_map flushed_chunks lines)
  pub chunk_limit : at.worked ≤ chunks_of run.places
  pub batch_limit : at.published ≤ batches_of run.places
  pub below : at.floor ≤ at.published

pub behind_start : {E : Type 0} (run : Run E) → IsBehind run [] start
behind_start run = record {
  chunks = λ shard. tt;
  worked = tt;
  published = λ shard. omega arith;
  last = refl;
  floor = λ shard. omega arith;
  last_floor = refl;
  flushed = tt;
  chunk_limit = omega arith;
  batch_limit = omega arith;
  below = omega arith;
}

cover_told : (b : Bool) (w : ℕ) (cover : List ℕ) → AllByRecursion (λ c. c < w) cover → AllByRecursion (λ c. c < w) (cond b cover [])
cover_told true w cover h = h
cover_told false w cover h = tt

number_told : (b : Bool) (n : ℕ) → cond b n 0 ≤ n
number_told true n = omega arith
number_told false n = omega arith

-- What a line shows of a machine that stays where it is: no chunk that isn't worked, and no greater number than it has.
record ShowsAt {E : Type 0} (run : Run E) (at : Progress) (l : TranscriptLine) : Type 0 where
  chunks : (shard : ℕ) → AllByRecursion (λ c. c < at.worked) (told_chunks run.places shard l)
  worked : AllByRecursion (λ c. c < at.worked) (worked_chunks l)
  flushed : AllByRecursion (λ c. c < at.worked) (flushed_chunks l)
  published : (shard : ℕ) → told_published run.places shard l ≤ at.published
  last : published_number l ≤ at.published
  floor : (shard : ℕ) → told_floor run.places shard l ≤ at.floor
  last_floor : floor_number l ≤ at.floor

-- the machine goes on to what the line shows; a number that rises is shown
goes_on : {E : Type 0} (run : Run E) (lines : List TranscriptLine) (at to : Progress) (l : TranscriptLine) → IsBehind run lines at → ShowsAt run to l
    → at.worked ≤ to.worked → to.worked ≤ chunks_of run.places → to.published ≡ max at.published (published_number l) → to.published ≤ batches_of run.places
    → to.floor ≡ max at.floor (floor_number l) → to.floor ≤ to.published → IsBehind run (lines ++ l ∷ []) to
goes_on run lines at to l h shows worked chunks published batches floor below = record {
  chunks = λ shard. more_chunks (told_chunks run.places shard) at.worked to.worked lines l worked (h.chunks shard) (shows.chunks shard);
  worked = more_chunks worked_chunks at.worked to.worked lines l worked h.worked shows.worked;
  published = λ shard. more_greatest (told_published run.places shard) at.published to.published lines l (omega (arith, published)) (h.published shard) (shows.published shard);
  last = let more = more_last published_number lines l in let last = h.last in omega (arith, more, last, published);
  floor = λ shard. more_greatest (told_floor run.places shard) at.floor to.floor lines l (omega (arith, floor)) (h.floor shard) (shows.floor shard);
  last_floor = let more = more_last floor_number lines l in let last = h.last_floor in omega (arith, more, last, floor);
  flushed = more_chunks flushed_chunks at.worked to.worked lines l worked h.flushed shows.flushed;
  chunk_limit = chunks;
  batch_limit = batches;
  below = below;
}

stays : {E : Type 0} (run : Run E) (lines : List TranscriptLine) (at : Progress) (l : TranscriptLine) → IsBehind run lines at → ShowsAt run at l → IsBehind run (lines ++ l ∷ []) at
stays run lines at l h shows =
    goes_on run lines at at l h shows (omega arith) h.chunk_limit (let last = shows.last in omega (arith, last)) h.batch_limit (let last = shows.last_floor in omega (arith, last)) h.below

first_worked : (at : Progress) → AllByRecursion (λ c. c < at.worked) (cover_at at)
first_worked at = range_below 0 at.worked at.worked (omega arith)

read_shows : {E : Type 0} (run : Run E) (at : Progress) (store : ℕ) (key value : List ℕ) → ShowsAt run at (line.Read store key value at.published at.floor (cover_at at))
read_shows run at store key value = record {
  chunks = λ shard. cover_told (key_shard run.places store key == shard) at.worked (cover_at at) (first_worked at);
  worked = tt;
  flushed = tt;
  published = λ shard. number_told (key_shard run.places store key == shard) at.published;
  last = omega arith;
  floor = λ shard. number_told (key_shard run.places store key == shard) at.floor;
  last_floor = omega arith;
}

asof_shows : {E : Type 0} (run : Run E) (at : Progress) (batch store : ℕ) (key value : List ℕ) (t : Bool)
    → ShowsAt run at (cond t (line.Expired store key batch at.floor) (line.Asof batch store key value at.published at.floor (cover_at at)))
asof_shows run at batch store key value true = record {
  chunks = λ shard. tt;
  worked = tt;
  flushed = tt;
  published = λ shard. omega arith;
  last = omega arith;
  floor = λ shard. number_told (key_shard run.places store key == shard) at.floor;
  last_floor = omega arith;
}
asof_shows run at batch store key value false = record {
  chunks = λ shard. cover_told (key_shard run.places store key == shard) at.worked (cover_at at) (first_worked at);
  worked = tt;
  flushed = tt;
  published = λ shard. number_told (key_shard run.places store key == shard) at.published;
  last = omega arith;
  floor = λ shard. number_told (key_shard run.places store key == shard) at.floor;
  last_floor = omega arith;
}

look_shows : {E : Type 0} (run : Run E) (at : Progress) → ShowsAt run at (line.Flushed (cover_at at))
look_shows run at = record {
  chunks = λ shard. first_worked at;
  worked = tt;
  flushed = first_worked at;
  published = λ shard. omega arith;
  last = omega arith;
  floor = λ shard. omega arith;
  last_floor = omega arith;
}

work_shows : {E : Type 0} (run : Run E) (at to : Progress) (count : ℕ) (chunks : List ℕ) → AllByRecursion (λ c. c < to.worked) chunks → ShowsAt run to (line.Worked count chunks)
work_shows run at to count chunks below = record {
  chunks = λ shard. below;
  worked = below;
  flushed = below;
  published = λ shard. omega arith;
  last = omega arith;
  floor = λ shard. omega arith;
  last_floor = omega arith;
}

publish_shows : {E : Type 0} (run : Run E) (at : Progress) → ShowsAt run at (line.Published at.published)
publish_shows run at = record {
  chunks = λ shard. tt;
  worked = tt;
  flushed = tt;
  published = λ shard. omega arith;
  last = omega arith;
  floor = λ shard. omega arith;
  last_floor = omega arith;
}

behind_expire : {E : Type 0} (run : Run E) (lines : List TranscriptLine) (at : Progress) (floor : ℕ) (t : Bool) → nat_le floor at.published ≡ t → IsBehind run lines at
    → IsBehind run (lines ++ cond t (line.Floor (cond t (max at.floor floor) at.floor)) (line.Refused floor at.published) ∷ []) (record at { floor = cond t (max at.floor floor) at.floor })
behind_expire run lines at floor true e h =
    goes_on run lines at (record at { floor = max at.floor floor }) (line.Floor (max at.floor floor)) h
    (record { chunks = λ shard. tt; worked = tt; flushed = tt; published = λ shard. omega arith; last = omega arith; floor = λ shard. omega arith; last_floor = omega arith })
    (omega arith) h.chunk_limit (omega arith) h.batch_limit (omega arith) (let below = h.below in let le = leb-true _ _ e in omega (arith, below, le))
behind_expire run lines at floor false e h =
    stays run lines at (line.Refused floor at.published) h
    (record { chunks = λ shard. tt; worked = tt; flushed = tt; published = λ shard. omega arith; last = omega arith; floor = λ shard. omega arith; last_floor = omega arith })

pub behind_next : {E : Type 0} (run : Run E) (lines : List TranscriptLine) (at : Progress) (a : Ask) → IsBehind run lines at → IsBehind run (lines ++ answer_line run at a ∷ []) (after run.places at a)
behind_next run lines at (ask.Read store key) h = stays run lines at _ h (read_shows run at store key _)
behind_next run lines at (ask.Asof batch store key) h = stays run lines at _ h (asof_shows run at batch store key _ (nat_lt (batch + 1) at.floor))
behind_next run lines at ask.Look h = stays run lines at _ h (look_shows run at)
behind_next run lines at (ask.Work most) h =
    let limit = h.chunk_limit in
    let to : Progress = record at { worked = min (at.worked + most) (chunks_of run.places) } in
    goes_on run lines at to _ h (work_shows run at to (to.worked - at.worked) _ (range_below at.worked (to.worked - at.worked) to.worked (omega (arith, limit))))
    (omega (arith, limit)) (omega arith) (omega arith) h.batch_limit (omega arith) h.below
behind_next run lines at (ask.Publish upto) h =
    let below = h.below in
    let limit = h.batch_limit in
    let to : Progress = record at { published = max at.published (min upto (batches_of run.places)) } in
    goes_on run lines at to _ h (publish_shows run to) (omega arith) h.chunk_limit (omega arith) (omega (arith, limit)) (omega arith) (omega (arith, below))
behind_next run lines at (ask.Expire floor) h = behind_expire run lines at floor (nat_le floor at.published) refl h

good_read : {E : Type 0} (run : Run E) (lines : List TranscriptLine) (at : Progress) (asked store : ℕ) (key : List ℕ) → IsBehind run lines at
    → IsGoodRead run lines asked store key (good_value run store asked key at.published (cover_at at)) at.published at.floor (cover_at at)
good_read run lines at asked store key h = record {
  good = refl;
  there = range_chunks run.places 0 at.worked (omega (arith, h.chunk_limit));
  batches = h.batch_limit;
  floors = h.below;
  fresh_chunks = all_in_first at.worked _ (h.chunks (key_shard run.places store key));
  fresh_published = h.published (key_shard run.places store key);
  fresh_floor = h.floor (key_shard run.places store key);
}

asof_answers : {E : Type 0} (run : Run E) (lines : List TranscriptLine) (at : Progress) (batch store : ℕ) (key : List ℕ) (t : Bool) → nat_lt (batch + 1) at.floor ≡ t → IsBehind run lines at
    → AnswersAsof run lines batch store key (cond t (line.Expired store key batch at.floor) (line.Asof batch store key (good_value run store batch key at.published (cover_at at)) at.published at.floor (cover_at at)))
asof_answers run lines at batch store key true e h =
    let below = h.below in
    let limit = h.batch_limit in
    (refl, refl, refl, record { above = ltb-true _ _ e; batches = omega (arith, below, limit); fresh = h.floor (key_shard run.places store key) })
asof_answers run lines at batch store key false e h = (refl, refl, refl, ltb-false _ _ e, good_read run lines at batch store key h)

expire_answers : {E : Type 0} (run : Run E) (lines : List TranscriptLine) (at : Progress) (floor : ℕ) (t : Bool) → nat_le floor at.published ≡ t → IsBehind run lines at
    → AnswersExpire lines floor (cond t (line.Floor (cond t (max at.floor floor) at.floor)) (line.Refused floor at.published))
expire_answers run lines at floor true e h =
    let last = h.last in
    let le = leb-true _ _ e in
    (omega (arith, last, le), ap (λ n. max n floor) (sym h.last_floor))
expire_answers run lines at floor false e h = (refl, sym h.last, leb-false _ _ e)

answers : {E : Type 0} (run : Run E) (lines : List TranscriptLine) (at : Progress) (a : Ask) → IsBehind run lines at → Answers run lines a (answer_line run at a)
answers run lines at (ask.Read store key) h = (refl, refl, good_read run lines at last_batch store key h)
answers run lines at (ask.Asof batch store key) h = asof_answers run lines at batch store key (nat_lt (batch + 1) at.floor) refl h
answers run lines at ask.Look h = record { there = range_chunks run.places 0 at.worked (omega (arith, h.chunk_limit)); fresh = all_in_first at.worked _ h.flushed }
answers run lines at (ask.Work most) h = record {
  number = sym (length-range_with_len at.worked _);
  limit = let limit = h.chunk_limit in omega (arith, limit);
  there = range_chunks run.places at.worked _ (let limit = h.chunk_limit in omega (arith, limit));
  new = range_new (flat_map worked_chunks lines) at.worked at.worked _ h.worked (omega arith);
}
answers run lines at (ask.Publish upto) h = ap (λ n. max n (min upto (batches_of run.places))) (sym h.last)
answers run lines at (ask.Expire floor) h = expire_answers run lines at floor (nat_le floor at.published) refl h

pub all_answer : {E : Type 0} (run : Run E) (lines : List TranscriptLine) (at : Progress) (asks : List Ask) → IsBehind run lines at → AnswerAll run lines asks (script_lines run at asks)
all_answer run lines at [] h = tt
all_answer run lines at (a ∷ asks) h = (answers run lines at a h, all_answer run (lines ++ answer_line run at a ∷ []) (after run.places at a) asks (behind_next run lines at a h))
