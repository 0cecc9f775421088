-- What a run without workers writes is settled.
use Rattle.std.proofs.Common.{◌≡◌, ℕ, ◌+◌, ◌≤◌, Bool, true, false, cond, List, [], ◌∷◌, ◌++◌, refl, sym, arith}
use Rattle.std.proofs.lemmas.Bool.Decides.{nat_tests}
use Rattle.std.specs.Prelude.{nat_lt, nat_le, ◌||◌}
use Rattle.sb_report.specs.declared.script.Ask.{Ask}
use Rattle.sb_report.specs.declared.script.Ask.TheVariants as ask
use Rattle.sb_report.specs.declared.line.TranscriptLine.{TranscriptLine}
use Rattle.sb_report.specs.declared.line.TranscriptLine.TheVariants as line
use Rattle.sb_feed.specs.Places.{batches_of, chunks_of}
use Rattle.sb_run.specs.Run.{Run, good_value}
use Rattle.sb_run.specs.ScriptOutput.{Progress, start, cover_at, floor_after, after, answer_line, script_lines, run_text}
use Rattle.sb_run.specs.Settled.{serial, SettlesRead, ShowsNone, SettlesWork, is_short, SettleAll, IsSettled}
use Rattle.sb_run.proofs.Transcripts.{IsBehind, behind_start, behind_next, all_answer}

asof_settled : {E : Type 0} (run : Run E) (lines : List TranscriptLine) (at : Progress) (batch store : ℕ) (key : List ℕ) (t : Bool) → IsBehind run lines at
    → SettlesRead serial (batches_of run.places) lines (cond t (line.Expired store key batch at.floor) (line.Asof batch store key (good_value run store batch key at.published (cover_at at)) at.published at.floor (cover_at at)))
asof_settled run lines at batch store key true h = sym h.last_floor
asof_settled run lines at batch store key false h = (sym h.last, sym h.last_floor)

expire_settled : {E : Type 0} (run : Run E) (lines : List TranscriptLine) (at : Progress) (floor : ℕ) (t : Bool)
    → SettlesRead serial (batches_of run.places) lines (cond t (line.Floor (floor_after at floor)) (line.Refused floor at.published))
expire_settled run lines at floor true = tt
expire_settled run lines at floor false = tt

reads_settled : {E : Type 0} (run : Run E) (lines : List TranscriptLine) (at : Progress) (a : Ask) → IsBehind run lines at → SettlesRead serial (batches_of run.places) lines (answer_line run at a)
reads_settled run lines at (ask.Read store key) h = (sym h.last, sym h.last_floor)
reads_settled run lines at (ask.Asof batch store key) h = asof_settled run lines at batch store key (nat_lt (batch + 1) at.floor) h
reads_settled run lines at ask.Look h = tt
reads_settled run lines at (ask.Work most) h = tt
reads_settled run lines at (ask.Publish upto) h = tt
reads_settled run lines at (ask.Expire floor) h = expire_settled run lines at floor (nat_le floor at.published)

-- a line that isn't `worked` shows no chunk, and isn't short
ShowsNothing : Ask → TranscriptLine → Type 0
ShowsNothing a l = ShowsNone l × (is_short a l ≡ false)

asof_shows : (a : Ask) (t : Bool) (k l : TranscriptLine) → ShowsNothing a k → ShowsNothing a l → ShowsNothing a (cond t k l)
asof_shows a true k l h i = h
asof_shows a false k l h i = i

work_settled : {E : Type 0} (run : Run E) (none_left : Bool) (at : Progress) (a : Ask) → (none_left ≡ true → at.worked ≡ chunks_of run.places) → SettlesWork none_left (answer_line run at a)
unfolding ShowsNothing
work_settled run true at (ask.Read store key) all = tt
work_settled run true at (ask.Asof batch store key) all = (asof_shows (ask.Asof batch store key) (nat_lt (batch + 1) at.floor) _ _ (tt, refl) (tt, refl)).0
work_settled run true at ask.Look all = tt
work_settled run true at (ask.Work most) all = let worked = all refl in omega (arith, worked)
work_settled run true at (ask.Publish upto) all = tt
work_settled run true at (ask.Expire floor) all = (asof_shows (ask.Expire floor) (nat_le floor at.published) _ _ (tt, refl) (tt, refl)).0
work_settled run false at a all = tt

-- once a `worked` line was short, all chunks are worked, and stay so
all_worked : {E : Type 0} (run : Run E) (none_left : Bool) (at : Progress) (a : Ask) → at.worked ≤ chunks_of run.places → (none_left ≡ true → at.worked ≡ chunks_of run.places)
    → (none_left || is_short a (answer_line run at a)) ≡ true → (after run.places at a).worked ≡ chunks_of run.places
all_worked run true at (ask.Read store key) limit all short = all refl
all_worked run true at (ask.Asof batch store key) limit all short = all refl
all_worked run true at ask.Look limit all short = all refl
all_worked run true at (ask.Work most) limit all short = let worked = all refl in omega (arith, worked)
all_worked run true at (ask.Publish upto) limit all short = all refl
all_worked run true at (ask.Expire floor) limit all short = all refl
all_worked run false at (ask.Read store key) limit all short = cc
all_worked run false at (ask.Asof batch store key) limit all short = cc
all_worked run false at ask.Look limit all short = cc
all_worked run false at (ask.Work most) limit all short = grind (arith, nat_tests, limit, short)
all_worked run false at (ask.Publish upto) limit all short = cc
all_worked run false at (ask.Expire floor) limit all short = cc

all_settled : {E : Type 0} (run : Run E) (none_left : Bool) (lines : List TranscriptLine) (at : Progress) (asks : List Ask) → IsBehind run lines at → (none_left ≡ true → at.worked ≡ chunks_of run.places)
    → SettleAll serial (batches_of run.places) none_left lines asks (script_lines run at asks)
all_settled run none_left lines at [] h all = tt
all_settled run none_left lines at (a ∷ asks) h all = (
  reads_settled run lines at a h,
  work_settled run none_left at a all,
  all_settled run (none_left || is_short a (answer_line run at a)) (lines ++ answer_line run at a ∷ []) (after run.places at a) asks
      (behind_next run lines at a h) (all_worked run none_left at a h.chunk_limit all),
)

pub script_is_settled : {E : Type 0} (run : Run E) (asks : List Ask) → IsSettled serial run asks (run_text run asks)
script_is_settled run asks = record {
  transcript = record { lines = script_lines run start asks; answer = all_answer run [] start asks (behind_start run); text = refl };
  settled = all_settled run false [] start asks (behind_start run) (λ e. cc);
}
