-- What a run without workers and publisher writes: a machine of three numbers, with one line for each ask.
use Rattle.std.specs.Prelude.{ℕ, ◌+◌, ◌-◌, nat_lt, nat_le, min, max, List, [], ◌∷◌, ◌++◌, if◌then◌else◌}
use Rattle.std.specs.List.{flat_map, range_with_len}
use Rattle.sb_report.specs.Transcript.{line_text}
use Rattle.sb_report.specs.declared.script.Ask.{Ask}
use Rattle.sb_report.specs.declared.script.Ask.TheVariants as ask
use Rattle.sb_report.specs.declared.line.TranscriptLine.{TranscriptLine}
use Rattle.sb_report.specs.declared.line.TranscriptLine.TheVariants as line
use Rattle.sb_feed.specs.Limits.{last_batch}
use Rattle.sb_feed.specs.Places.{Places, batches_of, chunks_of}
use Rattle.sb_run.specs.Run.{Run, store_name, good_value, report_text}

-- how many chunks are worked, how many batches are published, and the floor
pub record Progress : Type 0 where
  pub worked : ℕ
  pub published : ℕ
  pub floor : ℕ

abbrev pub start : Progress
start = record { worked = 0; published = 0; floor = 0 }

-- the first chunks, as many as are worked
abbrev pub cover_at : Progress → List ℕ
cover_at at = range_with_len 0 at.worked

-- the floor doesn't pass the published batches
abbrev pub floor_after : Progress → ℕ → ℕ
floor_after at floor = if nat_le floor at.published then max at.floor floor else at.floor

-- what an ask changes
abbrev pub after : Places → Progress → Ask → Progress
after places at (ask.Read store key) = at
after places at (ask.Asof batch store key) = at
after places at ask.Look = at
after places at (ask.Work most) = record at { worked = min (at.worked + most) (chunks_of places) }
after places at (ask.Publish upto) = record at { published = max at.published (min upto (batches_of places)) }
after places at (ask.Expire floor) = record at { floor = floor_after at floor }

-- the line of an ask
abbrev pub answer_line : {E : Type 0} → Run E → Progress → Ask → TranscriptLine
answer_line run at (ask.Read store key) =
    line.Read store key (good_value run store last_batch key at.published (cover_at at)) at.published at.floor (cover_at at)
answer_line run at (ask.Asof batch store key) =
    if nat_lt (batch + 1) at.floor then line.Expired store key batch at.floor
    else line.Asof batch store key (good_value run store batch key at.published (cover_at at)) at.published at.floor (cover_at at)
answer_line run at ask.Look = line.Flushed (cover_at at)
answer_line run at (ask.Work most) =
    line.Worked ((after run.places at (ask.Work most)).worked - at.worked) (range_with_len at.worked ((after run.places at (ask.Work most)).worked - at.worked))
answer_line run at (ask.Publish upto) = line.Published (after run.places at (ask.Publish upto)).published
answer_line run at (ask.Expire floor) = if nat_le floor at.published then line.Floor (floor_after at floor) else line.Refused floor at.published

-- the lines of a script's asks
abbrev pub script_lines : {E : Type 0} → Run E → Progress → List Ask → List TranscriptLine
script_lines run at [] = []
script_lines run at (a ∷ asks) = answer_line run at a ∷ script_lines run (after run.places at a) asks

abbrev pub lines_text : (ℕ → List ℕ) → List TranscriptLine → List ℕ
lines_text name lines = flat_map (line_text name) lines

-- the lines of the script, `drained`, the report, and `end`
abbrev pub transcript_of : {E : Type 0} → Run E → List TranscriptLine → List ℕ
transcript_of run lines = lines_text (store_name run) lines ++ (line_text (store_name run) line.Drained ++ (report_text run ++ line_text (store_name run) line.End))

abbrev pub run_text : {E : Type 0} → Run E → List Ask → List ℕ
run_text run asks = transcript_of run (script_lines run start asks)
