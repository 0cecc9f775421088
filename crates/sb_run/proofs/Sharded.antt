-- The machine of a script doesn't look at the number of shards.
use Rattle.std.proofs.Common.{◌≡◌, ℕ, List, [], ◌∷◌, refl, ap, ◌∙◌}
use Rattle.sb_laws.proofs.Positions.{ap_both}
use Rattle.sb_report.specs.declared.script.Ask.{Ask}
use Rattle.sb_report.specs.declared.script.Ask.TheVariants as ask
use Rattle.sb_run.specs.Run.{Run}
use Rattle.sb_run.specs.ScriptOutput.{Progress, start, after, answer_line, script_lines, transcript_of, run_text}

module _ {E : Type 0} (run : Run E) (shards : ℕ) where
  same_after : (at : Progress) (a : Ask) → after (record run.places { shards = shards }) at a ≡ after run.places at a
  same_after at (ask.Read store key) = refl
  same_after at (ask.Asof batch store key) = refl
  same_after at ask.Look = refl
  same_after at (ask.Work most) = refl
  same_after at (ask.Publish upto) = refl
  same_after at (ask.Expire floor) = refl

  same_line : (at : Progress) (a : Ask) → answer_line (record run { places = record run.places { shards = shards } }) at a ≡ answer_line run at a
  same_line at (ask.Read store key) = refl
  same_line at (ask.Asof batch store key) = refl
  same_line at ask.Look = refl
  same_line at (ask.Work most) = refl
  same_line at (ask.Publish upto) = refl
  same_line at (ask.Expire floor) = refl

  same_lines : (at : Progress) (asks : List Ask) → script_lines (record run { places = record run.places { shards = shards } }) at asks ≡ script_lines run at asks
  same_lines at [] = refl
  same_lines at (a ∷ asks) =
      ap_both ◌∷◌ (same_line at a) (ap (λ next. script_lines (record run { places = record run.places { shards = shards } }) next asks) (same_after at a) ∙ same_lines (after run.places at a) asks)

  pub same_text : (asks : List Ask) → run_text (record run { places = record run.places { shards = shards } }) asks ≡ run_text run asks
  same_text asks = ap (transcript_of run) (same_lines start asks)
