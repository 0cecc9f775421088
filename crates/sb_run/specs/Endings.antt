-- How an answer is put.
use Rattle.std.specs.Prelude.{◌≡◌, ◌⊎◌, ℕ, List, Option, Result, Ok, Err}
use Rattle.sb_io.specs.Sink.{Appends}
use Rattle.sb_io.specs.declared.sink.SinkError.{SinkError}
use Rattle.sb_load.specs.Refusals.{Answer}

-- the line of an answer was put, the sink failed, or it wanted memory
abbrev pub PutEnds : Answer → Option (List ℕ) → Option (List ℕ) → ℕ → Type 0
PutEnds answer before now status = ((status ≡ answer.status) × Appends answer.bytes before now) ⊎ (status ≡ 4) ⊎ (status ≡ 5)

-- a command that put all has the status 0, and any other one 4 or 5
abbrev pub EndsPut : Result (Unit {0}) SinkError → Option (List ℕ) → Option (List ℕ) → ℕ → Type 0
EndsPut (Ok done) before now status = (status ≡ 0) × (now ≡ before)
EndsPut (Err e) before now status = (status ≡ 4) ⊎ (status ≡ 5)
