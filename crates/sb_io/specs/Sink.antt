-- What is known of a sink of bytes, and what a put leaves.
use Rattle.std.specs.Prelude.{◌≡◌, ℕ, ◌≤◌, List, ◌++◌, take, Option, Some, Result, IfSome, OnOk, IsErrOf}
use Rattle.sb_io.specs.Faults.{Rose}
use Rattle.sb_io.specs.declared.sink.SinkError.{SinkError}
use Rattle.sb_io.specs.declared.sink.SinkError.TheVariants.{Failed, NoMemory}

-- where the sink told `before`, it tells these bytes behind it
abbrev pub Appends : List ℕ → Option (List ℕ) → Option (List ℕ) → Type 0
Appends bytes before now = IfSome before (λ old. now ≡ Some (old ++ bytes))

-- the same with a prefix of the bytes
abbrev pub AppendsPrefix : List ℕ → Option (List ℕ) → Option (List ℕ) → Type 0
AppendsPrefix bytes before now = IfSome before (λ old. (count : ℕ) × (now ≡ Some (old ++ take count bytes)))

-- a put writes all bytes, a prefix of them where it failed, and none for want of memory
pub record Puts (bytes : List ℕ) (before now : Option (List ℕ)) (result : Result (Unit {0}) SinkError) : Type 0 where
  pub ok : OnOk result (Appends bytes before now)
  pub failed : IsErrOf result Failed → AppendsPrefix bytes before now
  pub memory : IsErrOf result NoMemory → IfSome before (λ old. now ≡ Some old)

-- a fault is answered only where the count rose
pub record HasSinkCause (before now : ℕ) (result : Result (Unit {0}) SinkError) : Type 0 where
  pub later : before ≤ now
  pub failed : IsErrOf result Failed → Rose before now
