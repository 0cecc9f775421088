-- Batches of time: batch 0 begins at a given time, and each is as long as the others.
use Rattle.std.specs.Prelude.{ℕ, ◌-◌, ◌*◌, ◌/◌, ◌^◌, nat_lt, ℤ, pos, negsuc, ◌+ℤ◌, int_lt, Option, Some, None, if◌then◌else◌}
use Rattle.std.specs.Int.{int_gap}

-- the length of a batch and the time at which batch 0 begins, in milliseconds
pub record Batching : Type 0 where
  pub length : ℕ
  pub from : ℤ

-- batches of this length from this time on; none of a length below 1
abbrev pub batching_of : ℤ → ℤ → Option Batching
batching_of (pos n) from = if nat_lt 0 n then Some (record { length = n; from = from }) else None
batching_of (negsuc n) from = None

-- the batch of a time: none before batch 0, else how often the length fits into what has passed
abbrev pub batch_of : Batching → ℤ → Option ℕ
batch_of b t = if int_lt t b.from then None else Some (int_gap b.from t / b.length)

-- the greatest time
abbrev pub last_time : ℤ
last_time = pos (2 ^ 63 - 1)

-- the first time of a batch; none where it is above the greatest
abbrev pub earliest_of : Batching → ℕ → Option ℤ
earliest_of b n =
    let t = b.from +ℤ pos (n * b.length) in
    if int_lt last_time t then None else Some t
