-- Bytes on their way to a sink: some were put, and some wait in a block.
use Rattle.std.specs.Prelude.{◌≡◌, ℕ, List, ◌++◌, Option, Some, IfSome, option_map}

-- What the sink tells and what waits behind it, together, went on by these bytes. Where the sink doesn't tell, nothing is said.
abbrev pub Sends : List ℕ → Option (List ℕ) → List ℕ → Option (List ℕ) → List ℕ → Type 0
Sends bytes before waiting_before now waiting_now = IfSome before (λ old. option_map (λ new. new ++ waiting_now) now ≡ Some (old ++ (waiting_before ++ bytes)))
