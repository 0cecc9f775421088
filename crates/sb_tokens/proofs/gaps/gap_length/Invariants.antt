use Rattle.std.proofs.Common.{◌≡◌, ◌+◌, ℕ, drop}
use Rattle.sb_tokens.specs.Lexed.{lexed_from}
use Rattle.sb_tokens.proofs.Passing.{lexed_between}
use Rattle.sb_tokens.proofs.gaps.gap_length.Given as goal

abbrev pub invariant-loop-at : goal.invariant-loop-at
invariant-loop-at l = (offset : ℕ) → lexed_from offset l.bytes ≡ lexed_between l.in_comment (offset + l.at) (drop l.at l.bytes)
