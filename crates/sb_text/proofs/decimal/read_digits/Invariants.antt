use Rattle.std.proofs.Common.{◌≡◌, ◌≤◌, drop}
use Rattle.sb_text.specs.Decimal.{number_after}
use Rattle.sb_text.proofs.decimal.read_digits.Given as goal

abbrev pub invariant-loop-digit : goal.invariant-loop-digit
invariant-loop-digit l = record {
  value : number_after l.most l.number (drop l.digit-index l.digits) ≡ number_after l.most 0 l.digits;
  bound : l.number ≤ l.most;
}
