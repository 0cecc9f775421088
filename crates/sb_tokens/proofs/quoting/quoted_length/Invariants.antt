use Rattle.std.proofs.Common.{◌≡◌, ◌<◌, true, drop}
use Rattle.sb_tokens.specs.Quote.{bytes_quoted}
use Rattle.sb_tokens.proofs.Quotes.{lengths_after, length_behind}
use Rattle.sb_tokens.proofs.quoting.quoted_length.Given as goal

abbrev pub invariant-loop-at : goal.invariant-loop-at
invariant-loop-at l = record {
  length : length_behind l.escaping l.at (drop l.at l.behind) ≡ lengths_after 0 (bytes_quoted l.behind);
  passed : l.escaping ≡ true → 0 < l.at;
}
