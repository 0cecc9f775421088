use Rattle.std.proofs.Common.{◌≡◌, ◌++◌, drop, option_map}
use Rattle.sb_tokens.specs.Quote.{bytes_quoted}
use Rattle.sb_tokens.proofs.Quotes.{quoted_rest}
use Rattle.sb_tokens.proofs.quoting.unquote.Given as goal

abbrev pub invariant-loop-byte : goal.invariant-loop-byte
invariant-loop-byte l = option_map (λ rest. l.value.items ++ rest) (quoted_rest l.escaping (drop l.byte-index l.behind)) ≡ bytes_quoted l.behind
