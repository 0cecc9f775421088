use Rattle.std.proofs.Common.{◌≡◌, drop}
use Rattle.std.specs.Prelude.{◌==◌}
use Rattle.std.specs.List.{find, starts_with}
use Rattle.sb_tokens.specs.Symbol.{symbol_text}
use Rattle.sb_tokens.proofs.symbol.find_symbol.Given as goal

abbrev pub invariant-loop-symbol : goal.invariant-loop-symbol
invariant-loop-symbol l =
    find (λ s. starts_with ◌==◌ l.bytes (symbol_text s)) (drop l.symbol-index l.symbols) ≡ find (λ s. starts_with ◌==◌ l.bytes (symbol_text s)) l.symbols
