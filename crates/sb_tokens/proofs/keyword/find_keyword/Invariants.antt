use Rattle.std.proofs.Common.{◌≡◌, drop}
use Rattle.std.specs.Prelude.{bytes_eq}
use Rattle.std.specs.List.{find}
use Rattle.sb_tokens.specs.Keyword.{keyword_text}
use Rattle.sb_tokens.proofs.keyword.find_keyword.Given as goal

abbrev pub invariant-loop-keyword : goal.invariant-loop-keyword
invariant-loop-keyword l =
    find (λ k. bytes_eq (keyword_text k) l.bytes) (drop l.keyword-index l.keywords) ≡ find (λ k. bytes_eq (keyword_text k) l.bytes) l.keywords
