-- Lists with commas, from a place on.
use Rattle.std.proofs.Common.{ℕ, zero, suc, List, codes}
use Rattle.sb_grammar.specs.Text.{listed, each_behind}

abbrev pub listed_from : ℕ → List (List ℕ) → List ℕ
listed_from zero texts = listed texts
listed_from (suc n) texts = each_behind (codes ", ") texts
