use Rattle.std.proofs.Common.{◌≡◌, ◌++◌, drop, map}
use Rattle.sb_grammar.specs.Text.{listed, field_text}
use Rattle.sb_grammar.proofs.Listing.{listed_from}
use Rattle.sb_grammar.proofs.statement_text.push_fields.Given as goal

abbrev pub invariant-loop-at : goal.invariant-loop-at
invariant-loop-at l = l.out.items ++ listed_from l.at (map field_text (drop l.at l.fields)) ≡ l.fn.out.items ++ listed (map field_text l.fields)
