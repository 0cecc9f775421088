-- Parts of a list that were walked before others.
use Rattle.std.proofs.Common.{List, ◌++◌, map}
use Rattle.sb_types.specs.ValueType.{ValueType}
use Rattle.sb_terms.specs.declared.term.Term.{Term}
use Rattle.sb_terms.specs.Outcome.{Outcome}
use Rattle.sb_terms.specs.Nodes.{TypedTerm, list_of}

-- the list of parts of these terms and types, and then of others
abbrev pub listed_behind : List Term → List ValueType → List TypedTerm → Outcome TypedTerm
listed_behind terms types parts = list_of (terms ++ map (λ p. p.term) parts) (types ++ map (λ p. p.type) parts)
