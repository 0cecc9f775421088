-- The fields of a source, seen and written.
use Rattle.std.proofs.Common.{ℕ, List, map}
use Rattle.sb_grammar.specs.declared.programs.FieldTree.{FieldTree}
use Rattle.sb_terms.specs.Written.{scalar_type}
use Rattle.sb_types.specs.TyView.{type_of}
use Rattle.sb_types.specs.ValueType.{ValueType}
use Rattle.sb_types.specs.declared.types.Field.{Field}

abbrev pub seen : List Field → List (List ℕ × ValueType)
seen fields = map (λ f. (f.name, type_of f.ty)) fields

abbrev pub written : List FieldTree → List (List ℕ × ValueType)
written trees = map (λ f. (f.name, scalar_type f.scalar)) trees
