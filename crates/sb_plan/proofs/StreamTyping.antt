-- What a stream gives of a record is of its type, and no more than its width.
use Rattle.std.proofs.Common.{◌≡◌, ◌≤◌, List, [], ◌∷◌, length, IsUtf8}
use Rattle.std.specs.Prelude.{Ok}
use Rattle.std.specs.List.{AllByRecursion}
use Rattle.sb_types.specs.Typed.{IsValueOf}
use Rattle.sb_types.specs.Value.{Value}
use Rattle.sb_types.specs.ValueType.{ValueType}
use Rattle.sb_grammar.specs.declared.programs.Stream.{Stream}
use Rattle.sb_check.specs.Declarations.{Declarations, TypedFlow}
use Rattle.sb_check.specs.Log.{Logged}
use Rattle.sb_check.specs.Streams.{stream_walk}
use Rattle.sb_service.specs.Rows.{Rows}
use Rattle.sb_meaning.specs.Shaped.{IsValueWith}
use Rattle.sb_meaning.specs.Texts.{flow_texts}
use Rattle.sb_meaning.proofs.Typing.{value_without, utf8_kept}
use Rattle.sb_plan.specs.Given.{given}
use Rattle.sb_plan.specs.TypedRecords.{IsDeclared, AreRowsOf, AreLetsOf}
use Rattle.sb_plan.proofs.StreamTypes.{stream_sound}

all_without : (t : ValueType) (vs : List Value) → AllByRecursion (IsValueWith IsUtf8 t) vs → AllByRecursion (IsValueOf t) vs
all_without t [] are = tt
all_without t (v ∷ vs) are = (value_without t v are.0, all_without t vs are.1)

-- where the texts in the stream are UTF-8, and record, rows and lets are of the types that are declared
pub given_typed : (s : Stream) (d : Declarations) (f : TypedFlow) → stream_walk s d ≡ Ok f → AllByRecursion IsUtf8 (flow_texts f.flow)
    → (r : Logged) (services : List Rows) (lets : List (List Value)) → IsDeclared IsUtf8 d r → AreRowsOf IsUtf8 d services → AreLetsOf IsUtf8 d lets
    → AllByRecursion (IsValueOf f.type) (given f.flow r services lets) × (length (given f.flow r services lets) ≤ f.width)
given_typed s d f walked utf8 r services lets is_record are_rows are_lets =
    let are = stream_sound IsUtf8 utf8_kept d r services lets is_record are_rows are_lets s f walked utf8 in
    (all_without f.type (given f.flow r services lets) are.0, are.1)
