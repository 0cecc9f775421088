use Rattle.std.proofs.Common.{◌≡◌, ◌∙◌, ◌++◌, ℕ, List, ap}
use Rattle.std.specs.Prelude.{IfSome, option_map}
use Rattle.std.proofs.lemmas.Result.{IfOk-weaker}
use Rattle.sb_types.specs.Read.{IsEnd, front_of, value_front}
use Rattle.sb_types.specs.Typed.{IsValueOf}
use Rattle.sb_types.specs.TyView.{type_of}
use Rattle.sb_types.specs.Text.{value_text}
use Rattle.sb_types.specs.Value.{Value}
use Rattle.sb_types.proofs.ReadAgain.{front, front_again}
use Rattle.sb_types.proofs.ReadSpelled.{IsFront, front-spelled, from_view}
use Rattle.sb_types.proofs.reading.read_front.Goals as goal

pub returns-clause-spelled : goal.returns-clause-spelled
returns-clause-spelled c =
    let t = type_of c.args.ty.now in
    let bytes = c.args.bytes.now in
    IfOk-weaker c.value_at_front.result (λ read. option_map front_of read ≡ value_front t bytes) (λ read. IfSome read (λ r. IsFront t bytes (front_of r)))
    (λ read is. from_view front_of read (value_front t bytes) (IsFront t bytes) is (front-spelled t bytes)) c.value_at_front.ensures

pub returns-clause-every : goal.returns-clause-every
returns-clause-every c =
    let t = type_of c.args.ty.now in
    let bytes = c.args.bytes.now in
    IfOk-weaker c.value_at_front.result (λ read. option_map front_of read ≡ value_front t bytes)
    (λ read. (v : Value) (rest : List ℕ) → IsValueOf t v → IsEnd rest → bytes ≡ value_text v ++ rest → option_map front_of read ≡ front v rest)
    (λ read is v rest of ends text. is ∙ (ap (value_front t) text ∙ front_again t v rest of ends)) c.value_at_front.ensures
