use Rattle.std.proofs.Common.{◌≡◌, ◌∙◌, Some, ap}
use Rattle.std.specs.Prelude.{IfSome, option_map}
use Rattle.std.proofs.lemmas.Result.{IfOk-weaker}
use Rattle.sb_types.specs.Read.{value_read}
use Rattle.sb_types.specs.Typed.{IsValueOf}
use Rattle.sb_types.specs.TyView.{type_of}
use Rattle.sb_types.specs.Text.{value_text}
use Rattle.sb_types.specs.ValView.{value_of}
use Rattle.sb_types.specs.Value.{Value}
use Rattle.sb_types.proofs.ReadAgain.{read-text}
use Rattle.sb_types.proofs.ReadSpelled.{IsRead, read-spelled, from_view}
use Rattle.sb_types.proofs.reading.read.Goals as goal

pub returns-clause-spelled : goal.returns-clause-spelled
returns-clause-spelled c =
    let t = type_of c.args.ty.now in
    let bytes = c.args.bytes.now in
    IfOk-weaker c.read_whole.result (λ value. option_map value_of value ≡ value_read t bytes) (λ value. IfSome value (λ v. IsRead t bytes (value_of v)))
    (λ value is. from_view value_of value (value_read t bytes) (IsRead t bytes) is (read-spelled t bytes)) c.read_whole.ensures

pub returns-clause-every : goal.returns-clause-every
returns-clause-every c =
    let t = type_of c.args.ty.now in
    let bytes = c.args.bytes.now in
    IfOk-weaker c.read_whole.result (λ value. option_map value_of value ≡ value_read t bytes)
    (λ value. (v : Value) → IsValueOf t v → bytes ≡ value_text v → option_map value_of value ≡ Some v)
    (λ value is v of text. is ∙ (ap (value_read t) text ∙ read-text t v of)) c.read_whole.ensures
