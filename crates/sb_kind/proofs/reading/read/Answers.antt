use Rattle.std.proofs.Common.{◌≡◌, ◌∙◌, Some, ap}
use Rattle.std.specs.Prelude.{IfSome}
use Rattle.std.proofs.lemmas.Result.{IfOk-weaker}
use Rattle.sb_types.specs.TyView.{type_of}
use Rattle.sb_kind.specs.ElementText.{element_text}
use Rattle.sb_kind.specs.Elements.{IsOf}
use Rattle.sb_kind.specs.KindView.{monoid_of}
use Rattle.sb_kind.specs.Read.{element_read}
use Rattle.sb_kind.specs.Typed.{IsTyped}
use Rattle.sb_kind.specs.declared.agg.Agg.{Agg}
use Rattle.sb_kind.proofs.ElementReads.{IsRead, read-spelled, read-text, some_read}
use Rattle.sb_kind.proofs.reading.read.Goals as goal

pub returns-clause-spelled : goal.returns-clause-spelled
returns-clause-spelled c =
    let m = monoid_of c.args.kind.now in
    let t = type_of c.args.elem.now in
    let bytes = c.args.bytes.now in
    IfOk-weaker c.read_whole.result (λ element. element ≡ element_read m t bytes) (λ element. IfSome element (IsRead m t bytes))
    (λ element is. some_read element (element_read m t bytes) (IsRead m t bytes) is (read-spelled m t bytes)) c.read_whole.ensures

pub returns-clause-every : goal.returns-clause-every
returns-clause-every c =
    let m = monoid_of c.args.kind.now in
    let t = type_of c.args.elem.now in
    let bytes = c.args.bytes.now in
    IfOk-weaker c.read_whole.result (λ element. element ≡ element_read m t bytes) (λ element. (a : Agg) → IsOf m a → IsTyped m t a → bytes ≡ element_text a → element ≡ Some a)
    (λ element is a of typed text. is ∙ (ap (element_read m t) text ∙ read-text m t a of typed)) c.read_whole.ensures
