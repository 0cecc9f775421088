use Rattle.std.proofs.Common.{◌≡◌, ◌∙◌, map, refl, sym, ap}
use Rattle.std.proofs.lemmas.Result.{IfOk-weaker}
use Rattle.sb_meaning.specs.Streams.{at_of}
use Rattle.sb_meaning.proofs.Views.{list_at_view}
use Rattle.sb_meaning.proofs.flows.let_at.Goals as goal

pub returns-in-Some : goal.returns-in-Some
returns-in-Some c = rw (list_at_view (λ l. map at_of l.items) c.args.lets.now c.args.number, sym c.get.ensures.value, c.in-Some.is)
    (IfOk-weaker c.copy_all.result (λ out. out.items ≡ c.deref.result.now) (λ out. map at_of out.items ≡ map at_of c.in-Some.values.now.items)
    (λ out e. ap (map at_of) (e ∙ c.deref.ensures.value)) c.copy_all.ensures)

pub returns-in-None : goal.returns-in-None
returns-in-None c = rw (list_at_view (λ l. map at_of l.items) c.args.lets.now c.args.number, sym c.get.ensures.value, c.in-None.is, c.new.ensures.items) refl
