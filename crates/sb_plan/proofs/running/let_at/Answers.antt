use Rattle.std.proofs.Common.{map, refl, sym, ap}
use Rattle.sb_types.specs.ValView.{value_of}
use Rattle.sb_meaning.proofs.Views.{list_at_view}
use Rattle.sb_plan.proofs.running.let_at.Goals as goal

pub returns-in-Some : goal.returns-in-Some
returns-in-Some c = rw (list_at_view (λ l. map value_of l.items) c.args.lets.now c.args.number, sym c.at.ensures, c.in-Some.is) (ap (map value_of) c.as_slice.ensures.value)

pub returns-in-None : goal.returns-in-None
returns-in-None c = rw (list_at_view (λ l. map value_of l.items) c.args.lets.now c.args.number, sym c.at.ensures, c.in-None.is) refl
