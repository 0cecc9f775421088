use Rattle.std.proofs.Common.{refl}
use Rattle.sb_meaning.specs.Its.{it_value}
use Rattle.sb_meaning.proofs.Views.{ev-List}
use Rattle.sb_meaning.proofs.evaluation.+value.Goals as goal

pub value-returns : goal.value-returns
value-returns t c =
    rw (c.in-List.is, ev-List c.in-List.parts (it_value c.args.it), c.listed.ensures, c.in_ok-values-in-List.ensures, c.as_slice.ensures) refl
