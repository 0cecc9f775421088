use Rattle.std.proofs.Common.{refl, sym}
use Rattle.sb_types.proofs.ValBack.{val_of-value_of}
use Rattle.sb_meaning.proofs.emissions.prepare_one.Goals as goal

pub returns-clause-value : goal.returns-clause-value
returns-clause-value c =
    rw (sym c.halves_in-key.ensures.first, sym c.halves_in-key.ensures.second, val_of-value_of c.halves_in-key.result.1, c.in_ok-value.ensures.element) refl
