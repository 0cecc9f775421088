use Rattle.sb_types.proofs.ValBack.{val_of-value_of, value_of-val_of}
use Rattle.sb_types.proofs.laws.views_are_exact.Goals as goal

pub returns : goal.returns
returns c = record { back = val_of-value_of; value = value_of-val_of }
