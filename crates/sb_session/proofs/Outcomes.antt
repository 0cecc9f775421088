-- What holds where a result is good.
use Rattle.std.specs.Prelude.{OnOk}
use Rattle.std.specs.declared.result.Result.{Result}
use Rattle.std.specs.declared.result.Result.TheVariants.{Ok, Err}

pub three_ok : {T R : Type 0} {P Q S G : Type 0} (r : Result T R) → OnOk r P → OnOk r Q → OnOk r S → (P → Q → S → G) → OnOk r G
three_ok (Ok _) p q s f = f p q s
three_ok (Err _) p q s f = tt

pub four_ok : {T R : Type 0} {P Q S U G : Type 0} (r : Result T R) → OnOk r P → OnOk r Q → OnOk r S → OnOk r U → (P → Q → S → U → G) → OnOk r G
four_ok (Ok _) p q s u f = f p q s u
four_ok (Err _) p q s u f = tt
