use Rattle.std.proofs.Common.{sym, refl}
use Rattle.sb_terms.proofs.Fields.{field_at}
use Rattle.sb_terms.proofs.tables.field_type.Goals as goal

pub returns-in_ok-copy-in-Some : goal.returns-in_ok-copy-in-Some
returns-in_ok-copy-in-Some c = rw (field_at c.args.fields.now c.args.place, sym c.get.ensures.value, c.in-Some.is, c.in_ok-copy-in-Some.ensures) refl

pub returns-in-None : goal.returns-in-None
returns-in-None c = rw (field_at c.args.fields.now c.args.place, sym c.get.ensures.value, c.in-None.is) refl
