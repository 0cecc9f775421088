use Rattle.sb_sketch.proofs.Raising.{not_nothing}
use Rattle.sb_sketch.proofs.registers.is_nothing.Goals as goal

pub returns-else-register-eq0 : goal.returns-else-register-eq0
returns-else-register-eq0 c = not_nothing c.args.count c.args.at c.args.register c.if-register-eq0.false
