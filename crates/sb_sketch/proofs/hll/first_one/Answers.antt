use Rattle.std.proofs.Common.{arith}
use Rattle.sb_sketch.proofs.Raising.{zeros_after}
use Rattle.sb_sketch.proofs.hll.first_one.Goals as goal

pub overflow_sub-result : goal.overflow_sub-result
overflow_sub-result c = omega (arith, zeros_after c.args.bits c.args.word c.requires.0 c.requires.1)

pub returns : goal.returns
returns c = omega (arith, zeros_after c.args.bits c.args.word c.requires.0 c.requires.1)
