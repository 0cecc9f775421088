use Rattle.std.proofs.Common.{◌≡◌, ◌∙◌}
use Rattle.sb_sketch.specs.Cells.{one_cell}
use Rattle.sb_sketch.proofs.Raising.{raised_to_one}
use Rattle.sb_sketch.proofs.registers.Registers.raise.Goals as goal

pub returns-in-One : goal.returns-in-One
returns-in-One c =
    let view : one_cell c.in-One.count c.in-One.at c.in-One.register ≡ c.args.self.now = rw c.in-One.is at c.self.view_is in
    c.raise_one.ensures.raised ∙ raised_to_one c.in-One.count c.in-One.at c.in-One.register c.args.self.now c.args.raised.now.items view c.requires
