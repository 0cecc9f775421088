use Rattle.std.proofs.Common.{◌^◌, arith}
use Rattle.sb_sketch.proofs.Counting.{has_room}
use Rattle.sb_sketch.proofs.places.have_room.Goals as goal

pub returns-then-places-lt-MANY : goal.returns-then-places-lt-MANY
returns-then-places-lt-MANY c low = has_room c.args.cells.now (2 ^ 62) c.args.places.now (c.are_low.ensures low) (omega (arith, c.if-places-lt-MANY.true))
