use Rattle.std.proofs.Common.{◌++◌, take, drop, ap, ◌∙◌, add-one}
use Rattle.sb_sketch.proofs.Counting.{taken_out, is_named}
use Rattle.sb_sketch.proofs.places.take_out.Goals as goal

pub returns-in-Some : goal.returns-in-Some
returns-in-Some c count earlier inside room is =
    let ps = c.args.places.now.items in
    let at = c.in-Some.at in
    let found = rw c.as_slice.ensures.value at c.in-Some.ensures in
    taken_out count ps at c.args.place c.remove.new.self.items earlier found.0 found.1
    (c.remove.ensures.by_index.2 ∙ ap (λ n. take at ps ++ drop n ps) (add-one at)) inside room is

pub returns-in_default : goal.returns-in_default
returns-in_default c count earlier inside room is =
    absurd (is_named count c.args.places.now.items c.args.place earlier inside room is (rw c.as_slice.ensures.value at c.in_default.ensures))
