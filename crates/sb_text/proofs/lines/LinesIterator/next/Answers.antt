use Rattle.std.proofs.Common.{◌∙◌, sym, ◌<◌, length, arith}
use Rattle.std.proofs.lemmas.Bool.Decides.{nat_tests}
use Rattle.sb_text.proofs.Splits.{lines-split, lines-whole, goes_on}
use Rattle.sb_text.proofs.lines.LinesIterator.next.Goals as goal

pub returns-in-Some-clause-steps : goal.returns-in-Some-clause-steps
returns-in-Some-clause-steps c =
    sym c.self.view_is ∙ rw c.in-Some.ensures.1 (lines-split c.self.inside.next c.in-Some.bytes.now c.in-Some.rest.now c.in-Some.ensures.0)

pub returns-in-Some-clause-goes : goal.returns-in-Some-clause-goes
returns-in-Some-clause-goes c = goes_on (returns-in-Some-clause-steps c)

pub returns-in-None-clause-steps : goal.returns-in-None-clause-steps
returns-in-None-clause-steps c =
    let some : 0 < length c.self.inside.rest.now = grind (arith, nat_tests, c.if-is_empty.ensures) in
    sym c.self.view_is ∙ lines-whole c.self.inside.next c.self.inside.rest.now some c.in-None.ensures

pub returns-in-None-clause-goes : goal.returns-in-None-clause-goes
returns-in-None-clause-goes c = goes_on (returns-in-None-clause-steps c)
