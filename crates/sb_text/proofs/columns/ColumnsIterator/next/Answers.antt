use Rattle.std.proofs.Common.{◌∙◌, sym}
use Rattle.sb_text.proofs.Splits.{pieces-split, pieces-whole, goes_on}
use Rattle.sb_text.proofs.columns.ColumnsIterator.next.Goals as goal

pub returns-in-Some-clause-steps : goal.returns-in-Some-clause-steps
returns-in-Some-clause-steps c =
    sym c.self.view_is ∙ rw (c.in_ok-line.was, c.in-Some.ensures.1) (pieces-split c.self.inside.separator c.in-Some.column.now c.in-Some.rest.now c.in-Some.ensures.0)

pub returns-in-Some-clause-goes : goal.returns-in-Some-clause-goes
returns-in-Some-clause-goes c = goes_on (returns-in-Some-clause-steps c)

pub returns-in-None-clause-steps : goal.returns-in-None-clause-steps
returns-in-None-clause-steps c = sym c.self.view_is ∙ rw c.in_ok-line.was (pieces-whole c.self.inside.separator c.in_ok-line.line.now c.in-None.ensures)

pub returns-in-None-clause-goes : goal.returns-in-None-clause-goes
returns-in-None-clause-goes c = goes_on (returns-in-None-clause-steps c)
