use Rattle.std.proofs.Common.{◌≡◌, length, rules, sym, subst, ◌∙◌}
use Rattle.sb_gather.specs.Merges.{turned}
use Rattle.sb_gather.specs.Steps.{StepBack, StepsBack}
use Rattle.sb_gather.proofs.Rings.{at_first}
use Rattle.sb_gather.proofs.merging.merge_entries.Goals as goal

pub returns-in-Err-clause-err : goal.returns-in-Err-clause-err
returns-in-Err-clause-err g c =
    let B = StepBack (g.D.Joining.takes_back c.args.d.now) in
    let list = c.args.list.now.items in
    let ring = c.from_vec-ring.result.items in
    let whole : c.len-left.result ≡ length ring = search rules in
    let same : ring ≡ list = search rules in
    let start = at_first B c.len-left.result ring list c.in_ok-steps.steps.items whole same c.in_ok-steps.ensures.items in
    let end : turned c.merge_all-done.new.left c.merge_all-done.new.ring.items ≡ c.into_vec.result.items = sym (c.into_vec.ensures.items ∙ c.rotate_left.ensures.items) in
    c.take_back.ensures list (subst (λ l. StepsBack B c.merge_all-done.new.steps.items l list) end (c.merge_all-done.ensures.undone list start))

pub returns-clause-undone : goal.returns-clause-undone
returns-clause-undone g c =
    let B = StepBack (g.D.Joining.takes_back c.args.d.now) in
    let list = c.args.list.now.items in
    let ring = c.from_vec-ring.result.items in
    let whole : c.len-left.result ≡ length ring = search rules in
    let same : ring ≡ list = search rules in
    let start = at_first B c.len-left.result ring list c.in_ok-steps.steps.items whole same c.in_ok-steps.ensures.items in
    let end : turned c.merge_all-done.new.left c.merge_all-done.new.ring.items ≡ c.into_vec.result.items = sym (c.into_vec.ensures.items ∙ c.rotate_left.ensures.items) in
    subst (λ l. StepsBack B c.merge_all-done.new.steps.items l list) end (c.merge_all-done.ensures.undone list start)
