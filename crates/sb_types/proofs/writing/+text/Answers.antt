use Rattle.std.proofs.Common.{arith}
use Rattle.std.proofs.lemmas.Grind.{common_steps}
use Rattle.sb_types.proofs.ValTexts.{front_kept, front_own, front_step, text-Pair, text-List, text-Rec}
use Rattle.sb_types.proofs.writing.+text.Goals as goal

pub push_value-returns-in_ok-push-in-Pair-3-clause-ok : goal.push_value-returns-in_ok-push-in-Pair-3-clause-ok
push_value-returns-in_ok-push-in-Pair-3-clause-ok t c =
    let text = text-Pair c.args.value.now c.in-Pair.left c.in-Pair.right c.in-Pair.is in
    grind (arith, common_steps, text)

pub push_value-returns-in_ok-push-in-List-2-clause-ok : goal.push_value-returns-in_ok-push-in-List-2-clause-ok
push_value-returns-in_ok-push-in-List-2-clause-ok t c =
    let text = text-List c.args.value.now c.in-List.parts c.in-List.is in
    grind (arith, common_steps, text)

pub push_value-returns-in_ok-push-in-Rec-2-clause-ok : goal.push_value-returns-in_ok-push-in-Rec-2-clause-ok
push_value-returns-in_ok-push-in-Rec-2-clause-ok t c =
    let text = text-Rec c.args.value.now c.in-Rec.parts c.in-Rec.is in
    grind (arith, common_steps, text)

pub push_value-returns-in_err-push_value-in-Pair-2-clause-front : goal.push_value-returns-in_err-push_value-in-Pair-2-clause-front
push_value-returns-in_err-push_value-in-Pair-2-clause-front t c =
    let before = c.args.out.now.items in
    let opened = front_step before before _ _ (front_own before) c.in_ok-push-in-Pair.ensures.items in
    let left = front_step before _ _ _ opened c.in_ok-push_value-in-Pair.ensures.ok in
    let comma = front_step before _ _ _ left c.in_ok-push-in-Pair-2.ensures.items in
    front_kept before _ _ comma c.in_err-push_value-in-Pair-2.ensures.front

pub push_parts-returns-in_err-push_value-clause-front : goal.push_parts-returns-in_err-push_value-clause-front
push_parts-returns-in_err-push_value-clause-front t c =
    let before = c.args.out.now.items in
    front_kept before _ _ (front_step before _ _ _ c.loop-at.invariant.front c.in_ok-extend_from_slice.ensures.items) c.in_err-push_value.ensures.front
