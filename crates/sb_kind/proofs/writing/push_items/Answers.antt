use Rattle.sb_types.proofs.ValTexts.{front_kept, front_step}
use Rattle.sb_kind.proofs.writing.push_items.Goals as goal

pub returns-in_err-push_item-clause-front : goal.returns-in_err-push_item-clause-front
returns-in_err-push_item-clause-front c =
    let before = c.args.out.now.items in
    front_kept before _ _ (front_step before _ _ _ c.loop-at.invariant.front c.in_ok-extend_from_slice.ensures.items) c.in_err-push_item.ensures.front
