use Rattle.std.proofs.Common.{◌≡◌, ◌<◌, ◌∷◌, [], ◌++◌, ◌∙◌, ap, sym, length, subst, arith}
use Rattle.std.proofs.lemmas.List.{length-map}
use Rattle.sb_feed.specs.Index.{IsIndex, with_item}
use Rattle.sb_feed.proofs.Indexed.{items_of, index_more}
use Rattle.sb_feed.proofs.index.BatchIndex.push.Goals as goal

pub invariant_of-self-2 : goal.invariant_of-self-2
invariant_of-self-2 c =
    let batches = c.self.inside.batches.items in
    let room = items_of c.make_room.new.lists.items in
    let there : c.args.batch < length room = omega (arith, length-map c.make_room.new.lists.items (λ list. list.items), c.in_ok-make_room.ensures.room) in
    let lists : items_of c.push_at.new.lists.items ≡ with_item c.args.batch (length batches) room =
    c.in_ok-push_at.ensures.ok ∙ ap (λ n. with_item c.args.batch n room) (omega (arith, c.len-position.ensures)) in
    let is : c.push.new.self.items ≡ batches ++ c.args.batch ∷ [] = c.in_ok-push.ensures.items ∙ ap (λ l. l ++ c.args.batch ∷ []) c.reserve.ensures.items in
    subst (λ ls. IsIndex c.push.new.self.items ls) (sym lists)
    (subst (λ bs. IsIndex bs (with_item c.args.batch (length batches) room)) (sym is)
    (index_more batches (items_of c.self.inside.positions.items) room c.args.batch c.self.invariant c.make_room.ensures.same there))
