use Rattle.std.proofs.Common.{◌≡◌, ◌<◌, ◌+◌, ◌∷◌, drop, length, arith}
use Rattle.std.proofs.lemmas.Bool.Decides.{nat_tests}
use Rattle.std.proofs.lemmas.Grind.{common_steps}
use Rattle.sb_types.proofs.TyViews.{type_of-Rec}
use Rattle.sb_terms.proofs.Fields.{next_joined, all_joined, second_longer}
use Rattle.sb_terms.proofs.agreement.+join.Goals as goal

pub join-returns-in_default-5 : goal.join-returns-in_default-5
join-returns-in_default-5 t c =
    let left = type_of-Rec c.in-Rec-Rec.a in
    let right = type_of-Rec c.in-Rec-Rec.b in
    grind (arith, common_steps, left, right)

pub join-returns-in-Some-4 : goal.join-returns-in-Some-4
join-returns-in-Some-4 t c =
    let left = type_of-Rec c.in-Rec-Rec.a in
    let right = type_of-Rec c.in-Rec-Rec.b in
    let both = type_of-Rec c.in-Some-4.fields.items in
    grind (arith, common_steps, left, right, both)

pub join_fields-loop-at-preserved : goal.join_fields-loop-at-preserved
join_fields-loop-at-preserved t c =
    let fs = drop (c.loop-at.at + 1) c.args.left.now in
    let gs = drop (c.loop-at.at + 1) c.args.right.now in
    let left : drop c.loop-at.at c.args.left.now ≡ c.index-left-at.result ∷ fs = grind (arith, common_steps) in
    let right : drop c.loop-at.at c.args.right.now ≡ c.in-Some.b.now ∷ gs = grind (arith, common_steps) in
    record {
      rest = rw c.in_ok-push.ensures.items (next_joined c.loop-at.fields.items c.in-Some-2.joint c.index-left-at.result c.in-Some.b.now fs gs _
          (rw c.in-Some-2.is at c.in_ok-joint.ensures.name) (rw c.in-Some-2.is at c.in_ok-joint.ensures.ty) (rw (left, right) at c.loop-at.invariant.rest));
      within = grind (arith, common_steps);
    }

pub join_fields-returns-then-left-right : goal.join_fields-returns-then-left-right
join_fields-returns-then-left-right t c =
    let ended : length (drop c.loop-at.at c.args.left.now) ≡ 0 = grind (arith, common_steps, nat_tests) in
    let some : 0 < length (drop c.loop-at.at c.args.right.now) = grind (arith, common_steps, nat_tests) in
    second_longer c.loop-at.fields.items (drop c.loop-at.at c.args.left.now) (drop c.loop-at.at c.args.right.now) _ ended some c.loop-at.invariant.rest

pub join_fields-returns : goal.join_fields-returns
join_fields-returns t c =
    let left : length (drop c.loop-at.at c.args.left.now) ≡ 0 = grind (arith, common_steps, nat_tests) in
    let right : length (drop c.loop-at.at c.args.right.now) ≡ 0 = grind (arith, common_steps, nat_tests) in
    all_joined c.loop-at.fields.items (drop c.loop-at.at c.args.left.now) (drop c.loop-at.at c.args.right.now) _ left right c.loop-at.invariant.rest
