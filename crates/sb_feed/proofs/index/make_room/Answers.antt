use Rattle.std.proofs.Common.{◌∙◌, ap, arith}
use Rattle.sb_feed.specs.Index.{list_at}
use Rattle.sb_feed.proofs.Indexed.{items_of, empty_more}
use Rattle.sb_feed.proofs.index.make_room.Goals as goal

pub loop-preserved : goal.loop-preserved
loop-preserved c = record {
  count = omega (arith, c.loop.invariant.count, c.push.ensures.len, c.in_ok-push.ensures.len);
  same = λ b. ap (λ lists. list_at (items_of lists) b) c.in_ok-push.ensures.items ∙ (empty_more c.loop.lists.items c.new.result c.new.ensures.items b ∙ c.loop.invariant.same b);
}
