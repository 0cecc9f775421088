use Rattle.std.proofs.Common.{◌∙◌}
use Rattle.sb_session.proofs.Over.{over_new}
use Rattle.sb_session.proofs.session.Session.new.Goals as goal

pub returns-clause-over : goal.returns-clause-over
returns-clause-over g c =
    let V = g.F.M.Semigroup.valid in
    let A = g.F.M.Semigroup.add in
    let monoids = g.F.Family.monoids c.args.feed.now in
    let records = g.F.Feed.records c.args.feed.now in
    over_new V A monoids records c.in_ok-shards.shards.items c.args.cut c.batch_count.result c.batch_count.ensures.valid (c.in_ok-shards.ensures.number ∙ c.shards.ensures.number) c.requires.records c.batch_count.ensures.count c.in_ok-shards.ensures.each
