use Rattle.std.proofs.Common.{◌∙◌, length, ap, sym, subst, refl, arith}
use Rattle.std.specs.Prelude.{max}
use Rattle.sb_feed.proofs.Indexed.{on_err_of}
use Rattle.sb_session.specs.Sessions.{StandEach}
use Rattle.sb_session.proofs.Moving.{starts, next_over, moves_on, over_closed, still_stands}
use Rattle.sb_session.proofs.session.Session.raise.Goals as goal

pub loop-number-init : goal.loop-number-init
loop-number-init g c =
    let V = g.F.M.Semigroup.valid in
    let A = g.F.M.Semigroup.add in
    let monoids = g.F.Family.monoids c.args.feed.now in
    let records = g.F.Feed.records c.args.feed.now in
    let before = c.args.self.now in
    starts V A monoids records before.worked before.published (max before.floor c.args.floor) before c.requires.over

pub raise_shard-requires-clause-over : goal.raise_shard-requires-clause-over
raise_shard-requires-clause-over g c =
    let V = g.F.M.Semigroup.valid in
    let A = g.F.M.Semigroup.add in
    let monoids = g.F.Family.monoids c.args.feed.now in
    let records = g.F.Feed.records c.args.feed.now in
    let before = c.args.self.now in
    next_over V A monoids records before.worked before.published (max before.floor c.args.floor) before c.loop-number.number c.loop-number.self c.loop-number.invariant

pub returns-in_err-raise_shard-clause-err : goal.returns-in_err-raise_shard-clause-err
returns-in_err-raise_shard-clause-err g c =
    let V = g.F.M.Semigroup.valid in
    let A = g.F.M.Semigroup.add in
    let monoids = g.F.Family.monoids c.args.feed.now in
    let records = g.F.Feed.records c.args.feed.now in
    let before = c.args.self.now in
    on_err_of c.from_residual.result (subst (StandEach V A monoids records) (sym c.in_err-raise_shard.ensures.err) (still_stands V A monoids records before.worked before.published (max before.floor c.args.floor) before c.loop-number.number c.loop-number.self c.loop-number.invariant))

pub loop-number-preserved : goal.loop-number-preserved
loop-number-preserved g c =
    let V = g.F.M.Semigroup.valid in
    let A = g.F.M.Semigroup.add in
    let monoids = g.F.Family.monoids c.args.feed.now in
    let records = g.F.Feed.records c.args.feed.now in
    let before = c.args.self.now in
    let moving = c.loop-number.invariant in
    moves_on V A monoids records before.worked before.published (max before.floor c.args.floor) before c.loop-number.number c.loop-number.self c.raise_shard.new.self _ _ _ moving c.in_ok-raise_shard.ensures.ok
    (ap (λ s. s.worked) moving.same) (ap (λ s. s.published) moving.same) (ap (λ s. max s.floor c.args.floor) moving.same)

pub returns-clause-over : goal.returns-clause-over
returns-clause-over g c =
    let V = g.F.M.Semigroup.valid in
    let A = g.F.M.Semigroup.add in
    let monoids = g.F.Family.monoids c.args.feed.now in
    let records = g.F.Feed.records c.args.feed.now in
    let before = c.args.self.now in
    let moving = c.loop-number.invariant in
    let still = c.self-2.view_is ∙ moving.same in
    over_closed V A monoids records before.worked before.published (max before.floor c.args.floor) before c.loop-number.number c.loop-number.self _ _ _ _ c.max-self-inside.result c.requires.over moving
    (omega (arith, c.loop-number-test.false, c.len-number-end.ensures, ap (λ s. length s.shards) c.self.view_is)) c.self-2.view_is
    refl (ap (λ s. s.worked) still) (ap (λ s. s.published) still) (c.max-self-inside.ensures ∙ ap (λ s. max s.floor c.args.floor) still) c.requires.over.worked
    (omega (arith, c.requires.over.published.0, c.requires.within)) c.requires.over.published.1
