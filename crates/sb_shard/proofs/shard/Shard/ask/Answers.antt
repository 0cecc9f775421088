use Rattle.std.proofs.Common.{◌<◌, arith, length, subst}
use Rattle.sb_feed.specs.Jobs.{meaning_of, meant}
use Rattle.sb_shard.specs.Asks.{Answers}
use Rattle.sb_shard.proofs.Merged.{merged}
use Rattle.sb_shard.specs.Shards.{shard_sums}
use Rattle.sb_shard.proofs.shard.Shard.ask.Goals as goal

pub returns-clause-named : goal.returns-clause-named
returns-clause-named g c job shard same commuting mine stands =
    let V = g.F.M.Semigroup.valid in
    let A = g.F.M.Semigroup.add in
    let d = meaning_of V A job in
    let answers = subst (λ ms. Answers (meant V A ms) c.args.self.now c.args.key.now c.args.upto c.in_ok-answer.answer) same c.in_ok-answer.ensures.sums in
    merged d job.log shard commuting.commute commuting.records (shard_sums d.add c.args.self.now) c.args.key.now c.args.upto _ stands (subst (λ ms. c.args.key.now.store < length ms) same c.requires.store)
    mine (omega (arith, c.if-upto-saturating_sub.false, c.saturating_sub.ensures, c.floor-floor.ensures)) c.in_ok-answer.ensures.rising.0 c.in_ok-answer.ensures.rising.1 answers
