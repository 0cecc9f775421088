use Rattle.std.proofs.Common.{ap}
use Rattle.sb_feed.specs.Jobs.{meant}
use Rattle.sb_offline.proofs.Settled.{raised_valid, expired}
use Rattle.sb_offline.proofs.offline.Offline.expire.Goals as goal

pub settle-requires : goal.settle-requires
settle-requires g c =
    let d = meant g.F.M.Semigroup.valid g.F.M.Semigroup.add (g.F.Family.monoids c.args.family.now) in
    record { kept = raised_valid d c.args.floor c.args.self.now c.raise.new.self c.raise.new.self c.in_ok-raise.ensures.ok c.requires.kept }

pub returns-clause-ok : goal.returns-clause-ok
returns-clause-ok g c =
    let d = meant g.F.M.Semigroup.valid g.F.M.Semigroup.add (g.F.Family.monoids c.args.family.now) in
    expired d c.args.floor c.args.self.now c.raise.new.self c.settle.new.self c.in_ok-raise.ensures.ok c.settle.ensures.settled
