use Rattle.std.proofs.Common.{◌≡◌, ◌+◌, ◌∷◌, false, drop, arith}
use Rattle.std.proofs.lemmas.Bool.Decides.{nat_tests}
use Rattle.std.proofs.lemmas.Grind.{common_steps}
use Rattle.sb_kind.specs.Monoids.{commutes}
use Rattle.sb_kind.specs.KindView.{monoid_of}
use Rattle.sb_check.proofs.StoresAt.{first_at}
use Rattle.sb_check.proofs.admission.first_ordered.Goals as goal

pub returns-then-not-commutes-clause-first : goal.returns-then-not-commutes-clause-first
returns-then-not-commutes-clause-first c =
    let rest = drop (c.loop-at.at + 1) c.args.stores.now in
    let front : drop c.loop-at.at c.args.stores.now ≡ c.index-stores-at.result ∷ rest = grind (arith, common_steps) in
    let ordered : commutes (monoid_of c.index-stores-at.result.kind) ≡ false = grind (arith, nat_tests) in
    first_at c.args.stores.now rest c.loop-at.at c.index-stores-at.result _ front ordered c.loop-at.invariant
