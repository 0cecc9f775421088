use Rattle.std.proofs.Common.{◌≡◌, ◌++◌, ◌∙◌, subst}
use Rattle.std.specs.FinMap.{find}
use Rattle.std.specs.List.{IsDistinct}
use Rattle.std.specs.Map.{keys_of}
use Rattle.std.proofs.lemmas.Result.{on_ok_weaker}
use Rattle.sb_feed.proofs.Meant.{stores_add}
use Rattle.sb_feed.specs.Jobs.{meant}
use Rattle.sb_feed.specs.Keys.{key_order, same_key}
use Rattle.sb_job.specs.Sums.{key_sum}
use Rattle.sb_job.proofs.Behind.{key_behind}
use Rattle.sb_job.proofs.key_sums.KeySums.add_sums.Goals as goal

pub returns-clause-behind : goal.returns-clause-behind
returns-clause-behind g c =
    let V = g.F.M.Semigroup.valid in
    let A = g.F.M.Semigroup.add in
    let monoids = g.F.Family.monoids c.args.family.now in
    let laws = stores_add V A (λ m. record { keeps_valid = g.met.F.M.Semigroup.keeps_valid m; associates = g.met.F.M.Semigroup.associates m }) monoids in
    let apart = subst (λ es. IsDistinct same_key (keys_of es)) c.more.view_is c.in_ok-values.ensures.apart in
    on_ok_weaker c.add_values.result (λ sums values later valid valid_later has has_later key.
    subst (λ l. find key_order key c.add_values.new.self ≡ key_sum (meant V A monoids) key (values ++ l)) (c.in_ok-values.ensures.entries ∙ c.more.view_is) (sums values has key) ∙ key_behind (meant V A monoids) laws values later c.args.more valid valid_later apart has_later key) c.add_values.ensures.sums
