use Rattle.std.proofs.Common.{◌≡◌, ◌∙◌, ap, arith}
use Rattle.std.proofs.lemmas.Result.{IfOk-weaker}
use Rattle.sb_job.specs.Parcels.{shard_parcel}
use Rattle.sb_job.proofs.Shards.{only_made, all_of_one}
use Rattle.sb_job.proofs.splitting.split_parcel.Goals as goal

pub returns-then-shards-eq1 : goal.returns-then-shards-eq1
returns-then-shards-eq1 g c =
    let parcel = c.args.parcel in
    let one : c.args.cut.now.shards ≡ 1 = omega (arith, c.if-shards-eq1.true, c.shards.ensures.number) in
    IfOk-weaker c.only.result _ _ (λ split e. e ∙ only_made (shard_parcel c.args.cut.now.shards parcel) c.args.cut.now.shards parcel one
    (ap (λ l. record { chunks = parcel.chunks; parts = l }) (all_of_one (λ part. part.key) c.args.cut.now.shards parcel.parts one))) c.only.ensures
