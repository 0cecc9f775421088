use Rattle.std.proofs.Common.{◌≡◌, ◌∙◌, ap, arith}
use Rattle.std.proofs.lemmas.Result.{IfOk-weaker}
use Rattle.sb_job.specs.Batches.{shard_rows}
use Rattle.sb_job.proofs.Shards.{only_made, all_of_one}
use Rattle.sb_job.proofs.splitting.split_rows.Goals as goal

pub returns-then-shards-eq1 : goal.returns-then-shards-eq1
returns-then-shards-eq1 g c =
    let rows = c.args.rows in
    let one : c.args.cut.now.shards ≡ 1 = omega (arith, c.if-shards-eq1.true, c.shards.ensures.number) in
    IfOk-weaker c.only.result _ _ (λ split e. e ∙ only_made (shard_rows c.args.cut.now.shards rows) c.args.cut.now.shards rows one
    (ap (λ l. record { from = rows.from; to = rows.to; rows = l }) (all_of_one (λ row. row.0) c.args.cut.now.shards rows.rows one))) c.only.ensures
