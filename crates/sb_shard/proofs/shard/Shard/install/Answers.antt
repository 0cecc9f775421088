use Rattle.std.proofs.lemmas.Result.{on_ok_weaker}
use Rattle.sb_shard.proofs.Events.{folds_installed, keeps_only}
use Rattle.sb_shard.proofs.shard.Shard.install.Goals as goal

pub returns-clause-folds : goal.returns-clause-folds
returns-clause-folds g c =
    on_ok_weaker c.advance.result (λ installed stores add log shard rows below folds.
    folds_installed c.args.rows c.args.self.now c.advance.new.self installed stores add log shard c.requires.from c.requires.to rows below folds) c.advance.ensures.ok

pub returns-clause-kept : goal.returns-clause-kept
returns-clause-kept g c = on_ok_weaker c.advance.result (λ installed row h. keeps_only c.args.rows c.args.self.now c.advance.new.self installed row h) c.advance.ensures.ok
