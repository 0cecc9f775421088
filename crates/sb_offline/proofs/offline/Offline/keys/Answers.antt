use Rattle.std.proofs.lemmas.Result.{IfOk-weaker}
use Rattle.sb_offline.proofs.HeldKeys.{held_keys}
use Rattle.sb_offline.proofs.offline.Offline.keys.Goals as goal

pub returns : goal.returns
returns g c =
    IfOk-weaker c.into_keys.result _ _ (λ list made. held_keys c.args.self.now c.new-keys.result c.put_keys.new.keys list.items made.1 c.new-keys.ensures made.0 c.in_ok-put_keys.ensures) c.into_keys.ensures
