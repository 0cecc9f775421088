use Rattle.std.proofs.Common.{◌≡◌, ◌||◌, drop}
use Rattle.std.specs.List.{list_any}
use Rattle.sb_feed.specs.declared.key.KeyBytes.{KeyBytes}
use Rattle.sb_feed.specs.Keys.{same_key}
use Rattle.sb_online.proofs.tables.put_table_keys.Given as goal

abbrev pub invariant-loop-batch : goal.invariant-loop-batch
invariant-loop-batch g l =
    (q : KeyBytes) → (list_any (same_key q) l.keys || list_any (list_any (λ row. same_key q row.0)) (drop l.batch l.tables))
    ≡ (list_any (same_key q) l.fn.keys || list_any (list_any (λ row. same_key q row.0)) (drop l.fn.from l.tables))
