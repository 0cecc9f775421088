use Rattle.std.proofs.Common.{◌≡◌, ◌||◌, drop}
use Rattle.std.specs.List.{list_any}
use Rattle.sb_feed.specs.declared.key.KeyBytes.{KeyBytes}
use Rattle.sb_feed.specs.Keys.{same_key}
use Rattle.sb_job.proofs.key_set.KeySet.put_rows.Given as goal

abbrev pub invariant-loop-row : goal.invariant-loop-row
invariant-loop-row g l =
    (q : KeyBytes) → (list_any (same_key q) l.self || list_any (λ row. same_key q row.0) (drop l.row-index l.rows))
    ≡ (list_any (same_key q) l.fn.self || list_any (λ row. same_key q row.0) l.rows)
