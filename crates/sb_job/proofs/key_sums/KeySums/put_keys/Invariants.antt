use Rattle.std.proofs.Common.{◌≡◌, ◌||◌}
use Rattle.std.specs.List.{list_any}
use Rattle.sb_feed.specs.declared.key.KeyBytes.{KeyBytes}
use Rattle.sb_feed.specs.Keys.{same_key}
use Rattle.sb_job.proofs.key_sums.KeySums.put_keys.Given as goal

abbrev pub invariant-loop-key : goal.invariant-loop-key
invariant-loop-key g l =
    (q : KeyBytes) → (list_any (same_key q) l.keys || list_any (same_key q) l.key-iterator)
    ≡ (list_any (same_key q) l.fn.keys || list_any (λ row. same_key q row.0) l.fn.self)
