use Rattle.std.proofs.Common.{◌≡◌, ◌||◌, ◌&&◌, drop}
use Rattle.std.specs.Prelude.{nat_le}
use Rattle.std.specs.List.{list_any}
use Rattle.sb_feed.specs.declared.key.KeyBytes.{KeyBytes}
use Rattle.sb_feed.specs.Keys.{same_key}
use Rattle.sb_job.proofs.key_set.KeySet.put_parts.Given as goal

abbrev pub invariant-loop-part : goal.invariant-loop-part
invariant-loop-part g l =
    (q : KeyBytes) → (list_any (same_key q) l.self || list_any (λ part. same_key q part.key && nat_le l.from part.batch) (drop l.part-index l.parts))
    ≡ (list_any (same_key q) l.fn.self || list_any (λ part. same_key q part.key && nat_le l.from part.batch) l.parts)
