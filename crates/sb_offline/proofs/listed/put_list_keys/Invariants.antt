use Rattle.std.proofs.Common.{◌≡◌, ◌||◌, drop}
use Rattle.std.specs.List.{list_any}
use Rattle.sb_feed.specs.declared.key.KeyBytes.{KeyBytes}
use Rattle.sb_feed.specs.Keys.{same_key}
use Rattle.sb_offline.proofs.listed.put_list_keys.Given as goal

abbrev pub invariant-loop-rows : goal.invariant-loop-rows
invariant-loop-rows g l =
    (q : KeyBytes) → (list_any (same_key q) l.keys || list_any (list_any (λ row. same_key q row.0)) (drop l.rows-index l.lists))
    ≡ (list_any (same_key q) l.fn.keys || list_any (list_any (λ row. same_key q row.0)) l.lists)
