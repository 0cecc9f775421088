use Rattle.std.proofs.Common.{◌≡◌, ◌++◌, drop, map}
use Rattle.sb_check.specs.Comments.{comments}
use Rattle.sb_check.specs.Declarations.{store_of}
use Rattle.sb_check.proofs.comments.comments_of.Given as goal

abbrev pub invariant-loop-store : goal.invariant-loop-store
invariant-loop-store l = l.lines.items ++ comments (map store_of (drop l.store-index l.stores)) ≡ comments (map store_of l.stores)
