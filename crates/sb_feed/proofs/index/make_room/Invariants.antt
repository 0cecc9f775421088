use Rattle.std.proofs.Common.{◌≡◌, ℕ, length, map}
use Rattle.sb_feed.specs.Index.{list_at}
use Rattle.sb_feed.proofs.index.make_room.Given as goal

abbrev pub invariant-loop : goal.invariant-loop
invariant-loop l = record {
  count : l.counter ≡ length l.lists.items;
  same : (b : ℕ) → list_at (map (λ list. list.items) l.lists.items) b ≡ list_at (map (λ list. list.items) l.fn.lists.items) b;
}
