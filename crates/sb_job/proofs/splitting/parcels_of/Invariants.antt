use Rattle.std.proofs.Common.{◌≡◌, ◌++◌, map}
use Rattle.std.specs.Vec.Iter.{into_iter_items}
use Rattle.sb_job.proofs.splitting.parcels_of.Given as goal

abbrev pub invariant-loop-list : goal.invariant-loop-list
invariant-loop-list g l = l.split.items ++ map (λ list. record { chunks = l.fn.chunks; parts = list.items }) (into_iter_items l.list-iterator) ≡ map (λ list. record { chunks = l.fn.chunks; parts = list.items }) l.fn.lists.items
