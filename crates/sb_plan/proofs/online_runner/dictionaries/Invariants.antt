use Rattle.std.proofs.Common.{◌≡◌, ◌++◌, true, drop, map}
use Rattle.sb_check.specs.Admission.{all_commute}
use Rattle.sb_check.specs.Declarations.{store_of}
use Rattle.sb_plan.specs.Runners.{online_monoid}
use Rattle.sb_plan.proofs.online_runner.dictionaries.Given as goal

abbrev pub invariant-loop-store : goal.invariant-loop-store
invariant-loop-store l = record {
  names : map (λ store. store.0) l.out.items ++ map (λ s. s.name) (map store_of (drop l.store-index l.stores)) ≡ map (λ s. s.name) (map store_of l.stores);
  monoids : map online_monoid (map (λ store. store.1) l.out.items) ++ map (λ s. s.monoid) (map store_of (drop l.store-index l.stores)) ≡ map (λ s. s.monoid) (map store_of l.stores);
  commute : all_commute (map store_of (drop l.store-index l.stores)) ≡ true;
}
