use Rattle.std.proofs.Common.{◌≡◌, length}
use Rattle.std.specs.List.{AllByRecursion}
use Rattle.sb_session.specs.Steps.{IsNew}
use Rattle.sb_session.proofs.session.new_shards.Given as goal

abbrev pub invariant-loop : goal.invariant-loop
invariant-loop g l = record {
  number : length l.shards.items ≡ l.counter;
  each : AllByRecursion IsNew l.shards.items;
}
