use Rattle.std.proofs.Common.{◌≡◌, ℕ, ◌++◌, drop}
use Rattle.sb_feed.specs.declared.key.KeyBytes.{KeyBytes}
use Rattle.sb_feed.specs.Jobs.{AreValid, meant}
use Rattle.sb_feed.specs.Stands.{keyed_values, sum_at}
use Rattle.sb_online.specs.Onlines.{tables_parts, AreApart}
use Rattle.sb_online.proofs.tables.add_copies.Given as goal

abbrev pub invariant-loop-part : goal.invariant-loop-part
invariant-loop-part g l =
    let d = meant g.F.M.Semigroup.valid g.F.M.Semigroup.add (g.F.Family.monoids l.fn.family) in
    record {
      added : l.added ≡ l.part-index;
      valid : AreValid d (keyed_values (tables_parts 0 l.tables.items));
      apart : AreApart l.tables.items;
      later : AreValid d (keyed_values (drop l.part-index l.parts));
      sums : (key : KeyBytes) (j : ℕ) → sum_at d.add key j (tables_parts 0 l.tables.items ++ drop l.part-index l.parts) ≡ sum_at d.add key j (tables_parts 0 l.fn.tables.items ++ l.parts);
    }
