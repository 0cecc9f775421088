use Rattle.std.proofs.Common.{◌≡◌, ◌+◌, ◌-◌, length}
use Rattle.sb_online.specs.Onlines.{tables_parts, AreApart}
use Rattle.sb_online.proofs.tables.make_table.Given as goal

abbrev pub invariant-loop-alloc : goal.invariant-loop-alloc
invariant-loop-alloc g l = record {
  parts : tables_parts 0 l.tables.items ≡ tables_parts 0 l.fn.tables.items;
  apart : AreApart l.fn.tables.items → AreApart l.tables.items;
}

abbrev pub decreases-loop-alloc : goal.decreases-loop-alloc
decreases-loop-alloc g l = l.batch + 1 - length l.tables.items
