use Rattle.std.proofs.Common.{◌≡◌, ◌++◌, drop, take, length}
use Rattle.std.specs.List.{flat_map}
use Rattle.sb_feed.specs.Jobs.{AreValid, meant}
use Rattle.sb_report.specs.Report.{printed_row}
use Rattle.sb_report.proofs.rows.push_rows.Given as goal

abbrev pub invariant-loop-row : goal.invariant-loop-row
invariant-loop-row g l = record {
  written : l.out.items ++ flat_map (printed_row (g.F.Printed.name l.family) (g.F.Printed.printed l.family)) (drop l.row-index l.rows)
      ≡ l.fn.out.items ++ flat_map (printed_row (g.F.Printed.name l.family) (g.F.Printed.printed l.family)) l.rows;
  front : take (length l.fn.out.items) l.out.items ≡ l.fn.out.items;
  valid : AreValid (meant g.F.M.Semigroup.valid g.F.M.Semigroup.add (g.F.Family.monoids l.family)) (drop l.row-index l.rows);
}
