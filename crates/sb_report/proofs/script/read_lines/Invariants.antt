use Rattle.std.proofs.Common.{◌≡◌}
use Rattle.sb_check.specs.CheckedView.{checked_of}
use Rattle.sb_report.specs.Script.{asks_of, script_of}
use Rattle.sb_report.proofs.Asks.{behind}
use Rattle.sb_report.proofs.script.read_lines.Given as goal

abbrev pub invariant-loop-line : goal.invariant-loop-line
invariant-loop-line l = behind l.asks.items (asks_of (checked_of l.c).declared l.line-iterator) ≡ script_of (checked_of l.c).declared l.bytes
