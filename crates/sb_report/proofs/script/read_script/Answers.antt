use Rattle.sb_text.specs.Lines.{lines_of}
use Rattle.sb_check.specs.CheckedView.{checked_of}
use Rattle.sb_report.proofs.Named.{read_named}
use Rattle.sb_report.proofs.script.read_script.Goals as goal

pub returns-clause-stores : goal.returns-clause-stores
returns-clause-stores c = read_named (checked_of c.args.c.now).declared (lines_of c.args.bytes.now) c.read_lines.result c.read_lines.ensures
