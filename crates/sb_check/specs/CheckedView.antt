-- What contracts see of a checked program.
use Rattle.sb_check.specs.declared.checked.Checked.{Checked}
use Rattle.sb_check.specs.Declarations.{declarations_of}
use Rattle.sb_check.specs.Programs.{CheckedProgram}

abbrev pub checked_of : Checked → CheckedProgram
checked_of c = record {
  program = c.program;
  batching = c.batcher;
  declared = declarations_of c.declared;
}
