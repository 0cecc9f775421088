-- What contracts see of a program that may run online.
use Rattle.sb_check.specs.declared.online.Online.{Online}
use Rattle.sb_check.specs.CheckedView.{checked_of}
use Rattle.sb_check.specs.Programs.{CheckedProgram}

abbrev pub online_of : Online → CheckedProgram
online_of online = checked_of online.checked
