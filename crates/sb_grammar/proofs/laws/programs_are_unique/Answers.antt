use Rattle.sb_grammar.proofs.Unique.{one_program}
use Rattle.sb_grammar.proofs.laws.programs_are_unique.Goals as goal

pub returns : goal.returns
returns c = one_program
