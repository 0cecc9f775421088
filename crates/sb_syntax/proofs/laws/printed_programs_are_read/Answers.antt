use Rattle.sb_syntax.proofs.RoundTrip.{printed_again}
use Rattle.sb_syntax.proofs.laws.printed_programs_are_read.Goals as goal

pub returns : goal.returns
returns c = printed_again
