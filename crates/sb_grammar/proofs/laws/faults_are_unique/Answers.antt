use Rattle.std.proofs.Common.{length}
use Rattle.sb_tokens.specs.Lexed.{lexed}
use Rattle.sb_grammar.proofs.Faults.{one_fault, no_fault}
use Rattle.sb_grammar.proofs.laws.faults_are_unique.Goals as goal

pub returns-clause-one : goal.returns-clause-one
returns-clause-one c = λ bytes. one_fault (lexed bytes) (length bytes)

pub returns-clause-none : goal.returns-clause-none
returns-clause-none c = λ p bytes. no_fault p (lexed bytes) (length bytes)
