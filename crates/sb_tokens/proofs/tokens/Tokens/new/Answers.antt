use Rattle.std.proofs.Common.{refl, []}
use Rattle.std.proofs.lemmas.List.Elements.{All-from_recursion, recursion_from_All}
use Rattle.sb_tokens.specs.Lexed.{lexed}
use Rattle.sb_tokens.specs.Written.{StandsIn, IsWritten}
use Rattle.sb_tokens.proofs.Rereading.{written_whole}
use Rattle.sb_tokens.proofs.Standing.{standing_behind}
use Rattle.sb_tokens.proofs.tokens.Tokens.new.Goals as goal

pub returns-clause-spelled : goal.returns-clause-spelled
returns-clause-spelled c = All-from_recursion (StandsIn c.args.bytes.now) (lexed c.args.bytes.now).tokens (standing_behind [] c.args.bytes.now 0 0 refl)

pub returns-clause-written : goal.returns-clause-written
returns-clause-written c = λ pieces all is. written_whole c.args.bytes.now pieces (recursion_from_All IsWritten pieces all) is
