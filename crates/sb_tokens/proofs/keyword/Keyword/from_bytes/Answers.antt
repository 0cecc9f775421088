use Rattle.std.proofs.Common.{◌∙◌, ap}
use Rattle.sb_tokens.specs.Keyword.{keywords, keyword_of}
use Rattle.sb_tokens.proofs.Keywords.{find-spelled, keyword_of-keyword_text}
use Rattle.sb_tokens.proofs.keyword.Keyword.from_bytes.Goals as goal

pub returns-clause-spelled : goal.returns-clause-spelled
returns-clause-spelled c = rw c.find_keyword.ensures (find-spelled c.args.bytes.now keywords)

pub returns-clause-every : goal.returns-clause-every
returns-clause-every c = λ keyword is. c.find_keyword.ensures ∙ (ap keyword_of is ∙ keyword_of-keyword_text keyword)
