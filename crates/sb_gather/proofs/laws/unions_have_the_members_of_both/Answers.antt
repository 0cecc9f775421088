use Rattle.sb_gather.proofs.Members.{members_of_both}
use Rattle.sb_gather.proofs.laws.unions_have_the_members_of_both.Goals as goal

pub returns : goal.returns
returns g c = members_of_both g.K.Ord.cmp g.met.K.Key.same
