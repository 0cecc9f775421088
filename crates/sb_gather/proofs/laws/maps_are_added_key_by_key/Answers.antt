use Rattle.sb_gather.proofs.Found.{find_in_both}
use Rattle.sb_gather.proofs.laws.maps_are_added_key_by_key.Goals as goal

pub returns : goal.returns
returns g c = find_in_both g.K.Ord.cmp g.met.K.Ord.total (g.M.Semigroup.add c.args.part.now)
