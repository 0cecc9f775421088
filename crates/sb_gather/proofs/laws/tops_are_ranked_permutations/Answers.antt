use Rattle.sb_gather.specs.Tops.{by_rank}
use Rattle.sb_gather.specs.TopLaws.{by_rank_total, by_rank_same}
use Rattle.sb_gather.proofs.Rankings.{ranking_of, first_of_ranking}
use Rattle.sb_gather.proofs.laws.tops_are_ranked_permutations.Goals as goal

pub returns : goal.returns
returns g c = record {
  ranking = ranking_of (by_rank g.K.Ord.cmp) (by_rank_total g.K.Ord.cmp g.met.K.Ord.total) (by_rank_same g.K.Ord.cmp g.met.K.Key.same);
  first = first_of_ranking (by_rank g.K.Ord.cmp) (by_rank_total g.K.Ord.cmp g.met.K.Ord.total) (by_rank_same g.K.Ord.cmp g.met.K.Key.same);
}
