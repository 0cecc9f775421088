use Rattle.sb_gather.specs.Tops.{by_rank}
use Rattle.sb_gather.specs.TopLaws.{by_rank_total, by_rank_same}
use Rattle.sb_gather.proofs.Search.{here_of, placed_here, placed_in_gap}
use Rattle.sb_gather.proofs.top.place_among.Goals as goal

pub returns-in-Ok-clause-placed : goal.returns-in-Ok-clause-placed
returns-in-Ok-clause-placed g c =
    let R = by_rank g.K.Ord.cmp in
    let there = here_of R c.args.entry.now c.args.list.now c.in-Ok.at c.in-Ok.ensures in
    placed_here R (by_rank_total g.K.Ord.cmp g.met.K.Ord.total) (by_rank_same g.K.Ord.cmp g.met.K.Key.same) c.args.entry.now c.args.list.now c.in-Ok.at there.0 c.requires.ranked there.1 there.2

pub returns-in-Err-clause-placed : goal.returns-in-Err-clause-placed
returns-in-Err-clause-placed g c =
    let R = by_rank g.K.Ord.cmp in
    placed_in_gap R (by_rank_total g.K.Ord.cmp g.met.K.Ord.total) c.args.entry.now c.args.list.now c.in-Err.at c.in-Err.ensures.1.0 c.in-Err.ensures.1.1
