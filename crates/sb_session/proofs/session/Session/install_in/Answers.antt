use Rattle.std.proofs.Common.{◌<◌, length, refl, sym, subst}
use Rattle.std.proofs.lemmas.Option.{slice_get_read}
use Rattle.sb_session.proofs.Stands.{installs}
use Rattle.sb_session.proofs.Outcomes.{four_ok}
use Rattle.sb_session.proofs.session.Session.install_in.Goals as goal

pub returns-clause-ok : goal.returns-clause-ok
returns-clause-ok g c =
    let there = slice_get_read c.self.inside.shards.items _ c.args.number c.index_mut-shard.result.now refl (subst (λ s. c.args.number < length s.shards) (sym c.self.view_is) c.requires.there) c.index_mut-shard.ensures.value in
    four_ok c.install.result c.install.ensures.published c.install.ensures.others c.install.ensures.folds c.install.ensures.kept
    (installs _ c.args.self.now _ c.args.number c.index_mut-shard.result.now c.install.new.self c.self.view_is there refl c.args.rows c.requires.published c.requires.to)
