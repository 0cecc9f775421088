use Rattle.std.proofs.Common.{sym, subst, ap, ◌∙◌, append_assoc}
use Rattle.sb_feed.specs.Jobs.{AreValid, meant}
use Rattle.sb_feed.specs.Stands.{keyed_values, sum_at}
use Rattle.sb_feed.proofs.PartSums.{keyed_append}
use Rattle.sb_online.specs.Onlines.{tables_parts, parts_of, online_sum, kept_by}
use Rattle.sb_online.proofs.online.Online.apply.Goals as goal

pub settle-requires : goal.settle-requires
settle-requires g c =
    let d = meant g.F.M.Semigroup.valid g.F.M.Semigroup.add (g.F.Family.monoids c.args.family.now) in
    let old = c.args.self.now in
    record {
      kept = subst (λ held. AreValid d (kept_by held)) (sym c.in_ok-take_in.ensures.ok)
          (subst (λ l. AreValid d (keyed_values l)) (append_assoc (tables_parts 0 old.tables) old.waiting c.args.parts) (keyed_append d (parts_of old) c.args.parts c.requires.kept c.requires.parts));
    }

pub returns-clause-sums : goal.returns-clause-sums
returns-clause-sums g c key j =
    let d = meant g.F.M.Semigroup.valid g.F.M.Semigroup.add (g.F.Family.monoids c.args.family.now) in
    let old = c.args.self.now in
    c.settle.ensures.sums key j ∙ (ap (λ held. online_sum d.add held key j) c.in_ok-take_in.ensures.ok ∙ ap (sum_at d.add key j) (sym (append_assoc (tables_parts 0 old.tables) old.waiting c.args.parts)))

pub returns-clause-cover : goal.returns-clause-cover
returns-clause-cover g c = c.settle.ensures.cover ∙ ap (λ held. held.cover) c.in_ok-take_in.ensures.ok
