use Rattle.std.proofs.Common.{sym, ◌∙◌}
use Rattle.std.specs.List.{flat_map}
use Rattle.std.proofs.lemmas.Result.{IfOk-weaker}
use Rattle.sb_laws.specs.Sums.{CommutingLaws}
use Rattle.sb_laws.proofs.Permuted.{sum_permuted}
use Rattle.sb_laws.proofs.folds.regroup.Goals as goal

pub returns-clause-any_order : goal.returns-clause-any_order
returns-clause-any_order g c =
    let m = c.args.m.now in
    let laws = g.met.M.Semigroup in
    let commuting : CommutingLaws (g.M.Semigroup.valid m) (g.M.Semigroup.add m) = record { semigroup = record { keeps_valid = laws.keeps_valid m; associates = laws.associates m }; commutes = g.met.M.Commuting.commutes m } in
    IfOk-weaker c.fold_lists.result _ _ (λ sum h xs p. h ∙ sym (sum_permuted (g.M.Semigroup.valid m) (g.M.Semigroup.add m) commuting
    (flat_map (λ list. list.items) c.args.lists.items) xs c.requires p)) c.fold_lists.ensures
