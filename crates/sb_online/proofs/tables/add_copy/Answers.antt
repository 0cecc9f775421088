use Rattle.std.proofs.Common.{◌≡◌, ◌++◌, ◌∷◌, [], get_or, set, ap, sym, subst, ◌∙◌}
use Rattle.std.specs.List.{IsDistinct}
use Rattle.std.specs.Map.{keys_of}
use Rattle.std.proofs.lemmas.List.{set-get_or}
use Rattle.std.proofs.lemmas.Result.{on_err_weaker}
use Rattle.sb_feed.specs.Keys.{same_key}
use Rattle.sb_feed.specs.Jobs.{AreValid, meant}
use Rattle.sb_feed.specs.Stands.{keyed_values, sum_at}
use Rattle.sb_job.specs.Sums.{HasKeySums}
use Rattle.sb_job.proofs.Listed.{own_sums}
use Rattle.sb_online.specs.Onlines.{tables_parts}
use Rattle.sb_online.proofs.Tabled.{all_at, set_all, to_tables}
use Rattle.sb_online.proofs.Changed.{adds_part, both_ok, either_way, same_there, set_valid}
use Rattle.sb_online.proofs.tables.add_copy.Goals as goal

pub add_copy-requires-clause-sums : goal.add_copy-requires-clause-sums
add_copy-requires-clause-sums g c =
    let d = meant g.F.M.Semigroup.valid g.F.M.Semigroup.add (g.F.Family.monoids c.args.family.now) in
    let made = c.make_table.new.tables.items in
    let b = c.args.part.now.batch in
    let table = c.index_mut.result.now in
    let is : table ≡ get_or made b [] = c.index_mut.ensures.value ∙ same_there made b table [] c.in_ok-make_table.ensures.there in
    let valid = subst (λ l. AreValid d (keyed_values l)) (sym c.make_table.ensures.parts) c.requires.tables in
    subst (AreValid d) (sym is) (all_at (AreValid d) made b [] (to_tables d 0 made valid) tt)

pub returns-clause-ok : goal.returns-clause-ok
unfolding IsDistinct
returns-clause-ok g c =
    let d = meant g.F.M.Semigroup.valid g.F.M.Semigroup.add (g.F.Family.monoids c.args.family.now) in
    let made = c.make_table.new.tables.items in
    let part = c.args.part.now in
    let table = c.index_mut.result.now in
    let new = c.add_copy.new.self in
    let is : table ≡ get_or made part.batch [] = c.index_mut.ensures.value ∙ same_there made part.batch table [] c.in_ok-make_table.ensures.there in
    let apart = all_at (λ t. IsDistinct same_key (keys_of t)) made part.batch [] (c.make_table.ensures.apart c.requires.apart) tt in
    let own : HasKeySums d (get_or made part.batch []) table = subst (HasKeySums d (get_or made part.batch [])) (sym is) (own_sums d (get_or made part.batch []) apart) in
    both_ok c.add_copy.result c.add_copy.ensures.apart c.add_copy.ensures.sums (λ distinct sums key j later.
    adds_part d part made new c.in_ok-make_table.ensures.there distinct (sums (get_or made part.batch []) own) key j later
    ∙ ap (λ l. sum_at d.add key j (l ++ part ∷ later)) c.make_table.ensures.parts)

pub returns-clause-err : goal.returns-clause-err
returns-clause-err g c =
    let made = c.make_table.new.tables.items in
    let b = c.args.part.now.batch in
    let table = c.index_mut.result.now in
    on_err_weaker c.add_copy.result (λ e. ap (tables_parts 0) (ap (set made b) (e ∙ c.index_mut.ensures.value) ∙ set-get_or made b table) ∙ c.make_table.ensures.parts) c.add_copy.ensures.err

pub returns-clause-valid : goal.returns-clause-valid
returns-clause-valid g c =
    let d = meant g.F.M.Semigroup.valid g.F.M.Semigroup.add (g.F.Family.monoids c.args.family.now) in
    set_valid d c.make_table.new.tables.items c.args.part.now.batch c.add_copy.new.self (subst (λ l. AreValid d (keyed_values l)) (sym c.make_table.ensures.parts) c.requires.tables) c.add_copy.ensures.valid

pub returns-clause-apart : goal.returns-clause-apart
unfolding IsDistinct
returns-clause-apart g c =
    let made = c.make_table.new.tables.items in
    let b = c.args.part.now.batch in
    let table = c.index_mut.result.now in
    let is : table ≡ get_or made b [] = c.index_mut.ensures.value ∙ same_there made b table [] c.in_ok-make_table.ensures.there in
    let apart = c.make_table.ensures.apart c.requires.apart in
    set_all (λ t. IsDistinct same_key (keys_of t)) made b c.add_copy.new.self apart
    (either_way (λ t. IsDistinct same_key (keys_of t)) c.add_copy.result table c.add_copy.new.self c.add_copy.ensures.apart c.add_copy.ensures.err
    (subst (λ t. IsDistinct same_key (keys_of t)) (sym is) (all_at (λ t. IsDistinct same_key (keys_of t)) made b [] apart tt)))
