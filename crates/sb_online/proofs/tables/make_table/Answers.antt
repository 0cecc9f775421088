use Rattle.std.proofs.Common.{[], ◌∷◌, ◌++◌, ap, sym, subst, ◌∙◌}
use Rattle.std.specs.List.{IsDistinct}
use Rattle.std.specs.Map.{keys_of}
use Rattle.sb_laws.proofs.Sums.{valid_append}
use Rattle.sb_feed.specs.Keys.{same_key}
use Rattle.sb_online.specs.Onlines.{tables_parts, AreApart}
use Rattle.sb_online.proofs.Tabled.{more_tables}
use Rattle.sb_online.proofs.tables.make_table.Goals as goal

pub loop-alloc-preserved : goal.loop-alloc-preserved
unfolding IsDistinct
loop-alloc-preserved g c =
    let before = c.loop-alloc.tables.items in
    record {
      parts = ap (tables_parts 0) (c.in_ok-push.ensures.items ∙ ap (λ t. before ++ t ∷ []) c.new.ensures) ∙ (more_tables 0 before ∙ c.loop-alloc.invariant.parts);
      apart = λ h. subst AreApart (sym (c.in_ok-push.ensures.items ∙ ap (λ t. before ++ t ∷ []) c.new.ensures)) (valid_append (λ table. IsDistinct same_key (keys_of table)) before ([] ∷ []) (c.loop-alloc.invariant.apart h) (tt, tt));
    }
