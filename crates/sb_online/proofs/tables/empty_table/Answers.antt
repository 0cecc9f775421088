use Rattle.std.proofs.Common.{◌≡◌, ◌≤◌, [], length, set, ap, sym, subst, ◌∙◌, arith, rules}
use Rattle.std.specs.List.{IsDistinct}
use Rattle.std.specs.Map.{keys_of}
use Rattle.sb_feed.specs.Keys.{same_key}
use Rattle.sb_online.specs.Onlines.{tables_parts}
use Rattle.sb_online.proofs.Tabled.{without_at, set_outside, set_all}
use Rattle.sb_online.proofs.tables.empty_table.Goals as goal

pub returns-then-batch-len-clause-parts : goal.returns-then-batch-len-clause-parts
returns-then-batch-len-clause-parts g c =
    let tables = c.args.tables.now.items in
    ap (λ t. tables_parts 0 (set tables c.args.batch t)) c.new.ensures ∙ without_at c.args.batch 0 c.args.batch tables (omega arith)

pub returns-then-batch-len-clause-apart : goal.returns-then-batch-len-clause-apart
unfolding IsDistinct
returns-then-batch-len-clause-apart g c h =
    set_all (λ table. IsDistinct same_key (keys_of table)) c.args.tables.now.items c.args.batch c.new.result h (subst (λ table. IsDistinct same_key (keys_of table)) (sym c.new.ensures) tt)

pub returns-else-batch-len-clause-parts : goal.returns-else-batch-len-clause-parts
returns-else-batch-len-clause-parts g c =
    let tables = c.args.tables.now.items in
    let count : c.len.result ≡ length tables = search rules in
    let beyond : length tables ≤ c.args.batch = omega (arith, count, c.if-batch-len.false) in
    sym (ap (tables_parts 0) (set_outside tables c.args.batch [] beyond)) ∙ without_at c.args.batch 0 c.args.batch tables (omega arith)
