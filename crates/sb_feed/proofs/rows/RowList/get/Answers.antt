use Rattle.std.proofs.Common.{◌∙◌, ap, sym, Some, rules}
use Rattle.std.specs.FinMap.{find}
use Rattle.std.proofs.lemmas.Fn.{always_returns_same}
use Rattle.sb_laws.proofs.Tables.{truly}
use Rattle.sb_feed.specs.Keys.{key_order}
use Rattle.sb_feed.proofs.KeyTies.{key_order_total}
use Rattle.sb_feed.proofs.Searched.{found_at, absent_in_gap}
use Rattle.sb_feed.proofs.rows.RowList.get.Goals as goal

-- a row that ties has the key
pub returns-in-Ok : goal.returns-in-Ok
returns-in-Ok g c =
    let tied = c.in-Ok.ensures.position (λ row. key_order row.0 c.args.key.now) (always_returns_same _ _ _ (λ a r f k. search rules)) in
    let list = c.deref.ensures.value in
    let value = found_at key_order key_order_total c.args.key.now c.self.inside.rows.items c.in-Ok.at c.index.result.now (truly _ c.self.invariant) (rw list at c.in-Ok.ensures.bound) (rw list at (tied c.index.result.now)) in
    ap (find key_order c.args.key.now) (sym c.self.view_is) ∙ (value ∙ ap (λ row. Some row.1) (sym c.index.ensures))

-- all before the place are less, and all from it on greater
pub returns-in-Err : goal.returns-in-Err
returns-in-Err g c =
    let parted = c.in-Err.ensures.position (λ row. key_order row.0 c.args.key.now) (always_returns_same _ _ _ (λ a r f k. search rules)) in
    ap (find key_order c.args.key.now) (sym c.self.view_is)
    ∙ absent_in_gap key_order key_order_total c.args.key.now c.self.inside.rows.items c.in-Err.field-0 (truly _ c.self.invariant) (rw c.deref.ensures.value at parted)
