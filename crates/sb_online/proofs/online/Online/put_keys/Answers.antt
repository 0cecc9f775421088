use Rattle.std.proofs.Common.{◌≡◌, ◌||◌, ◌&&◌, drop, ap, subst, ◌∙◌}
use Rattle.std.specs.Prelude.{nat_le}
use Rattle.std.specs.List.{list_any}
use Rattle.std.proofs.lemmas.Result.{on_ok_weaker}
use Rattle.sb_feed.specs.Keys.{same_key}
use Rattle.sb_online.specs.Onlines.{parts_of}
use Rattle.sb_online.proofs.Tabled.{put_in_turn}
use Rattle.sb_online.proofs.online.Online.put_keys.Goals as goal

pub returns : goal.returns
returns g c =
    let h = c.self.inside in
    let from = c.args.from in
    on_ok_weaker c.put_parts.result (λ second q.
    subst (λ held. list_any (same_key q) c.put_parts.new.self ≡ (list_any (same_key q) c.args.keys.now || list_any (λ part. same_key q part.key && nat_le from part.batch) (parts_of held))) c.self.view_is
    (put_in_turn q from h.tables.items h.waiting.items (list_any (same_key q) c.args.keys.now) (list_any (same_key q) c.put_table_keys.new.keys) (list_any (same_key q) c.put_parts.new.self)
    (c.in_ok-put_table_keys.ensures q ∙ ap (λ l. list_any (same_key q) c.args.keys.now || list_any (list_any (λ row. same_key q row.0)) (drop from l)) c.as_slice.ensures.value)
    (second q ∙ ap (λ l. list_any (same_key q) c.put_table_keys.new.keys || list_any (λ part. same_key q part.key && nat_le from part.batch) l) c.as_slice-2.ensures.value))) c.put_parts.ensures
