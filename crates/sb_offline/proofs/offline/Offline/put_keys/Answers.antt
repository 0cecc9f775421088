use Rattle.std.proofs.Common.{◌≡◌, ◌||◌, ap, subst, ◌∙◌}
use Rattle.std.specs.List.{list_any}
use Rattle.std.proofs.lemmas.Result.{on_ok_weaker}
use Rattle.sb_feed.specs.Keys.{same_key}
use Rattle.sb_offline.specs.Offlines.{base_values}
use Rattle.sb_offline.proofs.HeldKeys.{put_in_turn}
use Rattle.sb_offline.proofs.offline.Offline.put_keys.Goals as goal

pub returns : goal.returns
returns g c =
    let h = c.self.inside in
    on_ok_weaker c.put_list_keys.result (λ third q.
    subst (λ held. list_any (same_key q) c.put_list_keys.new.keys ≡ (list_any (same_key q) c.args.keys.now || (list_any (λ row. same_key q row.0) (base_values held) || list_any (list_any (λ row. same_key q row.0)) held.rows))) c.self.view_is
    (put_in_turn (record { base = h.base; waiting = h.waiting.items; rows = h.rows.items; floor = h.floor }) c.args.keys.now c.put_keys.new.keys c.put_rows.new.self c.put_list_keys.new.keys q
    (c.in_ok-put_keys.ensures q)
    (c.in_ok-put_rows.ensures q ∙ ap (λ l. list_any (same_key q) c.put_keys.new.keys || list_any (λ row. same_key q row.0) l) c.as_slice.ensures.value)
    (third q ∙ ap (λ l. list_any (same_key q) c.put_rows.new.self || list_any (list_any (λ row. same_key q row.0)) l) c.as_slice-2.ensures.value))) c.put_list_keys.ensures
