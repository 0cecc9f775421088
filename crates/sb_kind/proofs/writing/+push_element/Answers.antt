use Rattle.std.proofs.Common.{◌≡◌, ◌∙◌, ◌++◌, ◌∷◌, suc, drop, refl, ap, sym, arith}
use Rattle.std.proofs.Math.Seq.{drop-cons}
use Rattle.sb_types.proofs.ValTexts.{front_kept, front_own, front_step}
use Rattle.sb_kind.proofs.Texts.{text-Concat, text-Set, text-Top, text-Cms, text_of_pair, opened_map, entry_written}
use Rattle.sb_kind.specs.ElementText.{element_text}
use Rattle.sb_kind.proofs.writing.+push_element.Goals as goal

pub returns-in_err-push_element-in-Pair-2-clause-front : goal.returns-in_err-push_element-in-Pair-2-clause-front
returns-in_err-push_element-in-Pair-2-clause-front t c =
    let before = c.args.out.now.items in
    let opened = front_step before before _ _ (front_own before) c.in_ok-push-in-Pair.ensures.items in
    let left = front_step before _ _ _ opened c.in_ok-push_element-in-Pair.ensures.ok in
    let comma = front_step before _ _ _ left c.in_ok-push-in-Pair-2.ensures.items in
    front_kept before _ _ comma c.in_err-push_element-in-Pair-2.ensures.front

pub loop-at-init : goal.loop-at-init
loop-at-init t c =
    let before = c.args.out.now.items in
    record {
      written = opened_map c.args.a.now c.in-Map.entries c.as_slice-entry-items.result.now before c.push-in-Map.new.self.items c.in-Map.is c.as_slice-entry-items.ensures c.in_ok-push-in-Map.ensures.items;
      front = front_step before before _ _ (front_own before) c.in_ok-push-in-Map.ensures.items;
    }

pub loop-at-preserved : goal.loop-at-preserved
loop-at-preserved t c =
    let before = c.args.out.now.items in
    let es = c.as_slice-entry-items.result.now in
    let at = c.loop-at.at in
    let next : drop at es ≡ c.entry-item.result ∷ drop (suc at) es =
    drop-cons es at c.entry-item.result (omega (arith, c.loop-at-test.true)) ∙ ap (λ x. x ∷ drop (suc at) es) (sym c.entry-item.is) in
    record {
      written = entry_written at c.entry-item.result es c.loop-at.out.items c.push_key.new.out.items c.push_element-in-loop-at.new.out.items (before ++ element_text c.args.a.now) next c.loop-at.invariant.written c.in_ok-push_key-in-Map.ensures.ok c.in_ok-push_element-in-Map.ensures.ok;
      front = front_kept before _ _ (front_kept before _ _ c.loop-at.invariant.front c.in_ok-push_key-in-Map.ensures.front) c.in_ok-push_element-in-Map.ensures.front;
    }

pub returns-in-Concat-clause-ok : goal.returns-in-Concat-clause-ok
returns-in-Concat-clause-ok t c =
    rw (text-Concat c.args.a.now c.in-Concat.values c.as_slice.result.now c.in-Concat.is c.as_slice.ensures) at c.push_list.ensures.ok

pub returns-in-Set-clause-ok : goal.returns-in-Set-clause-ok
returns-in-Set-clause-ok t c =
    rw (text-Set c.args.a.now c.in-Set.values c.as_slice-in-Set.result.now c.in-Set.is c.as_slice-in-Set.ensures) at c.push_set.ensures.ok

pub returns-in-Top-clause-ok : goal.returns-in-Top-clause-ok
returns-in-Top-clause-ok t c =
    rw (text-Top c.args.a.now c.in-Top.items c.as_slice-in-Top.result.now c.in-Top.is c.as_slice-in-Top.ensures) at c.push_items.ensures.ok

pub returns-in-Cms-clause-ok : goal.returns-in-Cms-clause-ok
returns-in-Cms-clause-ok t c =
    rw (text-Cms c.args.a.now c.in-Cms.cells c.in-Cms.cells c.in-Cms.is refl) at c.push_cells.ensures.ok

pub returns-in_ok-push-in-Pair-3-clause-ok : goal.returns-in_ok-push-in-Pair-3-clause-ok
returns-in_ok-push-in-Pair-3-clause-ok t c =
    text_of_pair c.args.a.now c.in-Pair.left c.in-Pair.right c.get.result.now c.get-in-Pair.result.now c.args.out.now.items c.push.new.self.items c.push_element.new.out.items c.push-in-Pair.new.self.items c.push_element-in-Pair.new.out.items c.push-in-Pair-2.new.self.items
    c.in-Pair.is c.get.ensures c.get-in-Pair.ensures c.in_ok-push-in-Pair.ensures.items c.in_ok-push_element-in-Pair.ensures.ok c.in_ok-push-in-Pair-2.ensures.items c.in_ok-push_element-in-Pair-2.ensures.ok c.in_ok-push-in-Pair-3.ensures.items
