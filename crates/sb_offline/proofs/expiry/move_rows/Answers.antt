use Rattle.std.proofs.Common.{◌≡◌, ◌+◌, ◌<◌, ◌++◌, [], ◌∷◌, suc, length, get_or, set, take, sym, ap, subst, ◌∙◌, append_assoc, append-nil, arith}
use Rattle.std.specs.Prelude.{IsTrue}
use Rattle.std.specs.List.{AllByRecursion}
use Rattle.std.specs.FinMap.{is_sorted}
use Rattle.std.proofs.lemmas.List.{length-append, take_more}
use Rattle.sb_laws.proofs.Positions.{ap_both}
use Rattle.sb_laws.proofs.Sums.{valid_append}
use Rattle.sb_feed.specs.Keys.{key_order}
use Rattle.sb_offline.specs.Expiries.{rows_below, emptied}
use Rattle.sb_offline.proofs.Moving.{emptied_below, nothing_below, emptied_here, emptied_more, below_more}
use Rattle.sb_offline.proofs.Settled.{nothing_rises, has_room}
use Rattle.sb_offline.proofs.expiry.move_rows.Goals as goal

pub loop-batch-init : goal.loop-batch-init
loop-batch-init g c = record {
  within = c.requires.order;
  lists = sym (emptied_below c.args.from c.args.lists.now.items c.requires.below);
  out = sym (ap (λ l. c.args.out.now.items ++ l) (nothing_below c.args.from c.args.lists.now.items c.requires.below) ∙ append-nil c.args.out.now.items);
  room = omega arith;
  rising = nothing_rises _ c.requires.below;
}

pub loop-batch-preserved : goal.loop-batch-preserved
loop-batch-preserved g c =
    let b = c.loop-batch.batch in
    let lists = c.args.lists.now.items in
    let start = c.args.out.now.items in
    let x = c.index_mut.result.now in
    let next : suc b ≡ b + 1 = omega arith in
    let below : b < length lists = omega (arith, c.loop-batch-test.true, c.requires.within) in
    let is : c.into_vec-rows.result.items ≡ get_or lists b x =
    c.into_vec-rows.ensures.rows ∙ (c.replace-rows.ensures.value ∙ (c.index_mut.ensures.value ∙ (ap (λ l. get_or l b x) c.loop-batch.invariant.lists ∙ emptied_here b x lists))) in
    record {
      within = omega (arith, c.loop-batch-test.true);
      lists = ap (set c.loop-batch.lists.items b) (c.replace-rows.ensures.after ∙ c.new.ensures)
          ∙ (ap (λ l. set l b []) c.loop-batch.invariant.lists ∙ (emptied_more b lists below ∙ ap (λ n. emptied n lists) next));
      out = c.in_ok-append.ensures.items
          ∙ (ap_both (λ l m. l ++ m) c.loop-batch.invariant.out is
          ∙ (append_assoc start (rows_below b lists) (get_or lists b x) ∙ ap (λ l. start ++ l) (sym (below_more b x lists below) ∙ ap (λ n. rows_below n lists) next)));
      room = omega (arith, c.loop-batch.invariant.room, c.append.ensures.capacity);
      rising = subst (AllByRecursion (λ rows. IsTrue (is_sorted key_order rows))) (sym (take_more lists b x below))
          (valid_append (λ rows. IsTrue (is_sorted key_order rows)) (take b lists) (get_or lists b x ∷ []) c.loop-batch.invariant.rising (subst (λ rows. IsTrue (is_sorted key_order rows)) is c.into_vec-rows.ensures.rising, tt));
    }

pub returns-clause-rising : goal.returns-clause-rising
returns-clause-rising g c =
    let e : c.loop-batch.batch ≡ c.args.to = omega (arith, c.loop-batch.invariant.within, c.loop-batch-test.false) in
    subst (λ n. AllByRecursion (λ rows. IsTrue (is_sorted key_order rows)) (take n c.args.lists.now.items)) e c.loop-batch.invariant.rising

pub returns-in_err-append-clause-done : goal.returns-in_err-append-clause-done
returns-in_err-append-clause-done g c =
    let b = c.loop-batch.batch in
    let lists = c.args.lists.now.items in
    let x = c.index_mut.result.now in
    let is : c.into_vec-rows.result.items ≡ get_or lists b x =
    c.into_vec-rows.ensures.rows ∙ (c.replace-rows.ensures.value ∙ (c.index_mut.ensures.value ∙ (ap (λ l. get_or l b x) c.loop-batch.invariant.lists ∙ emptied_here b x lists))) in
    let full = c.in_err-append.ensures.full in
    let len = c.loop-batch.out.ok.0 ∙ (ap length c.loop-batch.invariant.out ∙ (length-append c.args.out.now.items (rows_below b lists) ∙ ap (λ n. n + length (rows_below b lists)) (sym c.args.out.now.ok.0))) in
    absurd (has_room lists b c.args.to x c.loop-batch.out.len c.loop-batch.out.cap c.into_vec-rows.result.len c.args.out.now.len
    (omega (arith, c.requires.room, c.loop-batch.invariant.room)) c.loop-batch-test.true c.requires.within len (c.into_vec-rows.result.ok.0 ∙ ap length is) full)

pub returns-in_err-append-clause-lists : goal.returns-in_err-append-clause-lists
returns-in_err-append-clause-lists g c =
    let b = c.loop-batch.batch in
    let lists = c.args.lists.now.items in
    let x = c.index_mut.result.now in
    let is : c.into_vec-rows.result.items ≡ get_or lists b x =
    c.into_vec-rows.ensures.rows ∙ (c.replace-rows.ensures.value ∙ (c.index_mut.ensures.value ∙ (ap (λ l. get_or l b x) c.loop-batch.invariant.lists ∙ emptied_here b x lists))) in
    let full = c.in_err-append.ensures.full in
    let len = c.loop-batch.out.ok.0 ∙ (ap length c.loop-batch.invariant.out ∙ (length-append c.args.out.now.items (rows_below b lists) ∙ ap (λ n. n + length (rows_below b lists)) (sym c.args.out.now.ok.0))) in
    absurd (has_room lists b c.args.to x c.loop-batch.out.len c.loop-batch.out.cap c.into_vec-rows.result.len c.args.out.now.len
    (omega (arith, c.requires.room, c.loop-batch.invariant.room)) c.loop-batch-test.true c.requires.within len (c.into_vec-rows.result.ok.0 ∙ ap length is) full)

pub returns-in_err-append-clause-out : goal.returns-in_err-append-clause-out
returns-in_err-append-clause-out g c =
    let b = c.loop-batch.batch in
    let lists = c.args.lists.now.items in
    let x = c.index_mut.result.now in
    let is : c.into_vec-rows.result.items ≡ get_or lists b x =
    c.into_vec-rows.ensures.rows ∙ (c.replace-rows.ensures.value ∙ (c.index_mut.ensures.value ∙ (ap (λ l. get_or l b x) c.loop-batch.invariant.lists ∙ emptied_here b x lists))) in
    let full = c.in_err-append.ensures.full in
    let len = c.loop-batch.out.ok.0 ∙ (ap length c.loop-batch.invariant.out ∙ (length-append c.args.out.now.items (rows_below b lists) ∙ ap (λ n. n + length (rows_below b lists)) (sym c.args.out.now.ok.0))) in
    absurd (has_room lists b c.args.to x c.loop-batch.out.len c.loop-batch.out.cap c.into_vec-rows.result.len c.args.out.now.len
    (omega (arith, c.requires.room, c.loop-batch.invariant.room)) c.loop-batch-test.true c.requires.within len (c.into_vec-rows.result.ok.0 ∙ ap length is) full)

pub returns-in_err-append-clause-rising : goal.returns-in_err-append-clause-rising
returns-in_err-append-clause-rising g c =
    let b = c.loop-batch.batch in
    let lists = c.args.lists.now.items in
    let x = c.index_mut.result.now in
    let is : c.into_vec-rows.result.items ≡ get_or lists b x =
    c.into_vec-rows.ensures.rows ∙ (c.replace-rows.ensures.value ∙ (c.index_mut.ensures.value ∙ (ap (λ l. get_or l b x) c.loop-batch.invariant.lists ∙ emptied_here b x lists))) in
    let full = c.in_err-append.ensures.full in
    let len = c.loop-batch.out.ok.0 ∙ (ap length c.loop-batch.invariant.out ∙ (length-append c.args.out.now.items (rows_below b lists) ∙ ap (λ n. n + length (rows_below b lists)) (sym c.args.out.now.ok.0))) in
    absurd (has_room lists b c.args.to x c.loop-batch.out.len c.loop-batch.out.cap c.into_vec-rows.result.len c.args.out.now.len
    (omega (arith, c.requires.room, c.loop-batch.invariant.room)) c.loop-batch-test.true c.requires.within len (c.into_vec-rows.result.ok.0 ∙ ap length is) full)
