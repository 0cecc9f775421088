use Rattle.std.proofs.Common.{◌≡◌, ◌≤◌, ◌+◌, suc, length, sym, ap, ◌∙◌, arith}
use Rattle.std.proofs.lemmas.List.{length-append}
use Rattle.sb_offline.specs.Expiries.{rows_below}
use Rattle.sb_offline.proofs.Moving.{nothing_below, below_more}
use Rattle.sb_offline.proofs.expiry.count_rows.Goals as goal

pub loop-batch-init : goal.loop-batch-init
loop-batch-init g c = record { within = c.requires.order; count = sym (ap length (nothing_below c.args.from c.args.lists.now c.requires.below)) }

pub loop-batch-preserved : goal.loop-batch-preserved
loop-batch-preserved g c =
    let b = c.loop-batch.batch in
    let lists = c.args.lists.now in
    let x = c.index-lists-batch.result in
    let next : suc b ≡ b + 1 = omega arith in
    let within : b + 1 ≤ length lists = omega (arith, c.loop-batch-test.true, c.requires.within) in
    record {
      within = omega (arith, c.loop-batch-test.true);
      count = c.in_ok-count.ensures ∙ (ap (λ n. n + c.len.result) c.loop-batch.invariant.count ∙ (ap (λ n. length (rows_below b lists) + n) (c.len.ensures ∙ ap length c.index-lists-batch.is)
          ∙ sym (ap (λ n. length (rows_below n lists)) (sym next) ∙ (ap length (below_more b x lists (omega (arith, within))) ∙ length-append (rows_below b lists) _))));
    }
