use Rattle.std.proofs.Common.{◌≡◌, suc, ◌∷◌, [], ◌+◌, ◌++◌, ◌∙◌, drop, ap, sym, subst, arith}
use Rattle.std.proofs.Math.Seq.{drop-cons}
use Rattle.std.specs.List.{flat_map}
use Rattle.sb_feed.specs.Jobs.{AreValid}
use Rattle.sb_run.specs.Blocks.{Sends}
use Rattle.sb_run.specs.Batching.{batch_row, stores}
use Rattle.sb_run.proofs.Sends.{sends_on}
use Rattle.sb_run.proofs.report.put_report.Goals as goal

pub loop-row-preserved : goal.loop-row-preserved
loop-row-preserved g c =
    let family = c.args.family.now in
    let rows = c.args.rows.now in
    let at = c.loop-row.row-index in
    let row = c.row-item.result in
    let one_more : suc at ≡ at + 1 = omega arith in
    let next : drop at rows ≡ row ∷ drop (at + 1) rows =
    drop-cons rows at row (omega (arith, c.loop-row-test.true)) ∙ (ap (λ r. r ∷ drop (suc at) rows) (sym c.row-item.is) ∙ ap (λ n. row ∷ drop n rows) one_more) in
    let told = g.K.Sink.written in
    let so_far = subst (λ rest. Sends (flat_map (batch_row family) rows) (told c.args.sink.now) [] (told c.loop-row.sink) (c.loop-row.block.items ++ flat_map (batch_row family) rest)) next c.loop-row.invariant.sent in
    record {
      sent = sends_on (flat_map (batch_row family) rows) (batch_row family row) (flat_map (batch_row family) (drop (at + 1) rows)) (told c.args.sink.now) (told c.loop-row.sink) (told c.put_row.new.sink)
          c.loop-row.block.items c.put_row.new.block.items so_far c.in_ok-put_row.ensures.ok;
      valid = (subst (AreValid (stores family)) next c.loop-row.invariant.valid).1;
      later = omega (arith, c.loop-row.invariant.later, c.in_ok-put_row.ensures.cause.later);
    }
