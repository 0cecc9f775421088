use Rattle.std.proofs.Common.{◌≡◌, ◌<◌, ◌∷◌, ◌++◌, suc, drop, length, ap, ◌∙◌, arith}
use Rattle.std.specs.Fmt.{decimal}
use Rattle.std.proofs.Math.Seq.{drop-cons}
use Rattle.sb_sketch.proofs.Counting.{cell_got}
use Rattle.sb_types.proofs.ValTexts.{front_step}
use Rattle.sb_kind.proofs.Texts.{item_written}
use Rattle.sb_kind.proofs.writing.push_cells.Goals as goal

pub loop-at-preserved : goal.loop-at-preserved
loop-at-preserved c =
    let before = c.args.out.now.items in
    let cells = c.args.cells.now in
    let at = c.loop-at.at in
    let within : at < length cells = omega (arith, c.loop-at-test.true, c.len-at-end.ensures) in
    let next : drop at cells ≡ c.get.result ∷ drop (suc at) cells = drop-cons cells at 0 within ∙ ap (λ x. x ∷ drop (suc at) cells) (cell_got cells at c.get.result within c.get.ensures) in
    record {
      written = item_written decimal at c.get.result cells c.loop-at.out.items c.extend_from_slice.new.self.items c.write_u64.new.out.items _ next c.loop-at.invariant.written (c.in_ok-extend_from_slice.ensures.items ∙ ap (λ l. c.loop-at.out.items ++ l) c.comma_before.ensures) c.in_ok-write_u64.ensures.ok;
      front = front_step before _ _ _ (front_step before _ _ _ c.loop-at.invariant.front c.in_ok-extend_from_slice.ensures.items) c.in_ok-write_u64.ensures.ok;
    }
