use Rattle.std.proofs.Common.{◌∙◌, ◌+◌, ap, sym}
use Rattle.std.specs.Prelude.{min}
use Rattle.std.specs.Int.{div_ceil}
use Rattle.sb_feed.specs.Places.{chunks_of}
use Rattle.sb_run.proofs.Chunks.{as_many}
use Rattle.sb_run.proofs.Lines.{same_work}
use Rattle.sb_run.proofs.answering.work.Goals as goal

pub returns-clause-line : goal.returns-clause-line
returns-clause-line g c =
    let session = c.args.session.now in
    let length = c.requires.1.length ∙ sym (as_many c.args.feed.now.records) in
    let count = ap (λ n. div_ceil n session.cut.chunk) length ∙ ap chunks_of c.requires.0.places in
    same_work session.worked _ _ c.count.result c.in_ok-chunks.chunks
    (c.in_ok-chunks.ensures.worked ∙ ap (min (session.worked + c.args.most)) count) c.in_ok-chunks.ensures.chunks c.count.ensures
