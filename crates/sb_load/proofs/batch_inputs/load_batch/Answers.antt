use Rattle.std.proofs.Common.{◌∙◌, ap, subst, sym}
use Rattle.sb_load.specs.Batches.{TellsBatch}
use Rattle.sb_load.specs.Commands.{chunk_of, files_of, log_name, program_name, script_name}
use Rattle.sb_load.specs.Inputs.{Loads}
use Rattle.sb_load.proofs.batch_inputs.load_batch.Goals as goal

pub returns-in-Batch-clause-read : goal.returns-in-Batch-clause-read
returns-in-Batch-clause-read g c =
    let is = c.in-Batch.is in
    subst (λ o. TellsBatch (Loads (g.H.Shelf.content c.args.shelf.now) c.args.command.now o) c.load_named.result) (sym (ap program_name is))
    (c.load_named.ensures.read c.args.command.now (record {
      program = ap program_name is;
      services = ap files_of is ∙ sym c.as_slice.ensures;
      log = ap log_name is;
      script = ap script_name is;
      chunk = ap chunk_of is;
    }))
