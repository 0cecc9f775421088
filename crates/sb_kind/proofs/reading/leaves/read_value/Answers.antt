use Rattle.std.proofs.Common.{◌≡◌}
use Rattle.std.specs.Prelude.{option_map}
use Rattle.std.proofs.lemmas.Result.{IfOk-weaker}
use Rattle.sb_types.specs.Read.{front_of, value_front}
use Rattle.sb_types.specs.TyView.{type_of}
use Rattle.sb_kind.specs.Read.{found_of, val_front}
use Rattle.sb_kind.proofs.LeafReads.{found_vals}
use Rattle.sb_kind.proofs.reading.leaves.read_value.Goals as goal

pub returns : goal.returns
returns c =
    let t = type_of c.args.of.now in
    let bytes = c.args.bytes.now in
    IfOk-weaker c.read_front.result (λ read. option_map front_of read ≡ value_front t bytes) (λ read. option_map found_of read ≡ val_front t bytes)
    (λ read is. found_vals t bytes read is) c.read_front.ensures.value
