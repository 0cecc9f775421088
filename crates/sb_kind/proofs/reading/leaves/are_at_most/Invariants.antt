use Rattle.std.proofs.Common.{◌≡◌, drop}
use Rattle.std.specs.Prelude.{nat_le}
use Rattle.std.specs.List.{list_all}
use Rattle.sb_kind.proofs.reading.leaves.are_at_most.Given as goal

abbrev pub invariant-loop-register : goal.invariant-loop-register
invariant-loop-register l = list_all (λ n. nat_le n l.most) (drop l.register-index l.registers) ≡ list_all (λ n. nat_le n l.most) l.registers
