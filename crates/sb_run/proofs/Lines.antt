-- The lines that a session answers.
use Rattle.std.proofs.Common.{◌≡◌, ℕ, ◌-◌, List, length, ap, ◌∙◌}
use Rattle.std.specs.List.{range_with_len}
use Rattle.std.proofs.lemmas.List.FromFn.{length-range_with_len}
use Rattle.sb_report.specs.declared.line.TranscriptLine.TheVariants.{Read, Worked}

pub same_read : (store : ℕ) (key : List ℕ) (floor : ℕ) (v w : List ℕ) (p q : ℕ) (c d : List ℕ) → v ≡ w → p ≡ q → c ≡ d → Read store key v p floor c ≡ Read store key w q floor d
same_read store key floor v w p q c d e f g i = Read store key (e i) (f i) floor (g i)

pub same_work : (w n m count : ℕ) (chunks : List ℕ) → n ≡ m → chunks ≡ range_with_len w (n - w) → count ≡ length chunks → Worked count chunks ≡ Worked (m - w) (range_with_len w (m - w))
same_work w n m count chunks same are is =
    let all = are ∙ ap (λ k. range_with_len w (k - w)) same in
    let number = is ∙ (ap length all ∙ length-range_with_len w (m - w)) in
    λ i. Worked (number i) (all i)
