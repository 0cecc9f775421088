-- Asks that are read one after the other, and numbers up to a limit.
use Rattle.std.proofs.Common.{◌≡◌, ℕ, ◌<◌, ◌≤◌, ◌^◌, ◌-◌, List, [], ◌∷◌, ◌++◌, Option, Some, None, Result, Ok, Err, refl, sym, ap, subst, ◌∙◌, append_assoc, arith}
use Rattle.std.specs.Prelude.{IfSome, decimal}
use Rattle.sb_text.specs.Decimal.{natural}
use Rattle.sb_text.proofs.Decimals.{natural-decimal, natural-spelled}
use Rattle.sb_report.specs.declared.script.Ask.{Ask}
use Rattle.sb_report.specs.Script.{onto_asks}

-- asks in front of what the lines that are left ask
abbrev pub behind : List Ask → Result (List Ask) ℕ → Result (List Ask) ℕ
behind asks (Ok others) = Ok (asks ++ others)
behind asks (Err line) = Err line

pub behind_one : (asks : List Ask) (ask : Ask) (number : ℕ) (others : Result (List Ask) ℕ) → behind (asks ++ ask ∷ []) others ≡ behind asks (onto_asks number (Some ask) others)
behind_one asks ask number (Ok others) = ap Ok (append_assoc asks (ask ∷ []) others)
behind_one asks ask number (Err line) = refl

abbrev pub greatest : ℕ
greatest = 2 ^ 64 - 1

abbrev IsDecimal : ℕ → List ℕ → ℕ → Type 0
IsDecimal most bytes n = (bytes ≡ decimal n) × (n ≤ most)

is_spelled : (n : ℕ) (bytes : List ℕ) → Some n ≡ natural greatest bytes → IsDecimal greatest bytes n
is_spelled n bytes read = subst (λ o. IfSome o (IsDecimal greatest bytes)) (sym read) (natural-spelled greatest bytes (omega arith))

-- a number up to a limit is the number that is read without one, if that is within it
pub within_limit : (most n : ℕ) (bytes : List ℕ) → Some n ≡ natural greatest bytes → n ≤ most → Some n ≡ natural most bytes
within_limit most n bytes read le =
    let is = is_spelled n bytes read in
    sym (ap (natural most) is.0 ∙ natural-decimal most n (omega (arith, is.1)) le)

none_else : (most : ℕ) (bytes : List ℕ) (o : Option ℕ) → IfSome o (IsDecimal most bytes) → ((m : ℕ) → bytes ≡ decimal m → m ≤ most → ⊥) → None ≡ o
none_else most bytes None h none = refl
none_else most bytes (Some m) h none = absurd (none m h.0 h.1)

read_again : (m : ℕ) (bytes : List ℕ) → m ≤ greatest → bytes ≡ decimal m → natural greatest bytes ≡ Some m
read_again m bytes le is = ap (natural greatest) is ∙ natural-decimal greatest m (omega (arith, le)) le

pub beyond_limit : (most n : ℕ) (bytes : List ℕ) → most ≤ greatest → Some n ≡ natural greatest bytes → most < n → None ≡ natural most bytes
beyond_limit most n bytes fits read less =
    none_else most bytes (natural most bytes) (natural-spelled most bytes (omega (arith, fits))) (λ m is le.
    let e : Some n ≡ Some m = read ∙ read_again m bytes (omega (arith, fits, le)) is in
    let same : n ≡ m = cc in
    omega (arith, same, le, less))

pub none_within : (most : ℕ) (bytes : List ℕ) → most ≤ greatest → None ≡ natural greatest bytes → None ≡ natural most bytes
none_within most bytes fits none =
    none_else most bytes (natural most bytes) (natural-spelled most bytes (omega (arith, fits))) (λ m is le.
    let e : None ≡ Some m = none ∙ read_again m bytes (omega (arith, fits, le)) is in
    cc)
