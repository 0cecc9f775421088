-- Canonical decimals: one spelling for each number, which std's `decimal` and `signed_decimal` write.
use Rattle.std.specs.Prelude.{ℕ, zero, suc, ◌+◌, ◌-◌, ◌*◌, ◌^◌, ℤ, pos, negsuc, ◌&&◌, ◌==◌, nat_le, List, [], ◌∷◌, Option, Some, None, option_map, option_and_then, if◌then◌else◌}
use Rattle.std.specs.Char.{is_ascii_digit}

-- the number that n becomes as these digits follow it, where it stays at most `most`
abbrev pub number_after : ℕ → ℕ → List ℕ → Option ℕ
number_after most n [] = Some n
number_after most n (c ∷ digits) =
    if is_ascii_digit c && nat_le (10 * n + (c - 48)) most then number_after most (10 * n + (c - 48)) digits else None

abbrev pub zero_alone : List ℕ → Option ℕ
zero_alone [] = Some 0
zero_alone (c ∷ digits) = None

-- the number up to `most` that the bytes spell: `0`, or digits of which the first isn't 0
abbrev pub natural : ℕ → List ℕ → Option ℕ
natural most [] = None
natural most (c ∷ digits) = if c == 48 then zero_alone digits else number_after most 0 (c ∷ digits)

-- the number below 0 of this size
abbrev pub negative : ℕ → Option ℤ
negative zero = None
negative (suc n) = Some (negsuc n)

-- the i64 that the bytes spell, where `-` stands only before a number that isn't 0
abbrev pub integer : List ℕ → Option ℤ
integer [] = None
integer (c ∷ bytes) =
    if c == 45 then option_and_then negative (natural (2 ^ 63) bytes) else option_map pos (natural (2 ^ 63 - 1) (c ∷ bytes))
