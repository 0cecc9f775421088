-- The records of a log that are still to come, one by one.
use Rattle.std.proofs.Common.{◌≡◌, ◌≢◌, ◌⊎◌, inl, inr, ◌<◌, ◌≤◌, ℕ, suc, ◌-◌, ◌∙◌, ◌++◌, Bool, true, false, cond, List, [], ◌∷◌, length, Some, None, Ok, Err, refl, sym, ap, append_assoc, arith}
use Rattle.std.proofs.lemmas.Bool.{cases_lt}
use Rattle.std.proofs.lemmas.Bool.Decides.{nat_tests}
use Rattle.std.specs.Prelude.{Result, nat_lt}
use Rattle.sb_check.specs.Log.{LogFault, Logged, onto_records, too_many}
use Rattle.sb_log.specs.Reader.{in_front, within_room}
use Rattle.sb_log.specs.Reading.{fault_in, records_behind}

-- a record more is kept
pub kept_next : (kept : List Logged) (first : Logged) (left : Result (List Logged) LogFault)
    → records_behind kept (in_front first left) ≡ records_behind (kept ++ first ∷ []) left
kept_next kept first (Err fault) = refl
kept_next kept first (Ok others) = ap Ok (sym (append_assoc kept (first ∷ []) others))

less_by : (room n : ℕ) → room ≢ 0 → (n < room) ⊎ (room ≤ n) → nat_lt room (suc n) ≡ nat_lt (room - 1) n
less_by room n some (inl p) = grind (arith, nat_tests)
less_by room n some (inr p) = grind (arith, nat_tests)

in_front_by : (first : Logged) (others : List Logged) (b : Bool) → cond b (Err too_many) (Ok (first ∷ others)) ≡ in_front first (cond b (Err too_many) (Ok others))
in_front_by first others true = refl
in_front_by first others false = refl

-- the record of a good line is the first, where there is room
pub first_of : (room number : ℕ) (first : Logged) (rest : Result (List Logged) LogFault) → room ≢ 0
    → within_room room (onto_records number (Ok first) rest) ≡ in_front first (within_room (room - 1) rest)
first_of room number first (Err fault) some = refl
first_of room number first (Ok others) some =
    ap (λ b. cond b (Err too_many) (Ok (first ∷ others))) (less_by room (length others) some (cases_lt (length others) room)) ∙ in_front_by first others (nat_lt (room - 1) (length others))

none_fits : (n : ℕ) → nat_lt 0 (suc n) ≡ true
none_fits n = grind (arith, nat_tests)

-- past the limit, good lines are too many
pub too_many_left : (number : ℕ) (first : Logged) (rest : Result (List Logged) LogFault) → fault_in rest ≡ None → within_room 0 (onto_records number (Ok first) rest) ≡ Err too_many
too_many_left number first (Err fault) good = cc
too_many_left number first (Ok others) good = ap (λ b. cond b (Err too_many) (Ok (first ∷ others))) (none_fits (length others))

-- and a bad line decides
pub bad_left : (number : ℕ) (first : Logged) (rest : Result (List Logged) LogFault) (fault : LogFault) → fault_in rest ≡ Some fault
    → within_room 0 (onto_records number (Ok first) rest) ≡ Err fault
bad_left number first (Err told) fault is = let same : told ≡ fault = cc in ap Err same
bad_left number first (Ok others) fault is = cc

-- behind a good line, the first bad one is that of the lines that follow
pub fault_behind : (number : ℕ) (first : Logged) (rest : Result (List Logged) LogFault) → fault_in (onto_records number (Ok first) rest) ≡ fault_in rest
fault_behind number first (Err fault) = refl
fault_behind number first (Ok others) = refl
