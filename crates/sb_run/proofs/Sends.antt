-- Bytes that are sent one after the other.
use Rattle.std.proofs.Common.{◌≡◌, ℕ, List, [], ◌++◌, Option, Some, None, option_map, refl, sym, ap, ◌∙◌, append_assoc, append-nil}
use Rattle.std.specs.Option.{unwrap_or}
use Rattle.sb_io.specs.Sink.{Appends}
use Rattle.sb_run.specs.Blocks.{Sends}

given : (x y : List ℕ) → Some x ≡ Some y → x ≡ y
given x y is = ap (λ o. unwrap_or o x) is

-- a row is sent, and what is still to come behind it is as before
pub sends_on : (all row rest : List ℕ) (before mid now : Option (List ℕ)) (waiting_mid waiting_now : List ℕ)
    → Sends all before [] mid (waiting_mid ++ (row ++ rest)) → Sends row mid waiting_mid now waiting_now → Sends all before [] now (waiting_now ++ rest)
sends_on all row rest None mid now waiting_mid waiting_now so_far next = tt
sends_on all row rest (Some old) None now waiting_mid waiting_now so_far next = cc
sends_on all row rest (Some old) (Some told) None waiting_mid waiting_now so_far next = cc
sends_on all row rest (Some old) (Some told) (Some new) waiting_mid waiting_now so_far next =
    ap Some (sym (append_assoc new waiting_now rest)
    ∙ (ap (λ bytes. bytes ++ rest) (given (new ++ waiting_now) (told ++ (waiting_mid ++ row)) next)
    ∙ (append_assoc told (waiting_mid ++ row) rest ∙ ap (λ bytes. told ++ bytes) (append_assoc waiting_mid row rest))))
    ∙ so_far

-- the last block is put
pub sends_all : (all waiting : List ℕ) (before mid now : Option (List ℕ)) → Sends all before [] mid (waiting ++ []) → Appends waiting mid now → Appends all before now
sends_all all waiting None mid now so_far put = tt
sends_all all waiting (Some old) None now so_far put = cc
sends_all all waiting (Some old) (Some told) now so_far put = put ∙ (ap (λ bytes. Some (told ++ bytes)) (sym (append-nil waiting)) ∙ so_far)

-- nothing is sent yet
pub sends_nothing : (all waiting : List ℕ) (before : Option (List ℕ)) → waiting ≡ [] → Sends all before [] before (waiting ++ all)
sends_nothing all waiting None empty = tt
sends_nothing all waiting (Some old) empty = ap (λ bytes. Some (old ++ (bytes ++ all))) empty

-- bytes are put, and what is still to come behind them is as before
pub puts_on : (all row rest : List ℕ) (before mid now : Option (List ℕ)) → Sends all before [] mid (row ++ rest) → Appends row mid now → Sends all before [] now rest
puts_on all row rest None mid now so_far put = tt
puts_on all row rest (Some old) None now so_far put = cc
puts_on all row rest (Some old) (Some told) now so_far put = ap (option_map (λ new. new ++ rest)) put ∙ (ap Some (append_assoc told row rest) ∙ so_far)

-- nothing is still to come
pub puts_all : (all : List ℕ) (before now : Option (List ℕ)) → Sends all before [] now [] → Appends all before now
puts_all all None now so_far = tt
puts_all all (Some old) None so_far = cc
puts_all all (Some old) (Some new) so_far = ap Some (sym (append-nil new)) ∙ so_far

-- all is still to come
pub puts_none : (all : List ℕ) (before : Option (List ℕ)) → Sends all before [] before all
puts_none all None = tt
puts_none all (Some old) = refl
