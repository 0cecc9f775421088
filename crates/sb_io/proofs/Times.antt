-- A name that is noted once more.
use Rattle.std.proofs.Common.{◌≡◌, ◌≢◌, ℕ, ◌+◌, ◌≤◌, List, [], ◌∷◌, ◌++◌, Bool, true, false, cond, arith, refl, sym, ◌∙◌, ap}
use Rattle.std.specs.Str.{bytes_eq}
use Rattle.std.specs.declared.vec.Vec.{Vec}
use Rattle.std.specs.declared.alloc.Global.{Global}
use Rattle.std.proofs.lemmas.Slice.Eq.{bytes_eq-Decides}
use Rattle.std.proofs.lemmas.List.Sums.{sum_by-append}
use Rattle.sb_io.specs.declared.shelf.ShelfError.{ShelfError}
use Rattle.sb_io.specs.declared.shelf.ShelfError.TheVariants.{Failed, NoMemory}
use Rattle.sb_io.specs.Shelf.{HasShelfCause}
use Rattle.sb_io.specs.Memory.{times, refused}

abbrev one_if : Bool → ℕ
one_if b = cond b 1 0

times-push : (failed : List (Vec ℕ Global)) (v : Vec ℕ Global) (q : List ℕ) → times (failed ++ v ∷ []) q ≡ times failed q + one_if (bytes_eq v.items q)
times-push failed v q = omega (arith, sum_by-append (λ (noted : Vec ℕ Global). one_if (bytes_eq noted.items q)) failed (v ∷ []))

same_one : (a b : List ℕ) → a ≡ b → one_if (bytes_eq a b) ≡ 1
same_one a b h = ap one_if ((bytes_eq-Decides a b).1 h)

other_none : (a b : List ℕ) → a ≢ b → one_if (bytes_eq a b) ≡ 0
other_none a b h =
    elim (bytes_eq a b) as (λ t. (bytes_eq a b ≡ t) → one_if t ≡ 0) [ true ↦ λ e. absurd (h ((bytes_eq-Decides a b).0 e)) | false ↦ λ e. refl ] refl

-- a failed fetch whose name was noted, or for which no memory was found
pub noted_cause : (before now : List (Vec ℕ Global)) (v : Vec ℕ Global) (name : List ℕ) (e : ShelfError) → v.items ≡ name → (e ≡ Failed → now ≡ before ++ v ∷ []) → HasShelfCause name (times before) (times now) (refused e)
noted_cause before now v name Failed named failed = λ _. rw (failed refl) (omega (arith, times-push before v name, same_one v.items name named))
noted_cause before now v name NoMemory named failed = λ h. cc

pub noted_later : (before now : List (Vec ℕ Global)) (v : Vec ℕ Global) (e : ShelfError) → (e ≡ Failed → now ≡ before ++ v ∷ []) → (e ≡ NoMemory → now ≡ before) → (any : List ℕ) → times before any ≤ times now any
noted_later before now v Failed failed memory any = rw (failed refl) (omega (arith, times-push before v any))
noted_later before now v NoMemory failed memory any = rw (memory refl) (omega arith)

pub noted_others : (before now : List (Vec ℕ Global)) (v : Vec ℕ Global) (name : List ℕ) (e : ShelfError) → v.items ≡ name → (e ≡ Failed → now ≡ before ++ v ∷ []) → (e ≡ NoMemory → now ≡ before) → (other : List ℕ) → other ≢ name → times now other ≡ times before other
noted_others before now v name Failed named failed memory other differs = rw (failed refl) (omega (arith, times-push before v other, other_none v.items other (λ h. differs (sym h ∙ named))))
noted_others before now v name NoMemory named failed memory other differs = ap (λ fs. times fs other) (memory refl)
