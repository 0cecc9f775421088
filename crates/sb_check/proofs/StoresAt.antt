-- The store at a place.
use Rattle.std.proofs.Common.{◌≡◌, ◌∙◌, ap, ℕ, zero, suc, false, List, [], ◌∷◌, drop, map, Option, Some, None, Err, refl, sym}
use Rattle.std.specs.Prelude.{option_map, slice_get}
use Rattle.std.proofs.lemmas.Option.{slice_get-map}
use Rattle.sb_kind.specs.Monoids.{commutes}
use Rattle.sb_kind.specs.KindView.{monoid_of}
use Rattle.sb_check.specs.declared.admission.AdmitError.{AdmitError}
use Rattle.sb_check.specs.declared.admission.AdmitError.TheVariants.{NotCommuting}
use Rattle.sb_check.specs.Admission.{first_ordered, admitted, admission_of}
use Rattle.sb_check.specs.Declarations.{Store, store_of}
use Rattle.sb_check.specs.Programs.{CheckedProgram}
use Rattle.sb_check.specs.declared.declarations.StoreDecl.{StoreDecl}

pub name_at : (ss : List StoreDecl) (n : ℕ) (s : StoreDecl) → slice_get ss n ≡ Some s → Some s.name ≡ option_map (λ s. s.name) (slice_get (map store_of ss) n)
name_at ss n s e = rw (slice_get-map store_of ss n, e) refl

at_front : (ss rest : List StoreDecl) (n : ℕ) (s : StoreDecl) → drop n ss ≡ s ∷ rest → slice_get ss n ≡ Some s
at_front [] rest zero s d = cc
at_front [] rest (suc n) s d = cc
at_front (x ∷ ss) rest zero s d = let is : x ≡ s = cc in rw is refl
at_front (x ∷ ss) rest (suc n) s d = at_front ss rest n s d

-- what doesn't commute is the first of those from its place on
pub first_at : (ss rest : List StoreDecl) (n : ℕ) (s : StoreDecl) (due : Option (ℕ × Store)) → drop n ss ≡ s ∷ rest → commutes (monoid_of s.kind) ≡ false
    → first_ordered n (map store_of (drop n ss)) ≡ due → option_map (λ t. (n, store_of t)) (slice_get ss n) ≡ due
first_at ss rest n s due d ordered e =
    let front : first_ordered n (store_of s ∷ map store_of rest) ≡ due = rw d at e in
    let is : Some (n, store_of s) ≡ due = rw ordered at front in
    rw (at_front ss rest n s d) is

refused_as : (c : CheckedProgram) (o : Option StoreDecl) (first : Option (ℕ × Store)) (n : ℕ) (e : AdmitError) → option_map (λ s. (n, store_of s)) o ≡ first
    → Some e ≡ option_map (λ s. NotCommuting n s.name) (option_map store_of o) → admitted c first ≡ Err e
refused_as c None first n e p q = cc
refused_as c (Some s) first n e p q = let is : e ≡ NotCommuting n s.name = cc in rw (sym p, is) refl

-- the refusal of the first that doesn't commute
pub refused : (c : CheckedProgram) (ss : List StoreDecl) (n : ℕ) (e : AdmitError) → map store_of ss ≡ c.declared.stores → option_map (λ s. (n, store_of s)) (slice_get ss n) ≡ first_ordered 0 (map store_of ss)
    → Some e ≡ option_map (λ s. NotCommuting n s.name) (slice_get c.declared.stores n) → admission_of c ≡ Err e
refused c ss n e m p q =
    let named : Some e ≡ option_map (λ s. NotCommuting n s.name) (option_map store_of (slice_get ss n)) = rw (sym m, slice_get-map store_of ss n) at q in
    ap (λ stores. admitted c (first_ordered 0 stores)) (sym m) ∙ refused_as c (slice_get ss n) (first_ordered 0 (map store_of ss)) n e p named
