-- What a parser's outcome says of the tokens.
use Rattle.std.proofs.Common.{◌≡◌, ◌≢◌, ◌+◌, ◌-◌, ◌==◌, ℕ, Bool, true, false, if◌then◌else◌, List, [], ◌∷◌, length, Option, Some, None, Ok, Err, refl}
use Rattle.std.proofs.Common.{ap, sym, subst, ◌∙◌, arith}
use Rattle.std.proofs.lemmas.Bool.Decides.{nat_tests}
use Rattle.sb_tokens.specs.Token.{Token}
use Rattle.sb_grammar.specs.Grammar.{Rule, Tree}
use Rattle.sb_grammar.proofs.Machine.{Forest, Stop, ended, misfit, spent, read}
use Rattle.sb_grammar.proofs.Place as place
use Rattle.sb_syntax.specs.declared.fault.Fault.{Fault}
use Rattle.sb_syntax.specs.declared.fault.Fault.TheVariants.{NoMemory, Deep, Ended, Misfit, Spent}
use Rattle.sb_syntax.specs.Reading.{Input, Budget, Outcome, Parser, spend}
use Rattle.sb_syntax.proofs.Follow.{Rd, at_input, Under, Follows}

module _ (r : Rule) where
  -- the tree was read, and these tokens are left
  abbrev pub Took : Input → Tree r → Input → Type 0
  Took i a j = place.Took (ℕ × Token) (λ p. p.1) Budget spend (Tree r) i.places i.budget (r ∷ []) (λ f. f.0) a j.places j.budget

  -- reading stopped where these are left
  abbrev pub Place : Input → Stop → Input → Type 0
  Place i stop j = place.Place (ℕ × Token) (λ p. p.1) Budget spend (Tree r) i.places i.budget (r ∷ []) (λ f. f.0) stop j.places j.budget

  abbrev pub SaysOf : Input → Fault → Input → Type 0
  SaysOf i Ended j = Place i ended j
  SaysOf i Misfit j = Place i misfit j
  SaysOf i Spent j = Place i spent j
  SaysOf i _ j = Unit {0}

  abbrev pub Says : Input → Outcome (Tree r) → Type 0
  Says i (Ok p) = Took i p.0 p.1
  Says i (Err e) = SaysOf i e.0 e.1

  abbrev Tells : Input → Rd (Tree r) → Type 0
  Tells i o = place.Tells (ℕ × Token) (λ p. p.1) Budget spend (Tree r) i.places i.budget (r ∷ []) (λ f. f.0) o

  nothing_more : (places : List (ℕ × Token)) (b : Budget) (make : Forest [] → Tree r) → read (ℕ × Token) (λ p. p.1) Budget spend
      (Tree r) places b [] make ≡ Ok (make tt, places, b)
  nothing_more [] b make = refl
  nothing_more (_ ∷ places) b make = refl

  says_of : (i j : Input) (fault : Fault) (o : Rd (Tree r)) → Under (Tree r) (Err (fault, j)) (λ a j. at_input (Tree r) j [] (λ f. a)) o → Tells i o
      → SaysOf i fault j
  says_of i j Ended o u t = subst (Tells i) u.same t
  says_of i j Misfit o u t = subst (Tells i) u.same t
  says_of i j Spent o u t = subst (Tells i) u.same t
  says_of i j Deep o u t = tt
  says_of i j NoMemory o u t = tt

  says_by : (i : Input) (q : Outcome (Tree r)) (o : Rd (Tree r)) → Under (Tree r) q (λ a j. at_input (Tree r) j [] (λ f. a)) o → Tells i o → Says i q
  says_by i (Ok p) o u t = subst (Tells i) (u.same ∙ nothing_more p.1.places p.1.budget (λ f. p.0)) t
  says_by i (Err e) o u t = says_of i e.1 e.0 o u t

  pub says : (p : Parser (Tree r)) → Follows (Tree r) r p → (i : Input) → Says i (p i)
  says p follows i = says_by i (p i) (at_input (Tree r) i (r ∷ []) (λ f. f.0)) (follows i [] (λ f. f.0)) (place.tells (ℕ × Token)
      (λ p. p.1) Budget spend (Tree r) i.places i.budget (r ∷ []) (λ f. f.0))

-- ---- what tokens take of the room

abbrev pub Less : Budget → Budget → Type 0
Less b c = (c.room + 1 ≡ b.room) × (c.ending ≡ b.ending)

some_same : (b c : Budget) → Some b ≡ Some c → b ≡ c
some_same b c h = cc

abbrev left_by : Budget → Bool → Option Budget
left_by b t = if t then None else Some (record { room = b.room - 1; ending = b.ending })

spend_by : (b c : Budget) (t : Bool) → (b.room == 0) ≡ t → left_by b t ≡ Some c → Less b c
spend_by b c true e h = cc
spend_by b c false e h =
    let same = some_same (record { room = b.room - 1; ending = b.ending }) c h in
    let some : b.room ≢ 0 = grind (arith, nat_tests) in
    (ap (λ d. d.room + 1) (sym same) ∙ omega (arith, some), ap (λ d. d.ending) (sym same))

pub spends_less : (b c : Budget) → spend b ≡ Some c → Less b c
spends_less b c h = spend_by b c (b.room == 0) refl h

no_room_by : (b : Budget) (t : Bool) → (b.room == 0) ≡ t → left_by b t ≡ None → b.room ≡ 0
no_room_by b true e h = grind (arith, nat_tests)
no_room_by b false e h = cc

pub no_room : (b : Budget) → spend b ≡ None → b.room ≡ 0
no_room b h = no_room_by b (b.room == 0) refl h

pub spends : (used : List (ℕ × Token)) (b c : Budget) → place.Spends (ℕ × Token) (λ p. p.1) Budget spend Bool used b c →
    (c.room + length used ≡ b.room) × (c.ending ≡ b.ending)
spends [] b c h = (ap (λ d. d.room + 0) (sym h) ∙ omega arith, ap (λ d. d.ending) (sym h))
spends (_ ∷ used) b c h =
    let less = spends_less b h.0 h.1 in
    let more = spends used h.0 c h.2 in
    (omega (arith, less.0, more.0), more.1 ∙ less.1)
