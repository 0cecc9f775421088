-- What a parser has to do with the machine: whatever is to come behind its rule, the machine does as it does.
use Rattle.std.proofs.Common.{◌≡◌, ℕ, suc, List, [], ◌∷◌, Option, Some, None, Ok, Err, refl, sym, subst}
use Rattle.sb_tokens.specs.declared.keyword.Keyword.TheVariants as k
use Rattle.sb_tokens.specs.declared.symbol.Symbol.TheVariants as m
use Rattle.sb_tokens.specs.Token.{Token}
use Rattle.sb_tokens.specs.Token as t
use Rattle.sb_grammar.specs.Grammar.{Rule, Tree, from_word, then_word, else_word, open_paren, close_paren, comma, colon, arrow, assign, number, positive, a_name}
use Rattle.sb_grammar.proofs.Machine.{Forest, ended, misfit, spent, Reading, goes_on, read}
use Rattle.sb_syntax.specs.declared.fault.Fault.{Fault}
use Rattle.sb_syntax.specs.declared.fault.Fault.TheVariants.{Deep, Ended, Misfit, Spent}
use Rattle.sb_syntax.specs.Reading.{Input, Budget, Outcome, Parser, and_then, ◌>>=◌, ◌>>◌, pure, spend, taken_by, take_token, take_with, refuse}
use Rattle.sb_syntax.specs.Reading.{refusal, too_deep, ahead, sees, sees_word, expect, expect_word}
use Rattle.sb_syntax.specs.Reading as p

module _ (R : Type 0) where
  abbrev pub Rd : Type 0
  Rd = Reading (ℕ × Token) (λ p. p.1) Budget spend R

  -- the machine at an input
  abbrev pub at_input : Input → (s : List Rule) → (Forest s → R) → Rd
  at_input i = read (ℕ × Token) (λ p. p.1) Budget spend R i.places i.budget

  abbrev StopsAs : Fault → Input → Rd → Type 0
  StopsAs Ended i r = r ≡ Err (ended, i.places, i.budget)
  StopsAs Misfit i r = r ≡ Err (misfit, i.places, i.budget)
  StopsAs Spent i r = r ≡ Err (spent, i.places, i.budget)
  StopsAs _ i r = Unit {0}

  abbrev Same : {A : Type 0} → Outcome A → (A → Input → Rd) → Rd → Type 0
  Same (Ok p) on r = r ≡ on p.0 p.1
  Same (Err e) on r = StopsAs e.0 e.1 r

  -- the reading is the outcome's, going on by the function
  pub record Under {A : Type 0} (o : Outcome A) (on : A → Input → Rd) (r : Rd) : Type 0 where
    pub same : Same o on r

  bound : {A C : Type 0} (on : A → Input → Rd) (go : C → Input → Rd) (r : Rd) (o : Outcome A) (f : A → Parser C)
      → Same o on r → ((a : A) (i : Input) → Under (f a i) go (on a i)) → Under (and_then o f) go r
  bound on go r (Ok p) f h g = subst (λ x. Under (f p.0 p.1) go x) (sym h) (g p.0 p.1)
  bound on go r (Err e) f h g = record { same = h }

  pub bind : {A C : Type 0} {on : A → Input → Rd} {go : C → Input → Rd} {r : Rd} (o : Outcome A) (f : A → Parser C)
      → Under o on r → ((a : A) (i : Input) → Under (f a i) go (on a i)) → Under (and_then o f) go r
  bind {on = on} {go = go} {r = r} o f h g = bound on go r o f h.same g

  pub from : {A : Type 0} {on : A → Input → Rd} (o : Outcome A) (q r : Rd) → r ≡ q → Under o on q → Under o on r
  from {on = on} o q r e h = subst (λ x. Under o on x) (sym e) h

  pub gives : {A : Type 0} (a : A) (i : Input) (on : A → Input → Rd) → Under (Ok (a, i)) on (on a i)
  gives a i on = record { same = refl }

  pub misfits : {A : Type 0} (i : Input) (on : A → Input → Rd) → Under (Err (Misfit, i)) on (Err (misfit, i.places, i.budget))
  misfits i on = record { same = refl }

  pub ends_here : {A : Type 0} (i : Input) (on : A → Input → Rd) → Under (Err (Ended, i)) on (Err (ended, i.places, i.budget))
  ends_here i on = record { same = refl }

  pub deep : {A : Type 0} (i : Input) (on : A → Input → Rd) (r : Rd) → Under (Err (Deep, i)) on r
  deep i on r = record { same = tt }

  takes_by : (o : Option Budget) (place : ℕ × Token) (places : List (ℕ × Token)) (b : Budget) (s : List Rule) (make : Forest s → R)
      → Under (taken_by o (record { places = place ∷ places; budget = b })) (λ _ j. at_input j s make) (goes_on (ℕ × Token)
      (λ p. p.1) Budget spend R o (λ c. read (ℕ × Token) (λ p. p.1) Budget spend R places c s make) place places b)
  takes_by None place places b s make = record { same = refl }
  takes_by (Some c) place places b s make = record { same = refl }

  pub takes : (place : ℕ × Token) (places : List (ℕ × Token)) (b : Budget) (s : List Rule) (make : Forest s → R)
      → Under (take_token (record { places = place ∷ places; budget = b })) (λ _ j. at_input j s make) (goes_on (ℕ × Token)
      (λ p. p.1) Budget spend R (spend b) (λ c. read (ℕ × Token) (λ p. p.1) Budget spend R places c s make) place places b)
  unfolding take_token
  takes place places b s make = takes_by (spend b) place places b s make

  -- the parser does what the rule does
  abbrev pub Follows : (r : Rule) → Parser (Tree r) → Type 0
  Follows r p = (i : Input) (s : List Rule) (make : Forest (r ∷ s) → R) → Under (p i) (λ a j. at_input j s (λ f. make (a, f))) (at_input i
      (r ∷ s) make)

  by_places : (r : Rule) (p : Parser (Tree r))
      → ((b : Budget) (s : List Rule) (make : Forest (r ∷ s) → R) → Under (p (record { places = []; budget = b })) (λ a j. at_input j s (λ f. make
      (a, f))) (at_input (record { places = []; budget = b }) (r ∷ s) make))
      → ((o : ℕ) (x : Token) (places : List (ℕ × Token)) (b : Budget) (s : List Rule) (make : Forest (r ∷ s) → R) → Under (p (record {
        places =
            (o, x) ∷ places;
        budget = b;
      })) (λ a j. at_input j s (λ f. make (a, f))) (at_input (record { places = (o, x) ∷ places; budget = b })
      (r ∷ s) make))
      → (places : List (ℕ × Token)) (b : Budget) (s : List Rule) (make : Forest (r ∷ s) → R) → Under (p (record { places = places; budget = b }))
      (λ a j. at_input j s (λ f. make (a, f))) (at_input (record { places = places; budget = b }) (r ∷ s) make)
  by_places r p none some [] b s make = none b s make
  by_places r p none some (place ∷ places) b s make = some place.0 place.1 places b s make

  -- it is enough to see this at a text's end and at a token
  pub by_next : (r : Rule) (p : Parser (Tree r))
      → ((b : Budget) (s : List Rule) (make : Forest (r ∷ s) → R) → Under (p (record { places = []; budget = b })) (λ a j. at_input j s (λ f. make
      (a, f))) (at_input (record { places = []; budget = b }) (r ∷ s) make))
      → ((o : ℕ) (x : Token) (places : List (ℕ × Token)) (b : Budget) (s : List Rule) (make : Forest (r ∷ s) → R) → Under (p (record {
        places =
            (o, x) ∷ places;
        budget = b;
      })) (λ a j. at_input j s (λ f. make (a, f))) (at_input (record { places = (o, x) ∷ places; budget = b })
      (r ∷ s) make))
      → Follows r p
  by_next r p none some = λ i. by_places r p none some i.places i.budget

  at_from_word : (o : ℕ) (x : Token) (places : List (ℕ × Token)) (b : Budget) (s : List Rule) (make : Forest (from_word ∷ s) → R) → Under
      (expect_word k.From (record { places = (o, x) ∷ places; budget = b })) (λ a j. at_input j s (λ f. make (a, f))) (at_input (record {
        places =
            (o, x) ∷ places;
        budget = b;
      }) (from_word ∷ s) make)
  unfolding expect_word sees_word ahead refusal
  at_from_word o (t.keyword k.From) places b s make = takes (o, t.keyword k.From) places b s (λ f. make (tt, f))
  at_from_word o x places b s make = misfits (record { places = (o, x) ∷ places; budget = b }) (λ a j. at_input j s (λ f. make (a, f)))

  pub follows_from_word : Follows from_word (expect_word k.From)
  unfolding expect_word sees_word ahead refusal
  follows_from_word = by_next from_word (expect_word k.From) (λ b s make. ends_here (record { places = []; budget = b }) (λ a j. at_input j s
      (λ f. make (a, f)))) at_from_word

  at_then_word : (o : ℕ) (x : Token) (places : List (ℕ × Token)) (b : Budget) (s : List Rule) (make : Forest (then_word ∷ s) → R) → Under
      (expect_word k.Then (record { places = (o, x) ∷ places; budget = b })) (λ a j. at_input j s (λ f. make (a, f))) (at_input (record {
        places =
            (o, x) ∷ places;
        budget = b;
      }) (then_word ∷ s) make)
  unfolding expect_word sees_word ahead refusal
  at_then_word o (t.keyword k.Then) places b s make = takes (o, t.keyword k.Then) places b s (λ f. make (tt, f))
  at_then_word o x places b s make = misfits (record { places = (o, x) ∷ places; budget = b }) (λ a j. at_input j s (λ f. make (a, f)))

  pub follows_then_word : Follows then_word (expect_word k.Then)
  unfolding expect_word sees_word ahead refusal
  follows_then_word = by_next then_word (expect_word k.Then) (λ b s make. ends_here (record { places = []; budget = b }) (λ a j. at_input j s
      (λ f. make (a, f)))) at_then_word

  at_else_word : (o : ℕ) (x : Token) (places : List (ℕ × Token)) (b : Budget) (s : List Rule) (make : Forest (else_word ∷ s) → R) → Under
      (expect_word k.Else (record { places = (o, x) ∷ places; budget = b })) (λ a j. at_input j s (λ f. make (a, f))) (at_input (record {
        places =
            (o, x) ∷ places;
        budget = b;
      }) (else_word ∷ s) make)
  unfolding expect_word sees_word ahead refusal
  at_else_word o (t.keyword k.Else) places b s make = takes (o, t.keyword k.Else) places b s (λ f. make (tt, f))
  at_else_word o x places b s make = misfits (record { places = (o, x) ∷ places; budget = b }) (λ a j. at_input j s (λ f. make (a, f)))

  pub follows_else_word : Follows else_word (expect_word k.Else)
  unfolding expect_word sees_word ahead refusal
  follows_else_word = by_next else_word (expect_word k.Else) (λ b s make. ends_here (record { places = []; budget = b }) (λ a j. at_input j s
      (λ f. make (a, f)))) at_else_word

  at_open_paren : (o : ℕ) (x : Token) (places : List (ℕ × Token)) (b : Budget) (s : List Rule) (make : Forest (open_paren ∷ s) → R) → Under
      (expect m.OpenParen (record { places = (o, x) ∷ places; budget = b })) (λ a j. at_input j s (λ f. make (a, f))) (at_input (record {
        places =
            (o, x) ∷ places;
        budget = b;
      }) (open_paren ∷ s) make)
  unfolding expect sees ahead refusal
  at_open_paren o (t.symbol m.OpenParen) places b s make = takes (o, t.symbol m.OpenParen) places b s (λ f. make (tt, f))
  at_open_paren o x places b s make = misfits (record { places = (o, x) ∷ places; budget = b }) (λ a j. at_input j s (λ f. make (a, f)))

  pub follows_open_paren : Follows open_paren (expect m.OpenParen)
  unfolding expect sees ahead refusal
  follows_open_paren = by_next open_paren (expect m.OpenParen) (λ b s make. ends_here (record { places = []; budget = b }) (λ a j. at_input j s
      (λ f. make (a, f)))) at_open_paren

  at_close_paren : (o : ℕ) (x : Token) (places : List (ℕ × Token)) (b : Budget) (s : List Rule) (make : Forest (close_paren ∷ s) → R) → Under
      (expect m.CloseParen (record { places = (o, x) ∷ places; budget = b })) (λ a j. at_input j s (λ f. make (a, f))) (at_input (record {
        places =
            (o, x) ∷ places;
        budget = b;
      }) (close_paren ∷ s) make)
  unfolding expect sees ahead refusal
  at_close_paren o (t.symbol m.CloseParen) places b s make = takes (o, t.symbol m.CloseParen) places b s (λ f. make (tt, f))
  at_close_paren o x places b s make = misfits (record { places = (o, x) ∷ places; budget = b }) (λ a j. at_input j s (λ f. make (a, f)))

  pub follows_close_paren : Follows close_paren (expect m.CloseParen)
  unfolding expect sees ahead refusal
  follows_close_paren = by_next close_paren (expect m.CloseParen) (λ b s make. ends_here (record { places = []; budget = b }) (λ a j. at_input j s
      (λ f. make (a, f)))) at_close_paren

  at_comma : (o : ℕ) (x : Token) (places : List (ℕ × Token)) (b : Budget) (s : List Rule) (make : Forest (comma ∷ s) → R) → Under (expect m.Comma
      (record { places = (o, x) ∷ places; budget = b })) (λ a j. at_input j s (λ f. make (a, f))) (at_input (record {
        places =
            (o, x) ∷ places;
        budget = b;
      }) (comma ∷ s) make)
  unfolding expect sees ahead refusal
  at_comma o (t.symbol m.Comma) places b s make = takes (o, t.symbol m.Comma) places b s (λ f. make (tt, f))
  at_comma o x places b s make = misfits (record { places = (o, x) ∷ places; budget = b }) (λ a j. at_input j s (λ f. make (a, f)))

  pub follows_comma : Follows comma (expect m.Comma)
  unfolding expect sees ahead refusal
  follows_comma = by_next comma (expect m.Comma) (λ b s make. ends_here (record { places = []; budget = b }) (λ a j. at_input j s (λ f. make
      (a, f)))) at_comma

  at_colon : (o : ℕ) (x : Token) (places : List (ℕ × Token)) (b : Budget) (s : List Rule) (make : Forest (colon ∷ s) → R) → Under (expect m.Colon
      (record { places = (o, x) ∷ places; budget = b })) (λ a j. at_input j s (λ f. make (a, f))) (at_input (record {
        places =
            (o, x) ∷ places;
        budget = b;
      }) (colon ∷ s) make)
  unfolding expect sees ahead refusal
  at_colon o (t.symbol m.Colon) places b s make = takes (o, t.symbol m.Colon) places b s (λ f. make (tt, f))
  at_colon o x places b s make = misfits (record { places = (o, x) ∷ places; budget = b }) (λ a j. at_input j s (λ f. make (a, f)))

  pub follows_colon : Follows colon (expect m.Colon)
  unfolding expect sees ahead refusal
  follows_colon = by_next colon (expect m.Colon) (λ b s make. ends_here (record { places = []; budget = b }) (λ a j. at_input j s (λ f. make
      (a, f)))) at_colon

  at_arrow : (o : ℕ) (x : Token) (places : List (ℕ × Token)) (b : Budget) (s : List Rule) (make : Forest (arrow ∷ s) → R) → Under (expect m.Arrow
      (record { places = (o, x) ∷ places; budget = b })) (λ a j. at_input j s (λ f. make (a, f))) (at_input (record {
        places =
            (o, x) ∷ places;
        budget = b;
      }) (arrow ∷ s) make)
  unfolding expect sees ahead refusal
  at_arrow o (t.symbol m.Arrow) places b s make = takes (o, t.symbol m.Arrow) places b s (λ f. make (tt, f))
  at_arrow o x places b s make = misfits (record { places = (o, x) ∷ places; budget = b }) (λ a j. at_input j s (λ f. make (a, f)))

  pub follows_arrow : Follows arrow (expect m.Arrow)
  unfolding expect sees ahead refusal
  follows_arrow = by_next arrow (expect m.Arrow) (λ b s make. ends_here (record { places = []; budget = b }) (λ a j. at_input j s (λ f. make
      (a, f)))) at_arrow

  at_assign : (o : ℕ) (x : Token) (places : List (ℕ × Token)) (b : Budget) (s : List Rule) (make : Forest (assign ∷ s) → R) → Under (expect m.Assign
      (record { places = (o, x) ∷ places; budget = b })) (λ a j. at_input j s (λ f. make (a, f))) (at_input (record {
        places =
            (o, x) ∷ places;
        budget = b;
      }) (assign ∷ s) make)
  unfolding expect sees ahead refusal
  at_assign o (t.symbol m.Assign) places b s make = takes (o, t.symbol m.Assign) places b s (λ f. make (tt, f))
  at_assign o x places b s make = misfits (record { places = (o, x) ∷ places; budget = b }) (λ a j. at_input j s (λ f. make (a, f)))

  pub follows_assign : Follows assign (expect m.Assign)
  unfolding expect sees ahead refusal
  follows_assign = by_next assign (expect m.Assign) (λ b s make. ends_here (record { places = []; budget = b }) (λ a j. at_input j s (λ f. make
      (a, f)))) at_assign

  at_number : (o : ℕ) (x : Token) (places : List (ℕ × Token)) (b : Budget) (s : List Rule) (make : Forest (number ∷ s) → R) → Under (p.number
      (record { places = (o, x) ∷ places; budget = b })) (λ a j. at_input j s (λ f. make (a, f))) (at_input (record {
        places =
            (o, x) ∷ places;
        budget = b;
      }) (number ∷ s) make)
  unfolding p.number ahead refusal
  at_number o (t.int n) places b s make = bind (take_token (record { places = (o, t.int n) ∷ places; budget = b })) (λ _. pure n) (takes
      (o, t.int n) places b s (λ f. make (n, f))) (λ _ j. gives n j (λ a j. at_input j s (λ f. make (a, f))))
  at_number o x places b s make = misfits (record { places = (o, x) ∷ places; budget = b }) (λ a j. at_input j s (λ f. make (a, f)))

  pub follows_number : Follows number p.number
  unfolding p.number ahead refusal
  follows_number = by_next number p.number (λ b s make. ends_here (record { places = []; budget = b }) (λ a j. at_input j s (λ f. make
      (a, f)))) at_number

  at_positive : (o : ℕ) (x : Token) (places : List (ℕ × Token)) (b : Budget) (s : List Rule) (make : Forest (positive ∷ s) → R) → Under (p.positive
      (record { places = (o, x) ∷ places; budget = b })) (λ a j. at_input j s (λ f. make (a, f))) (at_input (record {
        places =
            (o, x) ∷ places;
        budget = b;
      }) (positive ∷ s) make)
  unfolding p.positive ahead refusal
  at_positive o (t.int (suc n)) places b s make = bind (take_token (record { places = (o, t.int (suc n)) ∷ places; budget = b })) (λ _. pure
      (suc n)) (takes (o, t.int (suc n)) places b s (λ f. make ((suc n), f))) (λ _ j. gives (suc n) j (λ a j. at_input j s (λ f. make (a, f))))
  at_positive o x places b s make = misfits (record { places = (o, x) ∷ places; budget = b }) (λ a j. at_input j s (λ f. make (a, f)))

  pub follows_positive : Follows positive p.positive
  unfolding p.positive ahead refusal
  follows_positive = by_next positive p.positive (λ b s make. ends_here (record { places = []; budget = b }) (λ a j. at_input j s (λ f. make
      (a, f)))) at_positive

  at_a_name : (o : ℕ) (x : Token) (places : List (ℕ × Token)) (b : Budget) (s : List Rule) (make : Forest (a_name ∷ s) → R) → Under (p.a_name
      (record { places = (o, x) ∷ places; budget = b })) (λ a j. at_input j s (λ f. make (a, f))) (at_input (record {
        places =
            (o, x) ∷ places;
        budget = b;
      }) (a_name ∷ s) make)
  unfolding p.a_name ahead refusal
  at_a_name o (t.name n) places b s make = bind (take_token (record { places = (o, t.name n) ∷ places; budget = b })) (λ _. pure n) (takes
      (o, t.name n) places b s (λ f. make (n, f))) (λ _ j. gives n j (λ a j. at_input j s (λ f. make (a, f))))
  at_a_name o x places b s make = misfits (record { places = (o, x) ∷ places; budget = b }) (λ a j. at_input j s (λ f. make (a, f)))

  pub follows_a_name : Follows a_name p.a_name
  unfolding p.a_name ahead refusal
  follows_a_name = by_next a_name p.a_name (λ b s make. ends_here (record { places = []; budget = b }) (λ a j. at_input j s (λ f. make
      (a, f)))) at_a_name
