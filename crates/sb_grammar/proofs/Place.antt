-- What reading says of the tokens: what was read, what is left, and where it stops.
use Rattle.std.proofs.Common.{◌≡◌, List, [], ◌∷◌, ◌++◌, map, Option, Some, None, Ok, Err, refl, ap, subst, ◌∙◌}
use Rattle.sb_tokens.specs.Token.{Token}
use Rattle.sb_grammar.specs.Grammar.{Rule}
use Rattle.sb_grammar.proofs.Machine.{Forest, Next, step, ends, Stop, ended, misfit, spent, Reading, closes, goes_on, at_next, read}
use Rattle.sb_grammar.proofs.Instances.{some_forest, some_tokens, some_derived}
use Rattle.sb_grammar.proofs.Sound.{All, Behind, IsStep, is_step, is_end}
use Rattle.sb_grammar.proofs.Whole.{run}

-- the stack gives something that begins with these tokens
abbrev pub Completes : List Rule → List Token → Type 0
Completes s front = (f : Forest s) × (after : List Token) × All s f (front ++ after) []

module _ (I : Type 0) (token : I → Token) (B : Type 0) (spend : B → Option B) (R : Type 0) where
  -- these take so much of the room
  abbrev pub Spends : List I → B → B → Type 0
  Spends [] b c = b ≡ c
  Spends (_ ∷ is) b c = (d : B) × (spend b ≡ Some d) × Spends is d c

  -- the same token is next, or none in both
  abbrev pub SameNext : List I → List Token → Type 0
  SameNext [] [] = Unit {0}
  SameNext (i ∷ _) (x ∷ _) = token i ≡ x
  SameNext _ _ = ⊥

  pub record Took (is : List I) (b : B) (s : List Rule) (make : Forest s → R) (r : R) (js : List I) (c : B) : Type 0 where
    pub used : List I
    pub split : is ≡ used ++ js
    pub spends : Spends used b c
    pub behind : Behind R s make r (map token is) (map token js)
    pub again : (v : List Token) → SameNext js v → run R (map token used ++ v) s make ≡ Ok (r, v, tt)

  abbrev pub AtStop : (s : List Rule) → (Forest s → R) → List I → Stop → List I → B → Type 0
  AtStop s make used ended [] c = Completes s (map token used) × (run R (map token used) s make ≡ Err (ended, [], tt))
  AtStop s make used misfit (j ∷ _) c = Completes s (map token used) × ((more : List Token) → run R (map token used ++ token j ∷ more) s make ≡ Err
      (misfit, token j ∷ more, tt))
  AtStop s make used spent (j ∷ _) c = Completes s (map token used ++ token j ∷ []) × (spend c ≡ None)
  AtStop s make used _ _ c = ⊥

  pub record Place (is : List I) (b : B) (s : List Rule) (make : Forest s → R) (stop : Stop) (js : List I) (c : B) : Type 0 where
    pub used : List I
    pub split : is ≡ used ++ js
    pub spends : Spends used b c
    pub here : AtStop s make used stop js c

  abbrev pub Tells : (is : List I) (b : B) (s : List Rule) → (Forest s → R) → Reading I token B spend R → Type 0
  Tells is b s make (Ok x) = Took is b s make x.0 x.1 x.2
  Tells is b s make (Err x) = Place is b s make x.0 x.1 x.2

  completes_none : (s : List Rule) → Completes s []
  completes_none s = (some_forest s, some_tokens s [], some_derived s [])

  closed_again : (s : List Rule) (make : Forest s → R) (r : R) → ends R s make ≡ Some r → (v : List Token) → SameNext [] v → run R v s make ≡ Ok
      (r, v, tt)
  closed_again s make r e [] same = ap (λ o. closes Token (λ x. x) (Unit {0}) (λ u. Some u) R o ended [] tt) e
  closed_again s make r e (x ∷ v) same = absurd same

  tells_end : (b : B) (s : List Rule) (make : Forest s → R) (o : Option R) → ends R s make ≡ o → Tells [] b s make
      (closes I token B spend R o ended [] b)
  tells_end b s make None e = record {
    used = [];
    split = refl;
    spends = refl;
    here = (
      completes_none s,
      ap (λ o. closes Token (λ x. x) (Unit {0})
          (λ u. Some u) R o ended [] tt) e,
    );
  }
  tells_end b s make (Some r) e = record { used = []; split = refl; spends = refl; behind = is_end R s make r [] e; again = closed_again s make r e }

  misfit_again : (s : List Rule) (make : Forest s → R) (i : I) (is : List I) (o : Option R) → step R s make (token i) ≡ None → ends R s make ≡ o →
      (v : List Token) → SameNext (i ∷ is) v
      → run R v s make ≡ closes Token (λ x. x) (Unit {0}) (λ u. Some u) R o misfit v tt
  misfit_again s make i is o none e [] same = absurd same
  misfit_again s make i is o none e (x ∷ v) same =
      let none' : step R s make x ≡ None = subst (λ y. step R s make y ≡ None) same none in
      ap (λ n. at_next Token (λ x. x) (Unit {0}) (λ u. Some u) R n (read Token (λ x. x) (Unit {0}) (λ u. Some u) R v) (ends R s make) x v tt) none'
      ∙ ap (λ o. closes Token (λ x. x) (Unit {0}) (λ u. Some u) R o misfit (x ∷ v) tt) e

  tells_misfit : (i : I) (is : List I) (b : B) (s : List Rule) (make : Forest s → R) (o : Option R) → step R s make (token i) ≡ None
      → ends R s make ≡ o → Tells (i ∷ is) b s make (closes I token B spend R o misfit (i ∷ is) b)
  tells_misfit i is b s make None none e = record {
    used = [];
    split = refl;
    spends = refl;
    here =
        (completes_none s, λ more. misfit_again s make i is None none e (token i ∷ more) refl);
  }
  tells_misfit i is b s make (Some r) none e = record {
    used = [];
    split = refl;
    spends = refl;
    behind = is_end R s make r (map token
        (i ∷ is)) e;
    again = misfit_again s make i is (Some r) none e;
  }

  run_next : (s : List Rule) (make : Forest s → R) (x : Token) (n : Next R) → step R s make x ≡ Some n → (v : List Token) → run R
      (x ∷ v) s make ≡ run R v n.stack n.make
  run_next s make x n e v = ap (λ n. at_next Token (λ x. x) (Unit {0}) (λ u. Some u) R n (read Token (λ x. x) (Unit {0}) (λ u. Some u) R v)
      (ends R s make) x v tt) e

  completes_next : (s : List Rule) (make : Forest s → R) (x : Token) (n : Next R) → IsStep R s make x (Some n) → (front : List Token)
      → Completes n.stack front → Completes s (x ∷ front)
  completes_next s make x n is front c = let b = is c.0 (front ++ c.1) [] c.2 in (b.forest, c.1, b.derived)

  here_next : (s : List Rule) (make : Forest s → R) (i : I) (n : Next R) → step R s make (token i) ≡ Some n → IsStep R s make (token i) (Some n)
      → (used : List I) (stop : Stop) (js : List I) (c : B) → AtStop n.stack n.make used stop js c → AtStop s make (i ∷ used) stop js c
  here_next s make i n e is used ended [] c h = (
    completes_next s make (token i) n is (map token used) h.0,
    run_next s make (token i) n e
        (map token used) ∙ h.1,
  )
  here_next s make i n e is used ended (j ∷ js) c h = absurd h
  here_next s make i n e is used misfit [] c h = absurd h
  here_next s make i n e is used misfit (j ∷ js) c h = (
    completes_next s make (token i) n is (map token used) h.0,
    λ more. run_next s make
        (token i) n e (map token used ++ token j ∷ more) ∙ h.1 more,
  )
  here_next s make i n e is used spent [] c h = absurd h
  here_next s make i n e is used spent (j ∷ js) c h = (completes_next s make (token i) n is (map token used ++ token j ∷ []) h.0, h.1)

  tells_next : (i : I) (is : List I) (b c : B) (s : List Rule) (make : Forest s → R) (n : Next R) → step R s make (token i) ≡ Some n
      → IsStep R s make (token i) (Some n) → spend b ≡ Some c
      → (o : Reading I token B spend R) → Tells is c n.stack n.make o → Tells (i ∷ is) b s make o
  tells_next i is b c s make n e step_is room (Ok x) t =
      let m = step_is t.behind.forest (map token is) (map token x.1) t.behind.derived in
      record {
        used = i ∷ t.used;
        split = ap (λ l. i ∷ l) t.split;
        spends = (c, room, t.spends);
        behind = record { forest = m.forest; makes = m.makes ∙ t.behind.makes; derived = m.derived };
        again = λ v same. run_next s make (token i) n e (map token t.used ++ v) ∙ t.again v same;
      }
  tells_next i is b c s make n e step_is room (Err x) t =
      record {
        used = i ∷ t.used;
        split = ap (λ l. i ∷ l) t.split;
        spends = (c, room, t.spends);
        here = here_next s make i n e step_is t.used x.0 x.1 x.2 t.here;
      }

  tells_room : (i : I) (is : List I) (b : B) (s : List Rule) (make : Forest s → R) (n : Next R) → step R s make (token i) ≡ Some n → IsStep R s make
      (token i) (Some n)
      → ((c : B) → Tells is c n.stack n.make (read I token B spend R is c n.stack n.make)) → (o : Option B) → spend b ≡ o
      → Tells (i ∷ is) b s make (goes_on I token B spend R o (λ c. read I token B spend R is c n.stack n.make) i is b)
  tells_room i is b s make n e step_is on None room = record {
    used = [];
    split = refl;
    spends = refl;
    here = (
      completes_next s make
          (token i) n step_is [] (completes_none n.stack),
      room,
    );
  }
  tells_room i is b s make n e step_is on (Some c) room = tells_next i is b c s make n e step_is room (read I token B spend R is c n.stack n.make)
      (on c)

  tells_step : (i : I) (is : List I) → ((c : B) (s : List Rule) (make : Forest s → R) → Tells is c s make (read I token B spend R is c s make))
      → (b : B) (s : List Rule) (make : Forest s → R) (o : Option (Next R)) → step R s make (token i) ≡ o → IsStep R s make (token i) o
      → Tells (i ∷ is) b s make (at_next I token B spend R o (read I token B spend R is) (ends R s make) i is b)
  tells_step i is on b s make None e step_is = tells_misfit i is b s make (ends R s make) e refl
  tells_step i is on b s make (Some n) e step_is = tells_room i is b s make n e step_is (λ c. on c n.stack n.make) (spend b) refl

  -- what a reading says
  pub tells : (is : List I) (b : B) (s : List Rule) (make : Forest s → R) → Tells is b s make (read I token B spend R is b s make)
  tells [] b s make = tells_end b s make (ends R s make) refl
  tells (i ∷ is) b s make = tells_step i is (tells is) b s make (step R s make (token i)) refl (is_step R s make (token i))
