-- Types and monoids follow the machine.
use Rattle.std.proofs.Common.{ℕ, suc, zero, List, [], ◌∷◌}
use Rattle.sb_tokens.specs.declared.keyword.Keyword.TheVariants as k
use Rattle.sb_tokens.specs.declared.symbol.Symbol.TheVariants as m
use Rattle.sb_tokens.specs.Token.{Token}
use Rattle.sb_tokens.specs.Token as t
use Rattle.sb_grammar.specs.declared.programs.MonoTree.{MonoTree}
use Rattle.sb_grammar.specs.declared.programs.MonoTree.TheVariants as monos
use Rattle.sb_grammar.specs.declared.expressions.Scalar.TheVariants as scalars
use Rattle.sb_grammar.specs.declared.expressions.TypeTree.{TypeTree}
use Rattle.sb_grammar.specs.declared.expressions.TypeTree.TheVariants as types
use Rattle.sb_grammar.specs.Grammar.{Rule}
use Rattle.sb_grammar.specs.Grammar.{open_paren, close_paren, comma, number, scalar, mono, a_type}
use Rattle.sb_grammar.proofs.Machine.{Forest}
use Rattle.sb_syntax.specs.Reading.{Input, Budget, Parser, ◌>>=◌, ◌>>◌, ◌<$>◌, pure, take_token, take_with, refuse, refusal, too_deep, ahead, sees}
use Rattle.sb_syntax.specs.Reading.{sees_word, expect, expect_word}
use Rattle.sb_syntax.specs.Reading as p
use Rattle.sb_syntax.proofs.Follow.{Under, bind, gives, misfits, ends_here, deep, takes, Follows, by_next, at_input, follows_open_paren}
use Rattle.sb_syntax.proofs.Follow.{follows_close_paren, follows_comma, follows_number}
use Rattle.sb_syntax.specs.Types as x

module _ (R : Type 0) where
  at_scalar : (o : ℕ) (u : Token) (places : List (ℕ × Token)) (b0 : Budget) (s : List Rule) (make : Forest (scalar ∷ s) → R) → Under R (x.scalar
      (record { places = (o, u) ∷ places; budget = b0 })) (λ a j. at_input R j s (λ f. make (a, f))) (at_input R (record {
        places =
            (o, u) ∷ places;
        budget = b0;
      }) (scalar ∷ s) make)
  unfolding x.scalar ahead refusal
  at_scalar o (t.keyword k.Int) places b0 s make = bind R (take_token (record { places = (o, t.keyword k.Int) ∷ places; budget = b0 }))
      (λ _. pure scalars.Int) (takes R (o, t.keyword k.Int) places b0 s (λ f. make (scalars.Int, f))) (λ _ j0. gives R scalars.Int j0
      (λ a j. at_input R j s (λ f. make (a, f))))
  at_scalar o (t.keyword k.Text) places b0 s make = bind R (take_token (record { places = (o, t.keyword k.Text) ∷ places; budget = b0 }))
      (λ _. pure scalars.Text) (takes R (o, t.keyword k.Text) places b0 s (λ f. make (scalars.Text, f))) (λ _ j0. gives R scalars.Text j0
      (λ a j. at_input R j s (λ f. make (a, f))))
  at_scalar o (t.keyword k.Bool) places b0 s make = bind R (take_token (record { places = (o, t.keyword k.Bool) ∷ places; budget = b0 }))
      (λ _. pure scalars.Bool) (takes R (o, t.keyword k.Bool) places b0 s (λ f. make (scalars.Bool, f))) (λ _ j0. gives R scalars.Bool j0
      (λ a j. at_input R j s (λ f. make (a, f))))
  at_scalar o u places b0 s make = misfits R (record { places = (o, u) ∷ places; budget = b0 }) (λ a j. at_input R j s (λ f. make (a, f)))

  pub follows_scalar : Follows R scalar (x.scalar)
  unfolding x.scalar ahead refusal
  follows_scalar = by_next R scalar (x.scalar) (λ b0 s make. ends_here R (record { places = []; budget = b0 }) (λ a j. at_input R j s (λ f. make
      (a, f)))) at_scalar

  at_a_type : (part : Parser TypeTree) (hyp : Follows R a_type part) → (o : ℕ) (u : Token) (places : List (ℕ × Token)) (b0 : Budget) (s : List Rule)
      (make : Forest (a_type ∷ s) → R) → Under R (x.type_level part (record { places = (o, u) ∷ places; budget = b0 })) (λ a j. at_input R j s
      (λ f. make (a, f))) (at_input R (record { places = (o, u) ∷ places; budget = b0 }) (a_type ∷ s) make)
  unfolding sees_word ahead
  at_a_type part hyp o (t.keyword k.Pair) places b0 s make = bind R (take_token (record { places = (o, t.keyword k.Pair) ∷ places; budget = b0 }))
      (λ _. (expect m.OpenParen) >>= (λ _. (part) >>= (λ b. (expect m.Comma) >>= (λ _. (part) >>= (λ d. (expect m.CloseParen) >>= (λ _. pure
      (types.Pair b d))))))) (takes R (o, t.keyword k.Pair) places b0 (open_paren ∷ a_type ∷ comma ∷ a_type ∷ close_paren ∷ s) (λ f. make
      ((types.Pair f.1.0 f.1.1.1.0), f.1.1.1.1.1))) (λ _ j0. bind R ((expect m.OpenParen) j0) (λ _. (part) >>= (λ b. (expect m.Comma) >>= (λ _.
      (part) >>= (λ d. (expect m.CloseParen) >>= (λ _. pure (types.Pair b d)))))) (follows_open_paren R j0
      (a_type ∷ comma ∷ a_type ∷ close_paren ∷ s) (λ f. make ((types.Pair f.1.0 f.1.1.1.0), f.1.1.1.1.1))) (λ _ j1. bind R ((part) j1) (λ b.
      (expect m.Comma) >>= (λ _. (part) >>= (λ d. (expect m.CloseParen) >>= (λ _. pure (types.Pair b d))))) (hyp j1
      (comma ∷ a_type ∷ close_paren ∷ s) (λ f. make ((types.Pair f.0 f.1.1.0), f.1.1.1.1))) (λ b j2. bind R ((expect m.Comma) j2) (λ _. (part) >>=
      (λ d. (expect m.CloseParen) >>= (λ _. pure (types.Pair b d)))) (follows_comma R j2 (a_type ∷ close_paren ∷ s) (λ f. make
      ((types.Pair b f.1.0), f.1.1.1))) (λ _ j3. bind R ((part) j3) (λ d. (expect m.CloseParen) >>= (λ _. pure (types.Pair b d))) (hyp j3
      (close_paren ∷ s) (λ f. make ((types.Pair b f.0), f.1.1))) (λ d j4. bind R ((expect m.CloseParen) j4) (λ _. pure (types.Pair b d))
      (follows_close_paren R j4 s (λ f. make ((types.Pair b d), f.1))) (λ _ j5. gives R (types.Pair b d) j5 (λ a j. at_input R j s (λ f. make
      (a, f)))))))))
  at_a_type part hyp o (t.keyword k.Opt) places b0 s make = bind R (take_token (record { places = (o, t.keyword k.Opt) ∷ places; budget = b0 }))
      (λ _. (expect m.OpenParen) >>= (λ _. (part) >>= (λ b. (expect m.CloseParen) >>= (λ _. pure (types.Opt b))))) (takes R
      (o, t.keyword k.Opt) places b0 (open_paren ∷ a_type ∷ close_paren ∷ s) (λ f. make ((types.Opt f.1.0), f.1.1.1))) (λ _ j0. bind R
      ((expect m.OpenParen) j0) (λ _. (part) >>= (λ b. (expect m.CloseParen) >>= (λ _. pure (types.Opt b)))) (follows_open_paren R j0
      (a_type ∷ close_paren ∷ s) (λ f. make ((types.Opt f.1.0), f.1.1.1))) (λ _ j1. bind R ((part) j1) (λ b. (expect m.CloseParen) >>= (λ _. pure
      (types.Opt b))) (hyp j1 (close_paren ∷ s) (λ f. make ((types.Opt f.0), f.1.1))) (λ b j2. bind R ((expect m.CloseParen) j2) (λ _. pure
      (types.Opt b)) (follows_close_paren R j2 s (λ f. make ((types.Opt b), f.1))) (λ _ j3. gives R (types.Opt b) j3 (λ a j. at_input R j s
      (λ f. make (a, f)))))))
  at_a_type part hyp o (t.keyword k.List) places b0 s make = bind R (take_token (record { places = (o, t.keyword k.List) ∷ places; budget = b0 }))
      (λ _. (expect m.OpenParen) >>= (λ _. (part) >>= (λ b. (expect m.Comma) >>= (λ _. (p.number) >>= (λ d. (expect m.CloseParen) >>= (λ _. pure
      (types.List b d))))))) (takes R (o, t.keyword k.List) places b0 (open_paren ∷ a_type ∷ comma ∷ number ∷ close_paren ∷ s) (λ f. make
      ((types.List f.1.0 f.1.1.1.0), f.1.1.1.1.1))) (λ _ j0. bind R ((expect m.OpenParen) j0) (λ _. (part) >>= (λ b. (expect m.Comma) >>= (λ _.
      (p.number) >>= (λ d. (expect m.CloseParen) >>= (λ _. pure (types.List b d)))))) (follows_open_paren R j0
      (a_type ∷ comma ∷ number ∷ close_paren ∷ s) (λ f. make ((types.List f.1.0 f.1.1.1.0), f.1.1.1.1.1))) (λ _ j1. bind R ((part) j1) (λ b.
      (expect m.Comma) >>= (λ _. (p.number) >>= (λ d. (expect m.CloseParen) >>= (λ _. pure (types.List b d))))) (hyp j1
      (comma ∷ number ∷ close_paren ∷ s) (λ f. make ((types.List f.0 f.1.1.0), f.1.1.1.1))) (λ b j2. bind R ((expect m.Comma) j2) (λ _.
      (p.number) >>= (λ d. (expect m.CloseParen) >>= (λ _. pure (types.List b d)))) (follows_comma R j2 (number ∷ close_paren ∷ s) (λ f. make
      ((types.List b f.1.0), f.1.1.1))) (λ _ j3. bind R ((p.number) j3) (λ d. (expect m.CloseParen) >>= (λ _. pure (types.List b d)))
      (follows_number R j3 (close_paren ∷ s) (λ f. make ((types.List b f.0), f.1.1))) (λ d j4. bind R ((expect m.CloseParen) j4) (λ _. pure
      (types.List b d)) (follows_close_paren R j4 s (λ f. make ((types.List b d), f.1))) (λ _ j5. gives R (types.List b d) j5 (λ a j. at_input R j s
      (λ f. make (a, f)))))))))
  at_a_type part hyp o u places b0 s make = bind R ((x.scalar) (record { places = (o, u) ∷ places; budget = b0 })) (λ a. pure (types.Scalar a))
      (follows_scalar (record { places = (o, u) ∷ places; budget = b0 }) s (λ f. make ((types.Scalar f.0), f.1))) (λ a j1. gives R
      (types.Scalar a) j1 (λ a j. at_input R j s (λ f. make (a, f))))

  pub follows_a_type : (n0 : ℕ) → Follows R a_type (x.a_type n0)
  unfolding x.a_type x.scalar sees_word ahead refusal
  follows_a_type zero i s make = deep R i (λ a j. at_input R j s (λ f. make (a, f))) (at_input R i (a_type ∷ s) make)
  follows_a_type (suc n0) i s make = by_next R a_type (x.a_type (suc n0)) (λ b0 s make. ends_here R (record { places = []; budget = b0 })
      (λ a j. at_input R j s (λ f. make (a, f)))) (at_a_type (x.a_type n0) (follows_a_type n0)) i s make

  pub under_one_number : (i : Input) (s : List Rule) (make : Forest (open_paren ∷ number ∷ close_paren ∷ s) → R) → Under R (x.one_number i)
      (λ v j. at_input R j s (λ f. make (tt, (v, (tt, f))))) (at_input R i (open_paren ∷ number ∷ close_paren ∷ s) make)
  unfolding x.one_number
  under_one_number i s make = bind R ((expect m.OpenParen) i) (λ _. (p.number) >>= (λ b. (expect m.CloseParen) >>= (λ _. pure b)))
      (follows_open_paren R i (number ∷ close_paren ∷ s) (λ f. make (f.0, (f.1.0, (f.1.1.0, f.1.1.1))))) (λ _ j1. bind R ((p.number) j1) (λ b.
      (expect m.CloseParen) >>= (λ _. pure b)) (follows_number R j1 (close_paren ∷ s) (λ f. make (tt, (f.0, (f.1.0, f.1.1))))) (λ b j2. bind R
      ((expect m.CloseParen) j2) (λ _. pure b) (follows_close_paren R j2 s (λ f. make (tt, (b, (f.0, f.1))))) (λ _ j3. gives R b j3
      (λ v j. at_input R j s (λ f. make (tt, (v, (tt, f))))))))

  pub under_two_numbers : (i : Input) (s : List Rule) (make : Forest (open_paren ∷ number ∷ comma ∷ number ∷ close_paren ∷ s) → R) → Under R
      (x.two_numbers i) (λ v j. at_input R j s (λ f. make (tt, (v.0, (tt, (v.1, (tt, f))))))) (at_input R i
      (open_paren ∷ number ∷ comma ∷ number ∷ close_paren ∷ s) make)
  unfolding x.two_numbers
  under_two_numbers i s make = bind R ((expect m.OpenParen) i) (λ _. (p.number) >>= (λ b. (expect m.Comma) >>= (λ _. (p.number) >>= (λ d.
      (expect m.CloseParen) >>= (λ _. pure (b, d)))))) (follows_open_paren R i (number ∷ comma ∷ number ∷ close_paren ∷ s) (λ f. make (
        f.0,
        (
          f.1.0,
          (f.1.1.0, (f.1.1.1.0, (f.1.1.1.1.0, f.1.1.1.1.1))),
        ),
      ))) (λ _ j1. bind R ((p.number) j1) (λ b. (expect m.Comma) >>= (λ _. (p.number) >>= (λ d.
      (expect m.CloseParen) >>= (λ _. pure (b, d))))) (follows_number R j1 (comma ∷ number ∷ close_paren ∷ s) (λ f. make (
        tt,
        (
          f.0,
          (
            f.1.0,
            (f.1.1.0, (f.1.1.1.0, f.1.1.1.1)),
          ),
        ),
      ))) (λ b j2. bind R ((expect m.Comma) j2) (λ _. (p.number) >>= (λ d. (expect m.CloseParen) >>= (λ _. pure
      (b, d)))) (follows_comma R j2 (number ∷ close_paren ∷ s) (λ f. make (tt, (b, (f.0, (f.1.0, (f.1.1.0, f.1.1.1))))))) (λ _ j3. bind R
      ((p.number) j3) (λ d. (expect m.CloseParen) >>= (λ _. pure (b, d))) (follows_number R j3 (close_paren ∷ s) (λ f. make (
        tt,
        (
          b,
          (
            tt,
            (
              f.0,
              (f.1.0, f.1.1),
            ),
          ),
        ),
      ))) (λ d j4. bind R ((expect m.CloseParen) j4) (λ _. pure (b, d)) (follows_close_paren R j4 s (λ f. make (
        tt,
        (
          b,
          (
            tt,
            (
              d,
              (f.0, f.1),
            ),
          ),
        ),
      ))) (λ _ j5. gives R (b, d) j5 (λ v j. at_input R j s (λ f. make (tt, (v.0, (tt, (v.1, (tt, f))))))))))))

  at_mono : (part : Parser MonoTree) (hyp : Follows R mono part) → (o : ℕ) (u : Token) (places : List (ℕ × Token)) (b0 : Budget) (s : List Rule)
      (make : Forest (mono ∷ s) → R) → Under R (x.mono_level part (record { places = (o, u) ∷ places; budget = b0 })) (λ a j. at_input R j s
      (λ f. make (a, f))) (at_input R (record { places = (o, u) ∷ places; budget = b0 }) (mono ∷ s) make)
  unfolding x.plain_mono sees_word ahead refusal
  at_mono part hyp o (t.keyword k.Sum) places b0 s make = bind R (take_token (record { places = (o, t.keyword k.Sum) ∷ places; budget = b0 }))
      (λ _. pure monos.Sum) (takes R (o, t.keyword k.Sum) places b0 s (λ f. make (monos.Sum, f))) (λ _ j0. gives R monos.Sum j0
      (λ a j. at_input R j s (λ f. make (a, f))))
  at_mono part hyp o (t.keyword k.Min) places b0 s make = bind R (take_token (record { places = (o, t.keyword k.Min) ∷ places; budget = b0 }))
      (λ _. pure monos.Min) (takes R (o, t.keyword k.Min) places b0 s (λ f. make (monos.Min, f))) (λ _ j0. gives R monos.Min j0
      (λ a j. at_input R j s (λ f. make (a, f))))
  at_mono part hyp o (t.keyword k.Max) places b0 s make = bind R (take_token (record { places = (o, t.keyword k.Max) ∷ places; budget = b0 }))
      (λ _. pure monos.Max) (takes R (o, t.keyword k.Max) places b0 s (λ f. make (monos.Max, f))) (λ _ j0. gives R monos.Max j0
      (λ a j. at_input R j s (λ f. make (a, f))))
  at_mono part hyp o (t.keyword k.First) places b0 s make = bind R (take_token (record { places = (o, t.keyword k.First) ∷ places; budget = b0 }))
      (λ _. pure monos.First) (takes R (o, t.keyword k.First) places b0 s (λ f. make (monos.First, f))) (λ _ j0. gives R monos.First j0
      (λ a j. at_input R j s (λ f. make (a, f))))
  at_mono part hyp o (t.keyword k.Last) places b0 s make = bind R (take_token (record { places = (o, t.keyword k.Last) ∷ places; budget = b0 }))
      (λ _. pure monos.Last) (takes R (o, t.keyword k.Last) places b0 s (λ f. make (monos.Last, f))) (λ _ j0. gives R monos.Last j0
      (λ a j. at_input R j s (λ f. make (a, f))))
  at_mono part hyp o (t.keyword k.Concat) places b0 s make = bind R (take_token (record { places = (o, t.keyword k.Concat) ∷ places; budget = b0 }))
      (λ _. pure monos.Concat) (takes R (o, t.keyword k.Concat) places b0 s (λ f. make (monos.Concat, f))) (λ _ j0. gives R monos.Concat j0
      (λ a j. at_input R j s (λ f. make (a, f))))
  at_mono part hyp o (t.keyword k.Set) places b0 s make = bind R (take_token (record { places = (o, t.keyword k.Set) ∷ places; budget = b0 }))
      (λ _. pure monos.Set) (takes R (o, t.keyword k.Set) places b0 s (λ f. make (monos.Set, f))) (λ _ j0. gives R monos.Set j0
      (λ a j. at_input R j s (λ f. make (a, f))))
  at_mono part hyp o (t.keyword k.Top) places b0 s make = bind R (take_token (record { places = (o, t.keyword k.Top) ∷ places; budget = b0 }))
      (λ _. x.one_number >>= (λ a. pure (monos.Top a))) (takes R (o, t.keyword k.Top) places b0 (open_paren ∷ number ∷ close_paren ∷ s) (λ f. make
      (monos.Top f.1.0, f.1.1.1))) (λ _ j0. bind R (x.one_number j0) (λ a. pure (monos.Top a)) (under_one_number j0 s (λ f. make
      (monos.Top f.1.0, f.1.1.1))) (λ a j1. gives R (monos.Top a) j1 (λ a j. at_input R j s (λ f. make (a, f)))))
  at_mono part hyp o (t.keyword k.Cms) places b0 s make = bind R ((take_token >>= (λ _. x.two_numbers)) (record {
    places =
        (o, t.keyword k.Cms) ∷ places;
    budget = b0;
  })) (λ a. pure (monos.Cms a.0 a.1)) (bind R (take_token (record {
    places =
        (o, t.keyword k.Cms) ∷ places;
    budget = b0;
  })) (λ _. x.two_numbers) (takes R (o, t.keyword k.Cms) places b0
      (open_paren ∷ number ∷ comma ∷ number ∷ close_paren ∷ s) (λ f. make (monos.Cms f.1.0 f.1.1.1.0, f.1.1.1.1.1))) (λ _ j0. under_two_numbers j0 s
      (λ f. make (monos.Cms f.1.0 f.1.1.1.0, f.1.1.1.1.1)))) (λ a j1. gives R (monos.Cms a.0 a.1) j1 (λ a j. at_input R j s (λ f. make (a, f))))
  at_mono part hyp o (t.keyword k.Hll) places b0 s make = bind R (take_token (record { places = (o, t.keyword k.Hll) ∷ places; budget = b0 }))
      (λ _. x.one_number >>= (λ a. pure (monos.Hll a))) (takes R (o, t.keyword k.Hll) places b0 (open_paren ∷ number ∷ close_paren ∷ s) (λ f. make
      (monos.Hll f.1.0, f.1.1.1))) (λ _ j0. bind R (x.one_number j0) (λ a. pure (monos.Hll a)) (under_one_number j0 s (λ f. make
      (monos.Hll f.1.0, f.1.1.1))) (λ a j1. gives R (monos.Hll a) j1 (λ a j. at_input R j s (λ f. make (a, f)))))
  at_mono part hyp o (t.keyword k.Pair) places b0 s make = bind R (take_token (record { places = (o, t.keyword k.Pair) ∷ places; budget = b0 }))
      (λ _. (expect m.OpenParen) >>= (λ _. (part) >>= (λ b. (expect m.Comma) >>= (λ _. (part) >>= (λ d. (expect m.CloseParen) >>= (λ _. pure
      (monos.Pair b d))))))) (takes R (o, t.keyword k.Pair) places b0 (open_paren ∷ mono ∷ comma ∷ mono ∷ close_paren ∷ s) (λ f. make
      ((monos.Pair f.1.0 f.1.1.1.0), f.1.1.1.1.1))) (λ _ j0. bind R ((expect m.OpenParen) j0) (λ _. (part) >>= (λ b. (expect m.Comma) >>= (λ _.
      (part) >>= (λ d. (expect m.CloseParen) >>= (λ _. pure (monos.Pair b d)))))) (follows_open_paren R j0 (mono ∷ comma ∷ mono ∷ close_paren ∷ s)
      (λ f. make ((monos.Pair f.1.0 f.1.1.1.0), f.1.1.1.1.1))) (λ _ j1. bind R ((part) j1) (λ b. (expect m.Comma) >>= (λ _. (part) >>= (λ d.
      (expect m.CloseParen) >>= (λ _. pure (monos.Pair b d))))) (hyp j1 (comma ∷ mono ∷ close_paren ∷ s) (λ f. make
      ((monos.Pair f.0 f.1.1.0), f.1.1.1.1))) (λ b j2. bind R ((expect m.Comma) j2) (λ _. (part) >>= (λ d. (expect m.CloseParen) >>= (λ _. pure
      (monos.Pair b d)))) (follows_comma R j2 (mono ∷ close_paren ∷ s) (λ f. make ((monos.Pair b f.1.0), f.1.1.1))) (λ _ j3. bind R ((part) j3)
      (λ d. (expect m.CloseParen) >>= (λ _. pure (monos.Pair b d))) (hyp j3 (close_paren ∷ s) (λ f. make ((monos.Pair b f.0), f.1.1)))
      (λ d j4. bind R ((expect m.CloseParen) j4) (λ _. pure (monos.Pair b d)) (follows_close_paren R j4 s (λ f. make ((monos.Pair b d), f.1)))
      (λ _ j5. gives R (monos.Pair b d) j5 (λ a j. at_input R j s (λ f. make (a, f)))))))))
  at_mono part hyp o (t.keyword k.Map) places b0 s make = bind R (take_token (record { places = (o, t.keyword k.Map) ∷ places; budget = b0 })) (λ _.
      (expect m.OpenParen) >>= (λ _. (part) >>= (λ b. (expect m.CloseParen) >>= (λ _. pure (monos.Map b))))) (takes R (o, t.keyword k.Map) places b0
      (open_paren ∷ mono ∷ close_paren ∷ s) (λ f. make ((monos.Map f.1.0), f.1.1.1))) (λ _ j0. bind R ((expect m.OpenParen) j0) (λ _. (part) >>=
      (λ b. (expect m.CloseParen) >>= (λ _. pure (monos.Map b)))) (follows_open_paren R j0 (mono ∷ close_paren ∷ s) (λ f. make
      ((monos.Map f.1.0), f.1.1.1))) (λ _ j1. bind R ((part) j1) (λ b. (expect m.CloseParen) >>= (λ _. pure (monos.Map b))) (hyp j1
      (close_paren ∷ s) (λ f. make ((monos.Map f.0), f.1.1))) (λ b j2. bind R ((expect m.CloseParen) j2) (λ _. pure (monos.Map b))
      (follows_close_paren R j2 s (λ f. make ((monos.Map b), f.1))) (λ _ j3. gives R (monos.Map b) j3 (λ a j. at_input R j s (λ f. make (a, f)))))))
  at_mono part hyp o u places b0 s make = misfits R (record { places = (o, u) ∷ places; budget = b0 }) (λ a j. at_input R j s (λ f. make (a, f)))

  pub follows_mono : (n0 : ℕ) → Follows R mono (x.mono n0)
  unfolding x.mono x.plain_mono sees_word ahead refusal
  follows_mono zero i s make = deep R i (λ a j. at_input R j s (λ f. make (a, f))) (at_input R i (mono ∷ s) make)
  follows_mono (suc n0) i s make = by_next R mono (x.mono (suc n0)) (λ b0 s make. ends_here R (record { places = []; budget = b0 })
      (λ a j. at_input R j s (λ f. make (a, f)))) (at_mono (x.mono n0) (follows_mono n0)) i s make
