-- Expressions follow the machine.
use Rattle.std.proofs.Common.{◌≡◌, ℕ, suc, zero, if◌then◌else◌, List, [], ◌∷◌, ◌++◌, refl, ap, sym, append_assoc, append-nil}
use mathlib.Core.Path.{fun_ext}
use Rattle.sb_tokens.specs.declared.keyword.Keyword.TheVariants as k
use Rattle.sb_tokens.specs.declared.symbol.Symbol.TheVariants as m
use Rattle.sb_tokens.specs.Keyword.{keyword_text}
use Rattle.sb_tokens.specs.Token.{Token}
use Rattle.sb_tokens.specs.Token as t
use Rattle.sb_grammar.specs.declared.expressions.Expr.{Expr}
use Rattle.sb_grammar.specs.declared.expressions.Expr.TheVariants as exprs
use Rattle.sb_grammar.specs.declared.expressions.Disj.{roll-Disj}
use Rattle.sb_grammar.specs.declared.expressions.Conj.{Conj, roll-Conj}
use Rattle.sb_grammar.specs.declared.expressions.Neg.{Neg}
use Rattle.sb_grammar.specs.declared.expressions.Neg.TheVariants as negs
use Rattle.sb_grammar.specs.declared.expressions.Cmp.TheVariants as cmps
use Rattle.sb_grammar.specs.declared.expressions.CmpOp.TheVariants as operators
use Rattle.sb_grammar.specs.declared.expressions.Add.{Add, roll-Add}
use Rattle.sb_grammar.specs.declared.expressions.AddRest.{AddRest}
use Rattle.sb_grammar.specs.declared.expressions.AddRest.TheVariants as add_rest
use Rattle.sb_grammar.specs.declared.expressions.Prod.{roll-Prod}
use Rattle.sb_grammar.specs.declared.expressions.ProdRest.{ProdRest}
use Rattle.sb_grammar.specs.declared.expressions.ProdRest.TheVariants as prod_rest
use Rattle.sb_grammar.specs.declared.expressions.Unary.TheVariants as unaries
use Rattle.sb_grammar.specs.declared.expressions.Post.{roll-Post}
use Rattle.sb_grammar.specs.declared.expressions.PostStep.{PostStep}
use Rattle.sb_grammar.specs.declared.expressions.PostStep.TheVariants as steps
use Rattle.sb_grammar.specs.declared.expressions.Atom.{Atom}
use Rattle.sb_grammar.specs.declared.expressions.Atom.TheVariants as atoms
use Rattle.sb_grammar.specs.Grammar.{Rule, group_of, cmp_of}
use Rattle.sb_grammar.specs.Grammar.{then_word, else_word, open_paren, close_paren, comma, positive, a_type, atom, group_end, list_end, post_step}
use Rattle.sb_grammar.specs.Grammar.{post_steps, post, unary, prod_rests, prod, add_rests, add, comparison, cmp, neg, conj_rests, conj, disj_rests}
use Rattle.sb_grammar.specs.Grammar.{disj, expr}
use Rattle.sb_grammar.proofs.Machine.{Forest}
use Rattle.sb_syntax.specs.Reading.{Input, Budget, Parser, ◌>>=◌, ◌>>◌, ◌<$>◌, pure, take_token, take_with, refuse, refusal, too_deep, ahead, sees}
use Rattle.sb_syntax.specs.Reading.{sees_word, expect, expect_word}
use Rattle.sb_syntax.specs.Reading as p
use Rattle.sb_syntax.proofs.Follow.{Under, bind, from, gives, misfits, ends_here, deep, takes, Follows, by_next, at_input, follows_then_word}
use Rattle.sb_syntax.proofs.Follow.{follows_else_word, follows_open_paren, follows_close_paren, follows_comma, follows_positive}
use Rattle.sb_syntax.specs.Expressions as x
use Rattle.sb_syntax.specs.Expressions.{is_call}
use Rattle.sb_syntax.specs.Types as kd
use Rattle.sb_syntax.proofs.FollowTypes.{follows_a_type}

module _ (R : Type 0) where
  at_post_step : (o : ℕ) (u : Token) (places : List (ℕ × Token)) (b0 : Budget) (s : List Rule) (make : Forest (post_step ∷ s) → R) → Under R
      (x.post_step (record { places = (o, u) ∷ places; budget = b0 })) (λ a j. at_input R j s (λ f. make (a, f))) (at_input R (record {
        places =
            (o, u) ∷ places;
        budget = b0;
      }) (post_step ∷ s) make)
  unfolding x.post_step ahead refusal
  at_post_step o (t.name n) places b0 s make = bind R (take_token (record { places = (o, t.name n) ∷ places; budget = b0 })) (λ _. pure
      (steps.Field n)) (takes R (o, t.name n) places b0 s (λ f. make ((steps.Field n), f))) (λ _ j0. gives R (steps.Field n) j0
      (λ a j. at_input R j s (λ f. make (a, f))))
  at_post_step o (t.keyword w) places b0 s make = bind R (take_token (record { places = (o, t.keyword w) ∷ places; budget = b0 })) (λ _. pure
      (steps.Field (keyword_text w))) (takes R (o, t.keyword w) places b0 s (λ f. make ((steps.Field (keyword_text w)), f))) (λ _ j0. gives R
      (steps.Field (keyword_text w)) j0 (λ a j. at_input R j s (λ f. make (a, f))))
  at_post_step o (t.int (suc zero)) places b0 s make = bind R (take_token (record { places = (o, t.int (suc zero)) ∷ places; budget = b0 }))
      (λ _. pure steps.First) (takes R (o, t.int (suc zero)) places b0 s (λ f. make (steps.First, f))) (λ _ j0. gives R steps.First j0
      (λ a j. at_input R j s (λ f. make (a, f))))
  at_post_step o (t.int (suc (suc zero))) places b0 s make = bind R (take_token (record {
    places = (
      o,
      t.int (suc
          (suc zero)),
    ) ∷ places;
    budget = b0;
  })) (λ _. pure steps.Second) (takes R (o, t.int (suc (suc zero))) places b0 s (λ f. make
      (steps.Second, f))) (λ _ j0. gives R steps.Second j0 (λ a j. at_input R j s (λ f. make (a, f))))
  at_post_step o u places b0 s make = misfits R (record { places = (o, u) ∷ places; budget = b0 }) (λ a j. at_input R j s (λ f. make (a, f)))

  pub follows_post_step : Follows R post_step (x.post_step)
  unfolding x.post_step ahead refusal
  follows_post_step = by_next R post_step (x.post_step) (λ b0 s make. ends_here R (record { places = []; budget = b0 }) (λ a j. at_input R j s
      (λ f. make (a, f)))) at_post_step

  post_steps_next : (n0 : ℕ) (found : List PostStep) → ((found' : List PostStep) (i : Input) (s : List Rule) (make : Forest (post_steps ∷ s) → R)
      → Under R (x.post_steps n0 found' i) (λ a j. at_input R j s (λ f. make (a, f))) (at_input R i (post_steps ∷ s) (λ f. make
      (found' ++ f.0, f.1)))) → (o : ℕ) (u : Token) (places : List (ℕ × Token)) (b0 : Budget) (s : List Rule) (make : Forest (post_steps ∷ s) → R)
      → Under R (x.post_steps (suc n0) found (record { places = (o, u) ∷ places; budget = b0 })) (λ a j. at_input R j s (λ f. make (a, f)))
      (at_input R (record { places = (o, u) ∷ places; budget = b0 }) (post_steps ∷ s) (λ f. make (found ++ f.0, f.1)))
  unfolding x.post_steps sees ahead refusal
  post_steps_next n0 found more o (t.symbol m.Dot) places b0 s make = bind R ((take_token >>= (λ _. (x.post_step))) (record {
    places =
        (o, t.symbol m.Dot) ∷ places;
    budget = b0;
  })) (λ a. x.post_steps n0 (found ++ a ∷ [])) (bind R (take_token (record {
    places =
        (o, t.symbol m.Dot) ∷ places;
    budget = b0;
  })) (λ _. (x.post_step)) (takes R (o, t.symbol m.Dot) places b0 (post_step ∷ post_steps ∷ s)
      (λ f. make (found ++ (f.0 ∷ f.1.0), f.1.1))) (λ _ j0. follows_post_step j0 (post_steps ∷ s) (λ f. make (found ++ (f.0 ∷ f.1.0), f.1.1))))
      (λ a j1. from R (x.post_steps n0 (found ++ a ∷ []) j1) _ _ (ap (λ g. at_input R j1 (post_steps ∷ s) (λ f. make (g f.0, f.1))) (fun_ext
      (λ l. sym (append_assoc found (a ∷ []) l)))) (more (found ++ a ∷ []) j1 s make))
  post_steps_next n0 found more o u places b0 s make = from R (pure found (record { places = (o, u) ∷ places; budget = b0 })) _ _ (ap
      (λ l. at_input R (record { places = (o, u) ∷ places; budget = b0 }) s (λ f. make (l, f))) (append-nil found)) (gives R found
      (record { places = (o, u) ∷ places; budget = b0 }) (λ a j. at_input R j s (λ f. make (a, f))))

  post_steps_at : (n0 : ℕ) (found : List PostStep) → ((found' : List PostStep) (i : Input) (s : List Rule) (make : Forest (post_steps ∷ s) → R)
      → Under R (x.post_steps n0 found' i) (λ a j. at_input R j s (λ f. make (a, f))) (at_input R i (post_steps ∷ s) (λ f. make
      (found' ++ f.0, f.1)))) → (places : List (ℕ × Token)) (b0 : Budget) (s : List Rule) (make : Forest (post_steps ∷ s) → R) → Under R
      (x.post_steps (suc n0) found (record { places = places; budget = b0 })) (λ a j. at_input R j s (λ f. make (a, f))) (at_input R
      (record { places = places; budget = b0 }) (post_steps ∷ s) (λ f. make (found ++ f.0, f.1)))
  unfolding x.post_steps sees ahead refusal
  post_steps_at n0 found more [] b0 s make = from R (pure found (record { places = []; budget = b0 })) _ _ (ap (λ l. at_input R
      (record { places = []; budget = b0 }) s (λ f. make (l, f))) (append-nil found)) (gives R found (record { places = []; budget = b0 })
      (λ a j. at_input R j s (λ f. make (a, f))))
  post_steps_at n0 found more (place ∷ places) b0 s make = post_steps_next n0 found more place.0 place.1 places b0 s make

  pub follows_post_steps : (n0 : ℕ) (found : List PostStep) (i : Input) (s : List Rule) (make : Forest (post_steps ∷ s) → R) → Under R
      (x.post_steps n0 found i) (λ a j. at_input R j s (λ f. make (a, f))) (at_input R i (post_steps ∷ s) (λ f. make (found ++ f.0, f.1)))
  unfolding x.post_steps sees ahead refusal
  follows_post_steps zero found i s make = deep R i (λ a j. at_input R j s (λ f. make (a, f))) (at_input R i (post_steps ∷ s) (λ f. make
      (found ++ f.0, f.1)))
  follows_post_steps (suc n0) found i s make = post_steps_at n0 found (follows_post_steps n0) i.places i.budget s make

module _ (R : Type 0) (e : Parser Expr) (follows_expr : Follows R expr e) (n : ℕ) where
  pub under_argument : (i : Input) (s : List Rule) (make : Forest (open_paren ∷ expr ∷ close_paren ∷ s) → R) → Under R (x.argument e n i)
      (λ v j. at_input R j s (λ f. make (tt, (v, (tt, f))))) (at_input R i (open_paren ∷ expr ∷ close_paren ∷ s) make)
  unfolding x.argument
  under_argument i s make = bind R ((expect m.OpenParen) i) (λ _. (e) >>= (λ b. (expect m.CloseParen) >>= (λ _. pure b))) (follows_open_paren R i
      (expr ∷ close_paren ∷ s) (λ f. make (f.0, (f.1.0, (f.1.1.0, f.1.1.1))))) (λ _ j1. bind R ((e) j1) (λ b. (expect m.CloseParen) >>=
      (λ _. pure b)) (follows_expr j1 (close_paren ∷ s) (λ f. make (tt, (f.0, (f.1.0, f.1.1))))) (λ b j2. bind R ((expect m.CloseParen) j2)
      (λ _. pure b) (follows_close_paren R j2 s (λ f. make (tt, (b, (f.0, f.1))))) (λ _ j3. gives R b j3 (λ v j. at_input R j s (λ f. make (
        tt,
        (
          v,
          (tt, f),
        ),
      ))))))

  pub under_type_argument : (i : Input) (s : List Rule) (make : Forest (open_paren ∷ a_type ∷ close_paren ∷ s) → R) → Under R
      (x.type_argument e n i) (λ v j. at_input R j s (λ f. make (tt, (v, (tt, f))))) (at_input R i (open_paren ∷ a_type ∷ close_paren ∷ s) make)
  unfolding x.type_argument
  under_type_argument i s make = bind R ((expect m.OpenParen) i) (λ _. (kd.a_type n) >>= (λ b. (expect m.CloseParen) >>= (λ _. pure b)))
      (follows_open_paren R i (a_type ∷ close_paren ∷ s) (λ f. make (f.0, (f.1.0, (f.1.1.0, f.1.1.1))))) (λ _ j1. bind R ((kd.a_type n) j1) (λ b.
      (expect m.CloseParen) >>= (λ _. pure b)) (follows_a_type R n j1 (close_paren ∷ s) (λ f. make (tt, (f.0, (f.1.0, f.1.1))))) (λ b j2. bind R
      ((expect m.CloseParen) j2) (λ _. pure b) (follows_close_paren R j2 s (λ f. make (tt, (b, (f.0, f.1))))) (λ _ j3. gives R b j3
      (λ v j. at_input R j s (λ f. make (tt, (v, (tt, f))))))))

  pub under_two_arguments : (i : Input) (s : List Rule) (make : Forest (open_paren ∷ expr ∷ comma ∷ expr ∷ close_paren ∷ s) → R) → Under R
      (x.two_arguments e n i) (λ v j. at_input R j s (λ f. make (tt, (v.0, (tt, (v.1, (tt, f))))))) (at_input R i
      (open_paren ∷ expr ∷ comma ∷ expr ∷ close_paren ∷ s) make)
  unfolding x.two_arguments
  under_two_arguments i s make = bind R ((expect m.OpenParen) i) (λ _. (e) >>= (λ b. (expect m.Comma) >>= (λ _. (e) >>= (λ d.
      (expect m.CloseParen) >>= (λ _. pure (b, d)))))) (follows_open_paren R i (expr ∷ comma ∷ expr ∷ close_paren ∷ s) (λ f. make (
        f.0,
        (
          f.1.0,
          (f.1.1.0, (f.1.1.1.0, (f.1.1.1.1.0, f.1.1.1.1.1))),
        ),
      ))) (λ _ j1. bind R ((e) j1) (λ b. (expect m.Comma) >>= (λ _. (e) >>= (λ d.
      (expect m.CloseParen) >>= (λ _. pure (b, d))))) (follows_expr j1 (comma ∷ expr ∷ close_paren ∷ s) (λ f. make (
        tt,
        (
          f.0,
          (
            f.1.0,
            (
              f.1.1.0,
              (f.1.1.1.0, f.1.1.1.1),
            ),
          ),
        ),
      ))) (λ b j2. bind R ((expect m.Comma) j2) (λ _. (e) >>= (λ d. (expect m.CloseParen) >>= (λ _. pure (b, d))))
      (follows_comma R j2 (expr ∷ close_paren ∷ s) (λ f. make (tt, (b, (f.0, (f.1.0, (f.1.1.0, f.1.1.1))))))) (λ _ j3. bind R ((e) j3) (λ d.
      (expect m.CloseParen) >>= (λ _. pure (b, d))) (follows_expr j3 (close_paren ∷ s) (λ f. make (tt, (b, (tt, (f.0, (f.1.0, f.1.1)))))))
      (λ d j4. bind R ((expect m.CloseParen) j4) (λ _. pure (b, d)) (follows_close_paren R j4 s (λ f. make (tt, (b, (tt, (d, (f.0, f.1)))))))
      (λ _ j5. gives R (b, d) j5 (λ v j. at_input R j s (λ f. make (tt, (v.0, (tt, (v.1, (tt, f))))))))))))

  list_end_next : (n0 : ℕ) (found : List Expr) → ((found' : List Expr) (i : Input) (s : List Rule) (make : Forest (list_end ∷ s) → R) → Under R
      (x.list_end e n n0 found' i) (λ a j. at_input R j s (λ f. make (a, f))) (at_input R i (list_end ∷ s) (λ f. make (found' ++ f.0, f.1)))) →
      (o : ℕ) (u : Token) (places : List (ℕ × Token)) (b0 : Budget) (s : List Rule) (make : Forest (list_end ∷ s) → R) → Under R (x.list_end e n
      (suc n0) found (record { places = (o, u) ∷ places; budget = b0 })) (λ a j. at_input R j s (λ f. make (a, f))) (at_input R (record {
        places =
            (o, u) ∷ places;
        budget = b0;
      }) (list_end ∷ s) (λ f. make (found ++ f.0, f.1)))
  unfolding x.list_end sees expect ahead refusal
  list_end_next n0 found more o (t.symbol m.Comma) places b0 s make = bind R ((take_token >>= (λ _. (e))) (record {
    places =
        (o, t.symbol m.Comma) ∷ places;
    budget = b0;
  })) (λ a. x.list_end e n n0 (found ++ a ∷ [])) (bind R (take_token (record {
    places =
        (o, t.symbol m.Comma) ∷ places;
    budget = b0;
  })) (λ _. (e)) (takes R (o, t.symbol m.Comma) places b0 (expr ∷ list_end ∷ s) (λ f. make (
    found ++
        (f.0 ∷ f.1.0),
    f.1.1,
  ))) (λ _ j0. follows_expr j0 (list_end ∷ s) (λ f. make (found ++ (f.0 ∷ f.1.0), f.1.1)))) (λ a j1. from R
      (x.list_end e n n0 (found ++ a ∷ []) j1) _ _ (ap (λ g. at_input R j1 (list_end ∷ s) (λ f. make (g f.0, f.1))) (fun_ext (λ l. sym
      (append_assoc found (a ∷ []) l)))) (more (found ++ a ∷ []) j1 s make))
  list_end_next n0 found more o (t.symbol m.CloseBracket) places b0 s make = bind R (take_token (record {
    places =
        (o, t.symbol m.CloseBracket) ∷ places;
    budget = b0;
  })) (λ _. pure found) (takes R (o, t.symbol m.CloseBracket) places b0 s (λ f. make
      (found ++ [], f))) (λ _ j0. from R (pure found j0) _ _ (ap (λ l. at_input R j0 s (λ f. make (l, f))) (append-nil found)) (gives R found j0
      (λ a j. at_input R j s (λ f. make (a, f)))))
  list_end_next n0 found more o u places b0 s make = misfits R (record { places = (o, u) ∷ places; budget = b0 }) (λ a j. at_input R j s (λ f. make
      (a, f)))

  list_end_at : (n0 : ℕ) (found : List Expr) → ((found' : List Expr) (i : Input) (s : List Rule) (make : Forest (list_end ∷ s) → R) → Under R
      (x.list_end e n n0 found' i) (λ a j. at_input R j s (λ f. make (a, f))) (at_input R i (list_end ∷ s) (λ f. make (found' ++ f.0, f.1)))) →
      (places : List (ℕ × Token)) (b0 : Budget) (s : List Rule) (make : Forest (list_end ∷ s) → R) → Under R (x.list_end e n (suc n0) found
      (record { places = places; budget = b0 })) (λ a j. at_input R j s (λ f. make (a, f))) (at_input R (record { places = places; budget = b0 })
      (list_end ∷ s) (λ f. make (found ++ f.0, f.1)))
  unfolding x.list_end sees expect ahead refusal
  list_end_at n0 found more [] b0 s make = ends_here R (record { places = []; budget = b0 }) (λ a j. at_input R j s (λ f. make (a, f)))
  list_end_at n0 found more (place ∷ places) b0 s make = list_end_next n0 found more place.0 place.1 places b0 s make

  pub follows_list_end : (n0 : ℕ) (found : List Expr) (i : Input) (s : List Rule) (make : Forest (list_end ∷ s) → R) → Under R
      (x.list_end e n n0 found i) (λ a j. at_input R j s (λ f. make (a, f))) (at_input R i (list_end ∷ s) (λ f. make (found ++ f.0, f.1)))
  unfolding x.list_end sees expect ahead refusal
  follows_list_end zero found i s make = deep R i (λ a j. at_input R j s (λ f. make (a, f))) (at_input R i (list_end ∷ s) (λ f. make
      (found ++ f.0, f.1)))
  follows_list_end (suc n0) found i s make = list_end_at n0 found (follows_list_end n0) i.places i.budget s make

  abbrev group_behind : Expr → Parser Atom
  group_behind a i = if sees m.Comma i then (take_token >> e >>= λ b. expect m.CloseParen >> pure (atoms.Pair a b)) i else
      (expect m.CloseParen >> pure (atoms.Group a)) i

  group_next : (a : Expr) (o : ℕ) (u : Token) (places : List (ℕ × Token)) (b0 : Budget) (s : List Rule) (make : Forest (atom ∷ s) → R) → Under R
      (group_behind a (record { places = (o, u) ∷ places; budget = b0 })) (λ v j. at_input R j s (λ f. make (v, f))) (at_input R (record {
        places =
            (o, u) ∷ places;
        budget = b0;
      }) (group_end ∷ s) (λ f. make (group_of a f.0, f.1)))
  unfolding sees expect ahead refusal
  group_next a o (t.symbol m.Comma) places b0 s make = bind R ((take_token >>= (λ _. e)) (record {
    places =
        (o, t.symbol m.Comma) ∷ places;
    budget = b0;
  })) (λ b. expect m.CloseParen >>= (λ _. pure (atoms.Pair a b))) (bind R (take_token
      (record { places = (o, t.symbol m.Comma) ∷ places; budget = b0 })) (λ _. e) (takes R (o, t.symbol m.Comma) places b0 (expr ∷ close_paren ∷ s)
      (λ f. make (atoms.Pair a f.0, f.1.1))) (λ _ j0. follows_expr j0 (close_paren ∷ s) (λ f. make (atoms.Pair a f.0, f.1.1)))) (λ b j1. bind R
      (expect m.CloseParen j1) (λ _. pure (atoms.Pair a b)) (follows_close_paren R j1 s (λ f. make (atoms.Pair a b, f.1))) (λ _ j2. gives R
      (atoms.Pair a b) j2 (λ a j. at_input R j s (λ f. make (a, f)))))
  group_next a o (t.symbol m.CloseParen) places b0 s make = bind R (take_token (record {
    places =
        (o, t.symbol m.CloseParen) ∷ places;
    budget = b0;
  })) (λ _. pure (atoms.Group a)) (takes R (o, t.symbol m.CloseParen) places b0 s (λ f. make
      (atoms.Group a, f))) (λ _ j0. gives R (atoms.Group a) j0 (λ a j. at_input R j s (λ f. make (a, f))))
  group_next a o u places b0 s make = misfits R (record { places = (o, u) ∷ places; budget = b0 }) (λ a j. at_input R j s (λ f. make (a, f)))

  group_at : (a : Expr) (places : List (ℕ × Token)) (b0 : Budget) (s : List Rule) (make : Forest (atom ∷ s) → R) → Under R (group_behind a
      (record { places = places; budget = b0 })) (λ v j. at_input R j s (λ f. make (v, f))) (at_input R (record { places = places; budget = b0 })
      (group_end ∷ s) (λ f. make (group_of a f.0, f.1)))
  unfolding sees expect ahead refusal
  group_at a [] b0 s make = ends_here R (record { places = []; budget = b0 }) (λ a j. at_input R j s (λ f. make (a, f)))
  group_at a (place ∷ places) b0 s make = group_next a place.0 place.1 places b0 s make

  under_group : (i : Input) (s : List Rule) (make : Forest (atom ∷ s) → R) → Under R (x.group e n i) (λ a j. at_input R j s (λ f. make (a, f)))
      (at_input R i (expr ∷ group_end ∷ s) (λ f. make (group_of f.0 f.1.0, f.1.1)))
  unfolding x.group
  under_group i s make = bind R (e i) (λ a. group_behind a) (follows_expr i (group_end ∷ s) (λ f. make (group_of f.0 f.1.0, f.1.1)))
      (λ a j. group_at a j.places j.budget s make)

  under_list : (i : Input) (s : List Rule) (make : Forest (atom ∷ s) → R) → Under R (x.list e n i) (λ a j. at_input R j s (λ f. make (a, f)))
      (at_input R i (expr ∷ list_end ∷ s) (λ f. make (atoms.List (f.0 ∷ f.1.0), f.1.1)))
  unfolding x.list
  under_list i s make = bind R (e i) (λ a. x.list_end e n n (a ∷ []) >>= (λ l. pure (atoms.List l))) (follows_expr i (list_end ∷ s) (λ f. make
      (atoms.List (f.0 ∷ f.1.0), f.1.1))) (λ a j. bind R (x.list_end e n n (a ∷ []) j) (λ l. pure (atoms.List l)) (follows_list_end n (a ∷ []) j s
      (λ f. make (atoms.List f.0, f.1))) (λ l j1. gives R (atoms.List l) j1 (λ a j. at_input R j s (λ f. make (a, f)))))

  under_words : (i : Input) (s : List Rule) (make : Forest (atom ∷ s) → R) → Under R (x.words e n i) (λ a j. at_input R j s (λ f. make (a, f)))
      (at_input R i (open_paren ∷ expr ∷ comma ∷ positive ∷ close_paren ∷ s) (λ f. make (atoms.Words f.1.0 f.1.1.1.0, f.1.1.1.1.1)))
  unfolding x.words
  under_words i s make = bind R ((expect m.OpenParen) i) (λ _. (e) >>= (λ b. (expect m.Comma) >>= (λ _. (p.positive) >>= (λ d.
      (expect m.CloseParen) >>= (λ _. pure (atoms.Words b d)))))) (follows_open_paren R i (expr ∷ comma ∷ positive ∷ close_paren ∷ s) (λ f. make
      ((atoms.Words f.1.0 f.1.1.1.0), f.1.1.1.1.1))) (λ _ j1. bind R ((e) j1) (λ b. (expect m.Comma) >>= (λ _. (p.positive) >>= (λ d.
      (expect m.CloseParen) >>= (λ _. pure (atoms.Words b d))))) (follows_expr j1 (comma ∷ positive ∷ close_paren ∷ s) (λ f. make
      ((atoms.Words f.0 f.1.1.0), f.1.1.1.1))) (λ b j2. bind R ((expect m.Comma) j2) (λ _. (p.positive) >>= (λ d. (expect m.CloseParen) >>=
      (λ _. pure (atoms.Words b d)))) (follows_comma R j2 (positive ∷ close_paren ∷ s) (λ f. make ((atoms.Words b f.1.0), f.1.1.1))) (λ _ j3. bind R
      ((p.positive) j3) (λ d. (expect m.CloseParen) >>= (λ _. pure (atoms.Words b d))) (follows_positive R j3 (close_paren ∷ s) (λ f. make
      ((atoms.Words b f.0), f.1.1))) (λ d j4. bind R ((expect m.CloseParen) j4) (λ _. pure (atoms.Words b d)) (follows_close_paren R j4 s (λ f. make
      ((atoms.Words b d), f.1))) (λ _ j5. gives R (atoms.Words b d) j5 (λ a j. at_input R j s (λ f. make (a, f))))))))

  at_atom : (o : ℕ) (u : Token) (places : List (ℕ × Token)) (b0 : Budget) (s : List Rule) (make : Forest (atom ∷ s) → R) → Under R (x.atom e n
      (record { places = (o, u) ∷ places; budget = b0 })) (λ a j. at_input R j s (λ f. make (a, f))) (at_input R (record {
        places =
            (o, u) ∷ places;
        budget = b0;
      }) (atom ∷ s) make)
  unfolding x.atom x.call ahead refusal
  at_atom o (t.int n) places b0 s make = bind R (take_token (record { places = (o, t.int n) ∷ places; budget = b0 })) (λ _. pure (atoms.Int n))
      (takes R (o, t.int n) places b0 s (λ f. make ((atoms.Int n), f))) (λ _ j0. gives R (atoms.Int n) j0 (λ a j. at_input R j s (λ f. make (a, f))))
  at_atom o (t.text value) places b0 s make = bind R (take_token (record { places = (o, t.text value) ∷ places; budget = b0 })) (λ _. pure
      (atoms.Text value)) (takes R (o, t.text value) places b0 s (λ f. make ((atoms.Text value), f))) (λ _ j0. gives R (atoms.Text value) j0
      (λ a j. at_input R j s (λ f. make (a, f))))
  at_atom o (t.keyword k.True) places b0 s make = bind R (take_token (record { places = (o, t.keyword k.True) ∷ places; budget = b0 }))
      (λ _. pure atoms.True) (takes R (o, t.keyword k.True) places b0 s (λ f. make (atoms.True, f))) (λ _ j0. gives R atoms.True j0
      (λ a j. at_input R j s (λ f. make (a, f))))
  at_atom o (t.keyword k.False) places b0 s make = bind R (take_token (record { places = (o, t.keyword k.False) ∷ places; budget = b0 }))
      (λ _. pure atoms.False) (takes R (o, t.keyword k.False) places b0 s (λ f. make (atoms.False, f))) (λ _ j0. gives R atoms.False j0
      (λ a j. at_input R j s (λ f. make (a, f))))
  at_atom o (t.keyword k.It) places b0 s make = bind R (take_token (record { places = (o, t.keyword k.It) ∷ places; budget = b0 }))
      (λ _. pure atoms.It) (takes R (o, t.keyword k.It) places b0 s (λ f. make (atoms.It, f))) (λ _ j0. gives R atoms.It j0 (λ a j. at_input R j s
      (λ f. make (a, f))))
  at_atom o (t.symbol m.OpenParen) places b0 s make = bind R (take_token (record { places = (o, t.symbol m.OpenParen) ∷ places; budget = b0 }))
      (λ _. x.group e n) (takes R (o, t.symbol m.OpenParen) places b0 (expr ∷ group_end ∷ s) (λ f. make ((group_of f.0 f.1.0), f.1.1)))
      (λ _ j0. under_group j0 s make)
  at_atom o (t.symbol m.OpenBracket) places b0 s make = bind R (take_token (record { places = (o, t.symbol m.OpenBracket) ∷ places; budget = b0 }))
      (λ _. x.list e n) (takes R (o, t.symbol m.OpenBracket) places b0 (expr ∷ list_end ∷ s) (λ f. make ((atoms.List (f.0 ∷ f.1.0)), f.1.1)))
      (λ _ j0. under_list j0 s make)
  at_atom o (t.keyword k.Empty) places b0 s make = bind R (take_token (record { places = (o, t.keyword k.Empty) ∷ places; budget = b0 }))
      (λ _. x.type_argument e n >>= (λ v. pure (atoms.Empty v))) (takes R (o, t.keyword k.Empty) places b0 (open_paren ∷ a_type ∷ close_paren ∷ s)
      (λ f. make ((atoms.Empty f.1.0), f.1.1.1))) (λ _ j0. bind R (x.type_argument e n j0) (λ v. pure (atoms.Empty v)) (under_type_argument j0 s
      (λ f. make ((atoms.Empty f.1.0), f.1.1.1))) (λ v j1. gives R (atoms.Empty v) j1 (λ a j. at_input R j s (λ f. make (a, f)))))
  at_atom o (t.keyword k.NoneOf) places b0 s make = bind R (take_token (record { places = (o, t.keyword k.NoneOf) ∷ places; budget = b0 }))
      (λ _. x.type_argument e n >>= (λ v. pure (atoms.NoneOf v))) (takes R (o, t.keyword k.NoneOf) places b0 (open_paren ∷ a_type ∷ close_paren ∷ s)
      (λ f. make ((atoms.NoneOf f.1.0), f.1.1.1))) (λ _ j0. bind R (x.type_argument e n j0) (λ v. pure (atoms.NoneOf v)) (under_type_argument j0 s
      (λ f. make ((atoms.NoneOf f.1.0), f.1.1.1))) (λ v j1. gives R (atoms.NoneOf v) j1 (λ a j. at_input R j s (λ f. make (a, f)))))
  at_atom o (t.keyword k.SomeOf) places b0 s make = bind R (take_token (record { places = (o, t.keyword k.SomeOf) ∷ places; budget = b0 }))
      (λ _. x.argument e n >>= (λ v. pure (atoms.SomeOf v))) (takes R (o, t.keyword k.SomeOf) places b0 (open_paren ∷ expr ∷ close_paren ∷ s)
      (λ f. make ((atoms.SomeOf f.1.0), f.1.1.1))) (λ _ j0. bind R (x.argument e n j0) (λ v. pure (atoms.SomeOf v)) (under_argument j0 s (λ f. make
      ((atoms.SomeOf f.1.0), f.1.1.1))) (λ v j1. gives R (atoms.SomeOf v) j1 (λ a j. at_input R j s (λ f. make (a, f)))))
  at_atom o (t.keyword k.Orelse) places b0 s make = bind R (take_token (record { places = (o, t.keyword k.Orelse) ∷ places; budget = b0 }))
      (λ _. x.two_arguments e n >>= (λ v. pure (atoms.Orelse v.0 v.1))) (takes R (o, t.keyword k.Orelse) places b0
      (open_paren ∷ expr ∷ comma ∷ expr ∷ close_paren ∷ s) (λ f. make ((atoms.Orelse f.1.0 f.1.1.1.0), f.1.1.1.1.1))) (λ _ j0. bind R
      (x.two_arguments e n j0) (λ v. pure (atoms.Orelse v.0 v.1)) (under_two_arguments j0 s (λ f. make
      ((atoms.Orelse f.1.0 f.1.1.1.0), f.1.1.1.1.1))) (λ v j1. gives R (atoms.Orelse v.0 v.1) j1 (λ a j. at_input R j s (λ f. make (a, f)))))
  at_atom o (t.keyword k.Has) places b0 s make = bind R (take_token (record { places = (o, t.keyword k.Has) ∷ places; budget = b0 }))
      (λ _. x.argument e n >>= (λ v. pure (atoms.Has v))) (takes R (o, t.keyword k.Has) places b0 (open_paren ∷ expr ∷ close_paren ∷ s) (λ f. make
      ((atoms.Has f.1.0), f.1.1.1))) (λ _ j0. bind R (x.argument e n j0) (λ v. pure (atoms.Has v)) (under_argument j0 s (λ f. make
      ((atoms.Has f.1.0), f.1.1.1))) (λ v j1. gives R (atoms.Has v) j1 (λ a j. at_input R j s (λ f. make (a, f)))))
  at_atom o (t.keyword k.Lower) places b0 s make = bind R (take_token (record { places = (o, t.keyword k.Lower) ∷ places; budget = b0 }))
      (λ _. x.argument e n >>= (λ v. pure (atoms.Lower v))) (takes R (o, t.keyword k.Lower) places b0 (open_paren ∷ expr ∷ close_paren ∷ s)
      (λ f. make ((atoms.Lower f.1.0), f.1.1.1))) (λ _ j0. bind R (x.argument e n j0) (λ v. pure (atoms.Lower v)) (under_argument j0 s (λ f. make
      ((atoms.Lower f.1.0), f.1.1.1))) (λ v j1. gives R (atoms.Lower v) j1 (λ a j. at_input R j s (λ f. make (a, f)))))
  at_atom o (t.keyword k.Words) places b0 s make = bind R (take_token (record { places = (o, t.keyword k.Words) ∷ places; budget = b0 }))
      (λ _. x.words e n) (takes R (o, t.keyword k.Words) places b0 (open_paren ∷ expr ∷ comma ∷ positive ∷ close_paren ∷ s) (λ f. make
      ((atoms.Words f.1.0 f.1.1.1.0), f.1.1.1.1.1))) (λ _ j0. under_words j0 s make)
  at_atom o (t.keyword k.Len) places b0 s make = bind R (take_token (record { places = (o, t.keyword k.Len) ∷ places; budget = b0 }))
      (λ _. x.argument e n >>= (λ v. pure (atoms.Len v))) (takes R (o, t.keyword k.Len) places b0 (open_paren ∷ expr ∷ close_paren ∷ s) (λ f. make
      ((atoms.Len f.1.0), f.1.1.1))) (λ _ j0. bind R (x.argument e n j0) (λ v. pure (atoms.Len v)) (under_argument j0 s (λ f. make
      ((atoms.Len f.1.0), f.1.1.1))) (λ v j1. gives R (atoms.Len v) j1 (λ a j. at_input R j s (λ f. make (a, f)))))
  at_atom o (t.keyword k.Starts) places b0 s make = bind R (take_token (record { places = (o, t.keyword k.Starts) ∷ places; budget = b0 }))
      (λ _. x.two_arguments e n >>= (λ v. pure (atoms.Starts v.0 v.1))) (takes R (o, t.keyword k.Starts) places b0
      (open_paren ∷ expr ∷ comma ∷ expr ∷ close_paren ∷ s) (λ f. make ((atoms.Starts f.1.0 f.1.1.1.0), f.1.1.1.1.1))) (λ _ j0. bind R
      (x.two_arguments e n j0) (λ v. pure (atoms.Starts v.0 v.1)) (under_two_arguments j0 s (λ f. make
      ((atoms.Starts f.1.0 f.1.1.1.0), f.1.1.1.1.1))) (λ v j1. gives R (atoms.Starts v.0 v.1) j1 (λ a j. at_input R j s (λ f. make (a, f)))))
  at_atom o u places b0 s make = misfits R (record { places = (o, u) ∷ places; budget = b0 }) (λ a j. at_input R j s (λ f. make (a, f)))

  pub follows_atom : Follows R atom (x.atom e n)
  unfolding x.atom x.call ahead refusal
  follows_atom = by_next R atom (x.atom e n) (λ b0 s make. ends_here R (record { places = []; budget = b0 }) (λ a j. at_input R j s (λ f. make
      (a, f)))) at_atom

  lead_post : (places : List (ℕ × Token)) (b0 : Budget) (s : List Rule) (make : Forest (post ∷ s) → R) → at_input R
      (record { places = places; budget = b0 }) (post ∷ s) make ≡ at_input R (record { places = places; budget = b0 }) (atom ∷ post_steps ∷ s)
      (λ f. make ((roll-Post (record { atom = f.0; steps = f.1.0 })), f.1.1))
  lead_post [] b0 s make = refl
  lead_post (place ∷ places) b0 s make = refl

  pub follows_post : Follows R post (x.post e n)
  unfolding x.post
  follows_post i s make = from R ((x.post e n) i) _ _ (lead_post i.places i.budget s make) (bind R ((x.atom e n) i) (λ a. (x.post_steps n []) >>=
      (λ b. pure (roll-Post (record { atom = a; steps = b })))) (follows_atom i (post_steps ∷ s) (λ f. make (
        (roll-Post
            (record { atom = f.0; steps = f.1.0 })),
        f.1.1,
      ))) (λ a j1. bind R ((x.post_steps n []) j1) (λ b. pure (roll-Post
      (record { atom = a; steps = b }))) (follows_post_steps R n [] j1 s (λ f. make ((roll-Post (record { atom = a; steps = f.0 })), f.1)))
      (λ b j2. gives R (roll-Post (record { atom = a; steps = b })) j2 (λ a j. at_input R j s (λ f. make (a, f))))))

  at_unary : (n0 : ℕ) (hyp : Follows R unary (x.unary e n n0)) → (o : ℕ) (u : Token) (places : List (ℕ × Token)) (b0 : Budget) (s : List Rule)
      (make : Forest (unary ∷ s) → R) → Under R (x.unary e n (suc n0) (record { places = (o, u) ∷ places; budget = b0 })) (λ a j. at_input R j s
      (λ f. make (a, f))) (at_input R (record { places = (o, u) ∷ places; budget = b0 }) (unary ∷ s) make)
  unfolding x.unary sees ahead
  at_unary n0 hyp o (t.symbol m.Minus) places b0 s make = bind R (take_token (record { places = (o, t.symbol m.Minus) ∷ places; budget = b0 }))
      (λ _. (x.unary e n n0) >>= (λ a. pure (unaries.Minus a))) (takes R (o, t.symbol m.Minus) places b0 (unary ∷ s) (λ f. make
      ((unaries.Minus f.0), f.1))) (λ _ j0. bind R ((x.unary e n n0) j0) (λ a. pure (unaries.Minus a)) (hyp j0 s (λ f. make
      ((unaries.Minus f.0), f.1))) (λ a j1. gives R (unaries.Minus a) j1 (λ a j. at_input R j s (λ f. make (a, f)))))
  at_unary n0 hyp o u places b0 s make = bind R ((x.post e n) (record { places = (o, u) ∷ places; budget = b0 })) (λ a. pure (unaries.Plain a))
      (follows_post (record { places = (o, u) ∷ places; budget = b0 }) s (λ f. make ((unaries.Plain f.0), f.1))) (λ a j1. gives R
      (unaries.Plain a) j1 (λ a j. at_input R j s (λ f. make (a, f))))

  pub follows_unary : (n0 : ℕ) → Follows R unary (x.unary e n n0)
  unfolding x.unary sees ahead
  follows_unary zero i s make = deep R i (λ a j. at_input R j s (λ f. make (a, f))) (at_input R i (unary ∷ s) make)
  follows_unary (suc n0) i s make = by_next R unary (x.unary e n (suc n0)) (λ b0 s make. bind R ((x.post e n) (record { places = []; budget = b0 }))
      (λ a. pure (unaries.Plain a)) (follows_post (record { places = []; budget = b0 }) s (λ f. make ((unaries.Plain f.0), f.1))) (λ a j1. gives R
      (unaries.Plain a) j1 (λ a j. at_input R j s (λ f. make (a, f))))) (at_unary n0 (follows_unary n0)) i s make

  prod_rests_next : (n0 : ℕ) (found : List ProdRest) → ((found' : List ProdRest) (i : Input) (s : List Rule) (make : Forest (prod_rests ∷ s) → R)
      → Under R (x.prod_rests e n n0 found' i) (λ a j. at_input R j s (λ f. make (a, f))) (at_input R i (prod_rests ∷ s) (λ f. make
      (found' ++ f.0, f.1)))) → (o : ℕ) (u : Token) (places : List (ℕ × Token)) (b0 : Budget) (s : List Rule) (make : Forest (prod_rests ∷ s) → R)
      → Under R (x.prod_rests e n (suc n0) found (record { places = (o, u) ∷ places; budget = b0 })) (λ a j. at_input R j s (λ f. make (a, f)))
      (at_input R (record { places = (o, u) ∷ places; budget = b0 }) (prod_rests ∷ s) (λ f. make (found ++ f.0, f.1)))
  unfolding x.prod_rests ahead refusal
  prod_rests_next n0 found more o (t.symbol m.Star) places b0 s make = bind R ((take_token >>= (λ _. (x.unary e n n) >>= (λ v. pure
      (prod_rest.Times v)))) (record { places = (o, t.symbol m.Star) ∷ places; budget = b0 })) (λ a. x.prod_rests e n n0 (found ++ a ∷ [])) (bind R
      (take_token (record { places = (o, t.symbol m.Star) ∷ places; budget = b0 })) (λ _. (x.unary e n n) >>= (λ v. pure (prod_rest.Times v)))
      (takes R (o, t.symbol m.Star) places b0 (unary ∷ prod_rests ∷ s) (λ f. make (found ++ (prod_rest.Times f.0 ∷ f.1.0), f.1.1))) (λ _ j0. bind R
      ((x.unary e n n) j0) (λ v. pure (prod_rest.Times v)) (follows_unary n j0 (prod_rests ∷ s) (λ f. make (
        found ++
            (prod_rest.Times f.0 ∷ f.1.0),
        f.1.1,
      ))) (λ v j1. gives R (prod_rest.Times v) j1 (λ a j. at_input R j (prod_rests ∷ s) (λ f. make (
        found ++
            (a ∷ f.0),
        f.1,
      )))))) (λ a j1. from R (x.prod_rests e n n0 (found ++ a ∷ []) j1) _ _ (ap (λ g. at_input R j1 (prod_rests ∷ s) (λ f. make
      (g f.0, f.1))) (fun_ext (λ l. sym (append_assoc found (a ∷ []) l)))) (more (found ++ a ∷ []) j1 s make))
  prod_rests_next n0 found more o (t.symbol m.Slash) places b0 s make = bind R ((take_token >>= (λ _. (p.positive) >>= (λ v. pure
      (prod_rest.Over v)))) (record { places = (o, t.symbol m.Slash) ∷ places; budget = b0 })) (λ a. x.prod_rests e n n0 (found ++ a ∷ [])) (bind R
      (take_token (record { places = (o, t.symbol m.Slash) ∷ places; budget = b0 })) (λ _. (p.positive) >>= (λ v. pure (prod_rest.Over v))) (takes R
      (o, t.symbol m.Slash) places b0 (positive ∷ prod_rests ∷ s) (λ f. make (found ++ (prod_rest.Over f.0 ∷ f.1.0), f.1.1))) (λ _ j0. bind R
      ((p.positive) j0) (λ v. pure (prod_rest.Over v)) (follows_positive R j0 (prod_rests ∷ s) (λ f. make (
        found ++
            (prod_rest.Over f.0 ∷ f.1.0),
        f.1.1,
      ))) (λ v j1. gives R (prod_rest.Over v) j1 (λ a j. at_input R j (prod_rests ∷ s) (λ f. make (
        found ++
            (a ∷ f.0),
        f.1,
      )))))) (λ a j1. from R (x.prod_rests e n n0 (found ++ a ∷ []) j1) _ _ (ap (λ g. at_input R j1 (prod_rests ∷ s) (λ f. make
      (g f.0, f.1))) (fun_ext (λ l. sym (append_assoc found (a ∷ []) l)))) (more (found ++ a ∷ []) j1 s make))
  prod_rests_next n0 found more o (t.symbol m.Percent) places b0 s make = bind R ((take_token >>= (λ _. (p.positive) >>= (λ v. pure
      (prod_rest.Modulo v)))) (record { places = (o, t.symbol m.Percent) ∷ places; budget = b0 })) (λ a. x.prod_rests e n n0 (found ++ a ∷ []))
      (bind R (take_token (record { places = (o, t.symbol m.Percent) ∷ places; budget = b0 })) (λ _. (p.positive) >>= (λ v. pure
      (prod_rest.Modulo v))) (takes R (o, t.symbol m.Percent) places b0 (positive ∷ prod_rests ∷ s) (λ f. make (
        found ++
            (prod_rest.Modulo f.0 ∷ f.1.0),
        f.1.1,
      ))) (λ _ j0. bind R ((p.positive) j0) (λ v. pure (prod_rest.Modulo v)) (follows_positive R j0
      (prod_rests ∷ s) (λ f. make (found ++ (prod_rest.Modulo f.0 ∷ f.1.0), f.1.1))) (λ v j1. gives R (prod_rest.Modulo v) j1 (λ a j. at_input R j
      (prod_rests ∷ s) (λ f. make (found ++ (a ∷ f.0), f.1)))))) (λ a j1. from R (x.prod_rests e n n0 (found ++ a ∷ []) j1) _ _ (ap
      (λ g. at_input R j1 (prod_rests ∷ s) (λ f. make (g f.0, f.1))) (fun_ext (λ l. sym (append_assoc found (a ∷ []) l)))) (more
      (found ++ a ∷ []) j1 s make))
  prod_rests_next n0 found more o u places b0 s make = from R (pure found (record { places = (o, u) ∷ places; budget = b0 })) _ _ (ap
      (λ l. at_input R (record { places = (o, u) ∷ places; budget = b0 }) s (λ f. make (l, f))) (append-nil found)) (gives R found
      (record { places = (o, u) ∷ places; budget = b0 }) (λ a j. at_input R j s (λ f. make (a, f))))

  prod_rests_at : (n0 : ℕ) (found : List ProdRest) → ((found' : List ProdRest) (i : Input) (s : List Rule) (make : Forest (prod_rests ∷ s) → R)
      → Under R (x.prod_rests e n n0 found' i) (λ a j. at_input R j s (λ f. make (a, f))) (at_input R i (prod_rests ∷ s) (λ f. make
      (found' ++ f.0, f.1)))) → (places : List (ℕ × Token)) (b0 : Budget) (s : List Rule) (make : Forest (prod_rests ∷ s) → R) → Under R
      (x.prod_rests e n (suc n0) found (record { places = places; budget = b0 })) (λ a j. at_input R j s (λ f. make (a, f))) (at_input R
      (record { places = places; budget = b0 }) (prod_rests ∷ s) (λ f. make (found ++ f.0, f.1)))
  unfolding x.prod_rests ahead refusal
  prod_rests_at n0 found more [] b0 s make = from R (pure found (record { places = []; budget = b0 })) _ _ (ap (λ l. at_input R
      (record { places = []; budget = b0 }) s (λ f. make (l, f))) (append-nil found)) (gives R found (record { places = []; budget = b0 })
      (λ a j. at_input R j s (λ f. make (a, f))))
  prod_rests_at n0 found more (place ∷ places) b0 s make = prod_rests_next n0 found more place.0 place.1 places b0 s make

  pub follows_prod_rests : (n0 : ℕ) (found : List ProdRest) (i : Input) (s : List Rule) (make : Forest (prod_rests ∷ s) → R) → Under R
      (x.prod_rests e n n0 found i) (λ a j. at_input R j s (λ f. make (a, f))) (at_input R i (prod_rests ∷ s) (λ f. make (found ++ f.0, f.1)))
  unfolding x.prod_rests ahead refusal
  follows_prod_rests zero found i s make = deep R i (λ a j. at_input R j s (λ f. make (a, f))) (at_input R i (prod_rests ∷ s) (λ f. make
      (found ++ f.0, f.1)))
  follows_prod_rests (suc n0) found i s make = prod_rests_at n0 found (follows_prod_rests n0) i.places i.budget s make

  lead_prod : (places : List (ℕ × Token)) (b0 : Budget) (s : List Rule) (make : Forest (prod ∷ s) → R) → at_input R
      (record { places = places; budget = b0 }) (prod ∷ s) make ≡ at_input R (record { places = places; budget = b0 }) (unary ∷ prod_rests ∷ s)
      (λ f. make ((roll-Prod (record { first = f.0; rest = f.1.0 })), f.1.1))
  lead_prod [] b0 s make = refl
  lead_prod (place ∷ places) b0 s make = refl

  pub follows_prod : Follows R prod (x.prod e n)
  unfolding x.prod
  follows_prod i s make = from R ((x.prod e n) i) _ _ (lead_prod i.places i.budget s make) (bind R ((x.unary e n n) i) (λ a.
      (x.prod_rests e n n []) >>= (λ b. pure (roll-Prod (record { first = a; rest = b })))) (follows_unary n i (prod_rests ∷ s) (λ f. make
      ((roll-Prod (record { first = f.0; rest = f.1.0 })), f.1.1))) (λ a j1. bind R ((x.prod_rests e n n []) j1) (λ b. pure (roll-Prod
      (record { first = a; rest = b }))) (follows_prod_rests n [] j1 s (λ f. make ((roll-Prod (record { first = a; rest = f.0 })), f.1)))
      (λ b j2. gives R (roll-Prod (record { first = a; rest = b })) j2 (λ a j. at_input R j s (λ f. make (a, f))))))

  add_rests_next : (n0 : ℕ) (found : List AddRest) → ((found' : List AddRest) (i : Input) (s : List Rule) (make : Forest (add_rests ∷ s) → R)
      → Under R (x.add_rests e n n0 found' i) (λ a j. at_input R j s (λ f. make (a, f))) (at_input R i (add_rests ∷ s) (λ f. make
      (found' ++ f.0, f.1)))) → (o : ℕ) (u : Token) (places : List (ℕ × Token)) (b0 : Budget) (s : List Rule) (make : Forest (add_rests ∷ s) → R)
      → Under R (x.add_rests e n (suc n0) found (record { places = (o, u) ∷ places; budget = b0 })) (λ a j. at_input R j s (λ f. make (a, f)))
      (at_input R (record { places = (o, u) ∷ places; budget = b0 }) (add_rests ∷ s) (λ f. make (found ++ f.0, f.1)))
  unfolding x.add_rests ahead refusal
  add_rests_next n0 found more o (t.symbol m.Plus) places b0 s make = bind R ((take_token >>= (λ _. (x.prod e n))) (record {
    places =
        (o, t.symbol m.Plus) ∷ places;
    budget = b0;
  })) (λ a. x.add_rests e n n0 (found ++ add_rest.Plus a ∷ [])) (bind R (take_token
      (record { places = (o, t.symbol m.Plus) ∷ places; budget = b0 })) (λ _. (x.prod e n)) (takes R (o, t.symbol m.Plus) places b0
      (prod ∷ add_rests ∷ s) (λ f. make (found ++ (add_rest.Plus f.0 ∷ f.1.0), f.1.1))) (λ _ j0. follows_prod j0 (add_rests ∷ s) (λ f. make
      (found ++ (add_rest.Plus f.0 ∷ f.1.0), f.1.1)))) (λ a j1. from R (x.add_rests e n n0 (found ++ add_rest.Plus a ∷ []) j1) _ _ (ap
      (λ g. at_input R j1 (add_rests ∷ s) (λ f. make (g f.0, f.1))) (fun_ext (λ l. sym (append_assoc found (add_rest.Plus a ∷ []) l)))) (more
      (found ++ add_rest.Plus a ∷ []) j1 s make))
  add_rests_next n0 found more o (t.symbol m.Minus) places b0 s make = bind R ((take_token >>= (λ _. (x.prod e n))) (record {
    places =
        (o, t.symbol m.Minus) ∷ places;
    budget = b0;
  })) (λ a. x.add_rests e n n0 (found ++ add_rest.Minus a ∷ [])) (bind R (take_token
      (record { places = (o, t.symbol m.Minus) ∷ places; budget = b0 })) (λ _. (x.prod e n)) (takes R (o, t.symbol m.Minus) places b0
      (prod ∷ add_rests ∷ s) (λ f. make (found ++ (add_rest.Minus f.0 ∷ f.1.0), f.1.1))) (λ _ j0. follows_prod j0 (add_rests ∷ s) (λ f. make
      (found ++ (add_rest.Minus f.0 ∷ f.1.0), f.1.1)))) (λ a j1. from R (x.add_rests e n n0 (found ++ add_rest.Minus a ∷ []) j1) _ _ (ap
      (λ g. at_input R j1 (add_rests ∷ s) (λ f. make (g f.0, f.1))) (fun_ext (λ l. sym (append_assoc found (add_rest.Minus a ∷ []) l)))) (more
      (found ++ add_rest.Minus a ∷ []) j1 s make))
  add_rests_next n0 found more o u places b0 s make = from R (pure found (record { places = (o, u) ∷ places; budget = b0 })) _ _ (ap
      (λ l. at_input R (record { places = (o, u) ∷ places; budget = b0 }) s (λ f. make (l, f))) (append-nil found)) (gives R found
      (record { places = (o, u) ∷ places; budget = b0 }) (λ a j. at_input R j s (λ f. make (a, f))))

  add_rests_at : (n0 : ℕ) (found : List AddRest) → ((found' : List AddRest) (i : Input) (s : List Rule) (make : Forest (add_rests ∷ s) → R)
      → Under R (x.add_rests e n n0 found' i) (λ a j. at_input R j s (λ f. make (a, f))) (at_input R i (add_rests ∷ s) (λ f. make
      (found' ++ f.0, f.1)))) → (places : List (ℕ × Token)) (b0 : Budget) (s : List Rule) (make : Forest (add_rests ∷ s) → R) → Under R
      (x.add_rests e n (suc n0) found (record { places = places; budget = b0 })) (λ a j. at_input R j s (λ f. make (a, f))) (at_input R
      (record { places = places; budget = b0 }) (add_rests ∷ s) (λ f. make (found ++ f.0, f.1)))
  unfolding x.add_rests ahead refusal
  add_rests_at n0 found more [] b0 s make = from R (pure found (record { places = []; budget = b0 })) _ _ (ap (λ l. at_input R
      (record { places = []; budget = b0 }) s (λ f. make (l, f))) (append-nil found)) (gives R found (record { places = []; budget = b0 })
      (λ a j. at_input R j s (λ f. make (a, f))))
  add_rests_at n0 found more (place ∷ places) b0 s make = add_rests_next n0 found more place.0 place.1 places b0 s make

  pub follows_add_rests : (n0 : ℕ) (found : List AddRest) (i : Input) (s : List Rule) (make : Forest (add_rests ∷ s) → R) → Under R
      (x.add_rests e n n0 found i) (λ a j. at_input R j s (λ f. make (a, f))) (at_input R i (add_rests ∷ s) (λ f. make (found ++ f.0, f.1)))
  unfolding x.add_rests ahead refusal
  follows_add_rests zero found i s make = deep R i (λ a j. at_input R j s (λ f. make (a, f))) (at_input R i (add_rests ∷ s) (λ f. make
      (found ++ f.0, f.1)))
  follows_add_rests (suc n0) found i s make = add_rests_at n0 found (follows_add_rests n0) i.places i.budget s make

  lead_add : (places : List (ℕ × Token)) (b0 : Budget) (s : List Rule) (make : Forest (add ∷ s) → R) → at_input R
      (record { places = places; budget = b0 }) (add ∷ s) make ≡ at_input R (record { places = places; budget = b0 }) (prod ∷ add_rests ∷ s)
      (λ f. make ((roll-Add (record { first = f.0; rest = f.1.0 })), f.1.1))
  lead_add [] b0 s make = refl
  lead_add (place ∷ places) b0 s make = refl

  pub follows_add : Follows R add (x.add e n)
  unfolding x.add
  follows_add i s make = from R ((x.add e n) i) _ _ (lead_add i.places i.budget s make) (bind R ((x.prod e n) i) (λ a. (x.add_rests e n n []) >>=
      (λ b. pure (roll-Add (record { first = a; rest = b })))) (follows_prod i (add_rests ∷ s) (λ f. make (
        (roll-Add
            (record { first = f.0; rest = f.1.0 })),
        f.1.1,
      ))) (λ a j1. bind R ((x.add_rests e n n []) j1) (λ b. pure (roll-Add
      (record { first = a; rest = b }))) (follows_add_rests n [] j1 s (λ f. make ((roll-Add (record { first = a; rest = f.0 })), f.1)))
      (λ b j2. gives R (roll-Add (record { first = a; rest = b })) j2 (λ a j. at_input R j s (λ f. make (a, f))))))

  cmp_next : (a : Add) (o : ℕ) (u : Token) (places : List (ℕ × Token)) (b0 : Budget) (s : List Rule) (make : Forest (cmp ∷ s) → R) → Under R
      (x.compared e n a (x.comparison_in (ahead (record { places = (o, u) ∷ places; budget = b0 }))) (record {
        places =
            (o, u) ∷ places;
        budget = b0;
      })) (λ v j. at_input R j s (λ f. make (v, f))) (at_input R (record { places = (o, u) ∷ places; budget = b0 })
      (comparison ∷ s) (λ f. make (cmp_of a f.0, f.1)))
  unfolding ahead
  cmp_next a o (t.symbol m.Equal) places b0 s make = bind R (take_token (record { places = (o, t.symbol m.Equal) ∷ places; budget = b0 }))
      (λ _. x.add e n >>= (λ b. pure (cmps.Both operators.Equal a b))) (takes R (o, t.symbol m.Equal) places b0 (add ∷ s) (λ f. make
      (cmps.Both operators.Equal a f.0, f.1))) (λ _ j0. bind R (x.add e n j0) (λ b. pure (cmps.Both operators.Equal a b)) (follows_add j0 s
      (λ f. make (cmps.Both operators.Equal a f.0, f.1))) (λ b j1. gives R (cmps.Both operators.Equal a b) j1 (λ a j. at_input R j s (λ f. make
      (a, f)))))
  cmp_next a o (t.symbol m.Unequal) places b0 s make = bind R (take_token (record { places = (o, t.symbol m.Unequal) ∷ places; budget = b0 }))
      (λ _. x.add e n >>= (λ b. pure (cmps.Both operators.Unequal a b))) (takes R (o, t.symbol m.Unequal) places b0 (add ∷ s) (λ f. make
      (cmps.Both operators.Unequal a f.0, f.1))) (λ _ j0. bind R (x.add e n j0) (λ b. pure (cmps.Both operators.Unequal a b)) (follows_add j0 s
      (λ f. make (cmps.Both operators.Unequal a f.0, f.1))) (λ b j1. gives R (cmps.Both operators.Unequal a b) j1 (λ a j. at_input R j s (λ f. make
      (a, f)))))
  cmp_next a o (t.symbol m.Less) places b0 s make = bind R (take_token (record { places = (o, t.symbol m.Less) ∷ places; budget = b0 }))
      (λ _. x.add e n >>= (λ b. pure (cmps.Both operators.Less a b))) (takes R (o, t.symbol m.Less) places b0 (add ∷ s) (λ f. make
      (cmps.Both operators.Less a f.0, f.1))) (λ _ j0. bind R (x.add e n j0) (λ b. pure (cmps.Both operators.Less a b)) (follows_add j0 s (λ f. make
      (cmps.Both operators.Less a f.0, f.1))) (λ b j1. gives R (cmps.Both operators.Less a b) j1 (λ a j. at_input R j s (λ f. make (a, f)))))
  cmp_next a o (t.symbol m.AtMost) places b0 s make = bind R (take_token (record { places = (o, t.symbol m.AtMost) ∷ places; budget = b0 }))
      (λ _. x.add e n >>= (λ b. pure (cmps.Both operators.AtMost a b))) (takes R (o, t.symbol m.AtMost) places b0 (add ∷ s) (λ f. make
      (cmps.Both operators.AtMost a f.0, f.1))) (λ _ j0. bind R (x.add e n j0) (λ b. pure (cmps.Both operators.AtMost a b)) (follows_add j0 s
      (λ f. make (cmps.Both operators.AtMost a f.0, f.1))) (λ b j1. gives R (cmps.Both operators.AtMost a b) j1 (λ a j. at_input R j s (λ f. make
      (a, f)))))
  cmp_next a o (t.symbol m.Greater) places b0 s make = bind R (take_token (record { places = (o, t.symbol m.Greater) ∷ places; budget = b0 }))
      (λ _. x.add e n >>= (λ b. pure (cmps.Both operators.Greater a b))) (takes R (o, t.symbol m.Greater) places b0 (add ∷ s) (λ f. make
      (cmps.Both operators.Greater a f.0, f.1))) (λ _ j0. bind R (x.add e n j0) (λ b. pure (cmps.Both operators.Greater a b)) (follows_add j0 s
      (λ f. make (cmps.Both operators.Greater a f.0, f.1))) (λ b j1. gives R (cmps.Both operators.Greater a b) j1 (λ a j. at_input R j s (λ f. make
      (a, f)))))
  cmp_next a o (t.symbol m.AtLeast) places b0 s make = bind R (take_token (record { places = (o, t.symbol m.AtLeast) ∷ places; budget = b0 }))
      (λ _. x.add e n >>= (λ b. pure (cmps.Both operators.AtLeast a b))) (takes R (o, t.symbol m.AtLeast) places b0 (add ∷ s) (λ f. make
      (cmps.Both operators.AtLeast a f.0, f.1))) (λ _ j0. bind R (x.add e n j0) (λ b. pure (cmps.Both operators.AtLeast a b)) (follows_add j0 s
      (λ f. make (cmps.Both operators.AtLeast a f.0, f.1))) (λ b j1. gives R (cmps.Both operators.AtLeast a b) j1 (λ a j. at_input R j s (λ f. make
      (a, f)))))
  cmp_next a o u places b0 s make = gives R (cmps.Plain a) (record { places = (o, u) ∷ places; budget = b0 }) (λ a j. at_input R j s (λ f. make
      (a, f)))

  cmp_at : (a : Add) (places : List (ℕ × Token)) (b0 : Budget) (s : List Rule) (make : Forest (cmp ∷ s) → R) → Under R (x.compared e n a
      (x.comparison_in (ahead (record { places = places; budget = b0 }))) (record { places = places; budget = b0 })) (λ v j. at_input R j s
      (λ f. make (v, f))) (at_input R (record { places = places; budget = b0 }) (comparison ∷ s) (λ f. make (cmp_of a f.0, f.1)))
  unfolding ahead
  cmp_at a [] b0 s make = gives R (cmps.Plain a) (record { places = []; budget = b0 }) (λ a j. at_input R j s (λ f. make (a, f)))
  cmp_at a (place ∷ places) b0 s make = cmp_next a place.0 place.1 places b0 s make

  lead_cmp : (places : List (ℕ × Token)) (b0 : Budget) (s : List Rule) (make : Forest (cmp ∷ s) → R) → at_input R
      (record { places = places; budget = b0 }) (cmp ∷ s) make ≡ at_input R (record { places = places; budget = b0 }) (add ∷ comparison ∷ s)
      (λ f. make ((cmp_of f.0 f.1.0), f.1.1))
  lead_cmp [] b0 s make = refl
  lead_cmp (place ∷ places) b0 s make = refl

  pub follows_cmp : Follows R cmp (x.cmp e n)
  unfolding x.cmp
  follows_cmp i s make = from R (x.cmp e n i) _ _ (lead_cmp i.places i.budget s make) (bind R (x.add e n i) (λ a j. x.compared e n a
      (x.comparison_in (ahead j)) j) (follows_add i (comparison ∷ s) (λ f. make (cmp_of f.0 f.1.0, f.1.1)))
      (λ a j. cmp_at a j.places j.budget s make))

  at_neg : (n0 : ℕ) (hyp : Follows R neg (x.neg e n n0)) → (o : ℕ) (u : Token) (places : List (ℕ × Token)) (b0 : Budget) (s : List Rule)
      (make : Forest (neg ∷ s) → R) → Under R (x.neg e n (suc n0) (record { places = (o, u) ∷ places; budget = b0 })) (λ a j. at_input R j s
      (λ f. make (a, f))) (at_input R (record { places = (o, u) ∷ places; budget = b0 }) (neg ∷ s) make)
  unfolding x.neg sees_word ahead
  at_neg n0 hyp o (t.keyword k.Not) places b0 s make = bind R (take_token (record { places = (o, t.keyword k.Not) ∷ places; budget = b0 })) (λ _.
      (x.neg e n n0) >>= (λ a. pure (negs.Not a))) (takes R (o, t.keyword k.Not) places b0 (neg ∷ s) (λ f. make ((negs.Not f.0), f.1)))
      (λ _ j0. bind R ((x.neg e n n0) j0) (λ a. pure (negs.Not a)) (hyp j0 s (λ f. make ((negs.Not f.0), f.1))) (λ a j1. gives R (negs.Not a) j1
      (λ a j. at_input R j s (λ f. make (a, f)))))
  at_neg n0 hyp o u places b0 s make = bind R ((x.cmp e n) (record { places = (o, u) ∷ places; budget = b0 })) (λ a. pure (negs.Plain a))
      (follows_cmp (record { places = (o, u) ∷ places; budget = b0 }) s (λ f. make ((negs.Plain f.0), f.1))) (λ a j1. gives R (negs.Plain a) j1
      (λ a j. at_input R j s (λ f. make (a, f))))

  pub follows_neg : (n0 : ℕ) → Follows R neg (x.neg e n n0)
  unfolding x.neg sees_word ahead
  follows_neg zero i s make = deep R i (λ a j. at_input R j s (λ f. make (a, f))) (at_input R i (neg ∷ s) make)
  follows_neg (suc n0) i s make = by_next R neg (x.neg e n (suc n0)) (λ b0 s make. bind R ((x.cmp e n) (record { places = []; budget = b0 }))
      (λ a. pure (negs.Plain a)) (follows_cmp (record { places = []; budget = b0 }) s (λ f. make ((negs.Plain f.0), f.1))) (λ a j1. gives R
      (negs.Plain a) j1 (λ a j. at_input R j s (λ f. make (a, f))))) (at_neg n0 (follows_neg n0)) i s make

  conj_rests_next : (n0 : ℕ) (found : List Neg) → ((found' : List Neg) (i : Input) (s : List Rule) (make : Forest (conj_rests ∷ s) → R) → Under R
      (x.conj_rests e n n0 found' i) (λ a j. at_input R j s (λ f. make (a, f))) (at_input R i (conj_rests ∷ s) (λ f. make (found' ++ f.0, f.1)))) →
      (o : ℕ) (u : Token) (places : List (ℕ × Token)) (b0 : Budget) (s : List Rule) (make : Forest (conj_rests ∷ s) → R) → Under R (x.conj_rests e n
      (suc n0) found (record { places = (o, u) ∷ places; budget = b0 })) (λ a j. at_input R j s (λ f. make (a, f))) (at_input R (record {
        places =
            (o, u) ∷ places;
        budget = b0;
      }) (conj_rests ∷ s) (λ f. make (found ++ f.0, f.1)))
  unfolding x.conj_rests sees_word ahead refusal
  conj_rests_next n0 found more o (t.keyword k.And) places b0 s make = bind R ((take_token >>= (λ _. (x.neg e n n))) (record {
    places =
        (o, t.keyword k.And) ∷ places;
    budget = b0;
  })) (λ a. x.conj_rests e n n0 (found ++ a ∷ [])) (bind R (take_token (record {
    places =
        (o, t.keyword k.And) ∷ places;
    budget = b0;
  })) (λ _. (x.neg e n n)) (takes R (o, t.keyword k.And) places b0 (neg ∷ conj_rests ∷ s) (λ f. make
      (found ++ (f.0 ∷ f.1.0), f.1.1))) (λ _ j0. follows_neg n j0 (conj_rests ∷ s) (λ f. make (found ++ (f.0 ∷ f.1.0), f.1.1)))) (λ a j1. from R
      (x.conj_rests e n n0 (found ++ a ∷ []) j1) _ _ (ap (λ g. at_input R j1 (conj_rests ∷ s) (λ f. make (g f.0, f.1))) (fun_ext (λ l. sym
      (append_assoc found (a ∷ []) l)))) (more (found ++ a ∷ []) j1 s make))
  conj_rests_next n0 found more o u places b0 s make = from R (pure found (record { places = (o, u) ∷ places; budget = b0 })) _ _ (ap
      (λ l. at_input R (record { places = (o, u) ∷ places; budget = b0 }) s (λ f. make (l, f))) (append-nil found)) (gives R found
      (record { places = (o, u) ∷ places; budget = b0 }) (λ a j. at_input R j s (λ f. make (a, f))))

  conj_rests_at : (n0 : ℕ) (found : List Neg) → ((found' : List Neg) (i : Input) (s : List Rule) (make : Forest (conj_rests ∷ s) → R) → Under R
      (x.conj_rests e n n0 found' i) (λ a j. at_input R j s (λ f. make (a, f))) (at_input R i (conj_rests ∷ s) (λ f. make (found' ++ f.0, f.1)))) →
      (places : List (ℕ × Token)) (b0 : Budget) (s : List Rule) (make : Forest (conj_rests ∷ s) → R) → Under R (x.conj_rests e n (suc n0) found
      (record { places = places; budget = b0 })) (λ a j. at_input R j s (λ f. make (a, f))) (at_input R (record { places = places; budget = b0 })
      (conj_rests ∷ s) (λ f. make (found ++ f.0, f.1)))
  unfolding x.conj_rests sees_word ahead refusal
  conj_rests_at n0 found more [] b0 s make = from R (pure found (record { places = []; budget = b0 })) _ _ (ap (λ l. at_input R
      (record { places = []; budget = b0 }) s (λ f. make (l, f))) (append-nil found)) (gives R found (record { places = []; budget = b0 })
      (λ a j. at_input R j s (λ f. make (a, f))))
  conj_rests_at n0 found more (place ∷ places) b0 s make = conj_rests_next n0 found more place.0 place.1 places b0 s make

  pub follows_conj_rests : (n0 : ℕ) (found : List Neg) (i : Input) (s : List Rule) (make : Forest (conj_rests ∷ s) → R) → Under R
      (x.conj_rests e n n0 found i) (λ a j. at_input R j s (λ f. make (a, f))) (at_input R i (conj_rests ∷ s) (λ f. make (found ++ f.0, f.1)))
  unfolding x.conj_rests sees_word ahead refusal
  follows_conj_rests zero found i s make = deep R i (λ a j. at_input R j s (λ f. make (a, f))) (at_input R i (conj_rests ∷ s) (λ f. make
      (found ++ f.0, f.1)))
  follows_conj_rests (suc n0) found i s make = conj_rests_at n0 found (follows_conj_rests n0) i.places i.budget s make

  lead_conj : (places : List (ℕ × Token)) (b0 : Budget) (s : List Rule) (make : Forest (conj ∷ s) → R) → at_input R
      (record { places = places; budget = b0 }) (conj ∷ s) make ≡ at_input R (record { places = places; budget = b0 }) (neg ∷ conj_rests ∷ s)
      (λ f. make ((roll-Conj (record { first = f.0; rest = f.1.0 })), f.1.1))
  lead_conj [] b0 s make = refl
  lead_conj (place ∷ places) b0 s make = refl

  pub follows_conj : Follows R conj (x.conj e n)
  unfolding x.conj
  follows_conj i s make = from R ((x.conj e n) i) _ _ (lead_conj i.places i.budget s make) (bind R ((x.neg e n n) i) (λ a.
      (x.conj_rests e n n []) >>= (λ b. pure (roll-Conj (record { first = a; rest = b })))) (follows_neg n i (conj_rests ∷ s) (λ f. make (
        (roll-Conj
            (record { first = f.0; rest = f.1.0 })),
        f.1.1,
      ))) (λ a j1. bind R ((x.conj_rests e n n []) j1) (λ b. pure (roll-Conj
      (record { first = a; rest = b }))) (follows_conj_rests n [] j1 s (λ f. make ((roll-Conj (record { first = a; rest = f.0 })), f.1)))
      (λ b j2. gives R (roll-Conj (record { first = a; rest = b })) j2 (λ a j. at_input R j s (λ f. make (a, f))))))

  disj_rests_next : (n0 : ℕ) (found : List Conj) → ((found' : List Conj) (i : Input) (s : List Rule) (make : Forest (disj_rests ∷ s) → R) → Under R
      (x.disj_rests e n n0 found' i) (λ a j. at_input R j s (λ f. make (a, f))) (at_input R i (disj_rests ∷ s) (λ f. make (found' ++ f.0, f.1)))) →
      (o : ℕ) (u : Token) (places : List (ℕ × Token)) (b0 : Budget) (s : List Rule) (make : Forest (disj_rests ∷ s) → R) → Under R (x.disj_rests e n
      (suc n0) found (record { places = (o, u) ∷ places; budget = b0 })) (λ a j. at_input R j s (λ f. make (a, f))) (at_input R (record {
        places =
            (o, u) ∷ places;
        budget = b0;
      }) (disj_rests ∷ s) (λ f. make (found ++ f.0, f.1)))
  unfolding x.disj_rests sees_word ahead refusal
  disj_rests_next n0 found more o (t.keyword k.Or) places b0 s make = bind R ((take_token >>= (λ _. (x.conj e n))) (record {
    places =
        (o, t.keyword k.Or) ∷ places;
    budget = b0;
  })) (λ a. x.disj_rests e n n0 (found ++ a ∷ [])) (bind R (take_token (record {
    places =
        (o, t.keyword k.Or) ∷ places;
    budget = b0;
  })) (λ _. (x.conj e n)) (takes R (o, t.keyword k.Or) places b0 (conj ∷ disj_rests ∷ s) (λ f. make
      (found ++ (f.0 ∷ f.1.0), f.1.1))) (λ _ j0. follows_conj j0 (disj_rests ∷ s) (λ f. make (found ++ (f.0 ∷ f.1.0), f.1.1)))) (λ a j1. from R
      (x.disj_rests e n n0 (found ++ a ∷ []) j1) _ _ (ap (λ g. at_input R j1 (disj_rests ∷ s) (λ f. make (g f.0, f.1))) (fun_ext (λ l. sym
      (append_assoc found (a ∷ []) l)))) (more (found ++ a ∷ []) j1 s make))
  disj_rests_next n0 found more o u places b0 s make = from R (pure found (record { places = (o, u) ∷ places; budget = b0 })) _ _ (ap
      (λ l. at_input R (record { places = (o, u) ∷ places; budget = b0 }) s (λ f. make (l, f))) (append-nil found)) (gives R found
      (record { places = (o, u) ∷ places; budget = b0 }) (λ a j. at_input R j s (λ f. make (a, f))))

  disj_rests_at : (n0 : ℕ) (found : List Conj) → ((found' : List Conj) (i : Input) (s : List Rule) (make : Forest (disj_rests ∷ s) → R) → Under R
      (x.disj_rests e n n0 found' i) (λ a j. at_input R j s (λ f. make (a, f))) (at_input R i (disj_rests ∷ s) (λ f. make (found' ++ f.0, f.1)))) →
      (places : List (ℕ × Token)) (b0 : Budget) (s : List Rule) (make : Forest (disj_rests ∷ s) → R) → Under R (x.disj_rests e n (suc n0) found
      (record { places = places; budget = b0 })) (λ a j. at_input R j s (λ f. make (a, f))) (at_input R (record { places = places; budget = b0 })
      (disj_rests ∷ s) (λ f. make (found ++ f.0, f.1)))
  unfolding x.disj_rests sees_word ahead refusal
  disj_rests_at n0 found more [] b0 s make = from R (pure found (record { places = []; budget = b0 })) _ _ (ap (λ l. at_input R
      (record { places = []; budget = b0 }) s (λ f. make (l, f))) (append-nil found)) (gives R found (record { places = []; budget = b0 })
      (λ a j. at_input R j s (λ f. make (a, f))))
  disj_rests_at n0 found more (place ∷ places) b0 s make = disj_rests_next n0 found more place.0 place.1 places b0 s make

  pub follows_disj_rests : (n0 : ℕ) (found : List Conj) (i : Input) (s : List Rule) (make : Forest (disj_rests ∷ s) → R) → Under R
      (x.disj_rests e n n0 found i) (λ a j. at_input R j s (λ f. make (a, f))) (at_input R i (disj_rests ∷ s) (λ f. make (found ++ f.0, f.1)))
  unfolding x.disj_rests sees_word ahead refusal
  follows_disj_rests zero found i s make = deep R i (λ a j. at_input R j s (λ f. make (a, f))) (at_input R i (disj_rests ∷ s) (λ f. make
      (found ++ f.0, f.1)))
  follows_disj_rests (suc n0) found i s make = disj_rests_at n0 found (follows_disj_rests n0) i.places i.budget s make

  lead_disj : (places : List (ℕ × Token)) (b0 : Budget) (s : List Rule) (make : Forest (disj ∷ s) → R) → at_input R
      (record { places = places; budget = b0 }) (disj ∷ s) make ≡ at_input R (record { places = places; budget = b0 }) (conj ∷ disj_rests ∷ s)
      (λ f. make ((roll-Disj (record { first = f.0; rest = f.1.0 })), f.1.1))
  lead_disj [] b0 s make = refl
  lead_disj (place ∷ places) b0 s make = refl

  pub follows_disj : Follows R disj (x.disj e n)
  unfolding x.disj
  follows_disj i s make = from R ((x.disj e n) i) _ _ (lead_disj i.places i.budget s make) (bind R ((x.conj e n) i) (λ a.
      (x.disj_rests e n n []) >>= (λ b. pure (roll-Disj (record { first = a; rest = b })))) (follows_conj i (disj_rests ∷ s) (λ f. make (
        (roll-Disj
            (record { first = f.0; rest = f.1.0 })),
        f.1.1,
      ))) (λ a j1. bind R ((x.disj_rests e n n []) j1) (λ b. pure (roll-Disj
      (record { first = a; rest = b }))) (follows_disj_rests n [] j1 s (λ f. make ((roll-Disj (record { first = a; rest = f.0 })), f.1)))
      (λ b j2. gives R (roll-Disj (record { first = a; rest = b })) j2 (λ a j. at_input R j s (λ f. make (a, f))))))

  at_expr : (o : ℕ) (u : Token) (places : List (ℕ × Token)) (b0 : Budget) (s : List Rule) (make : Forest (expr ∷ s) → R) → Under R (x.level e n
      (record { places = (o, u) ∷ places; budget = b0 })) (λ a j. at_input R j s (λ f. make (a, f))) (at_input R (record {
        places =
            (o, u) ∷ places;
        budget = b0;
      }) (expr ∷ s) make)
  unfolding x.level x.choice sees_word ahead
  at_expr o (t.keyword k.If) places b0 s make = bind R (take_token (record { places = (o, t.keyword k.If) ∷ places; budget = b0 })) (λ _. (e) >>=
      (λ a. (expect_word k.Then) >>= (λ _. (e) >>= (λ c. (expect_word k.Else) >>= (λ _. (e) >>= (λ g. pure (exprs.If a c g))))))) (takes R
      (o, t.keyword k.If) places b0 (expr ∷ then_word ∷ expr ∷ else_word ∷ expr ∷ s) (λ f. make ((exprs.If f.0 f.1.1.0 f.1.1.1.1.0), f.1.1.1.1.1)))
      (λ _ j0. bind R ((e) j0) (λ a. (expect_word k.Then) >>= (λ _. (e) >>= (λ c. (expect_word k.Else) >>= (λ _. (e) >>= (λ g. pure
      (exprs.If a c g)))))) (follows_expr j0 (then_word ∷ expr ∷ else_word ∷ expr ∷ s) (λ f. make
      ((exprs.If f.0 f.1.1.0 f.1.1.1.1.0), f.1.1.1.1.1))) (λ a j1. bind R ((expect_word k.Then) j1) (λ _. (e) >>= (λ c. (expect_word k.Else) >>=
      (λ _. (e) >>= (λ g. pure (exprs.If a c g))))) (follows_then_word R j1 (expr ∷ else_word ∷ expr ∷ s) (λ f. make
      ((exprs.If a f.1.0 f.1.1.1.0), f.1.1.1.1))) (λ _ j2. bind R ((e) j2) (λ c. (expect_word k.Else) >>= (λ _. (e) >>= (λ g. pure
      (exprs.If a c g)))) (follows_expr j2 (else_word ∷ expr ∷ s) (λ f. make ((exprs.If a f.0 f.1.1.0), f.1.1.1))) (λ c j3. bind R
      ((expect_word k.Else) j3) (λ _. (e) >>= (λ g. pure (exprs.If a c g))) (follows_else_word R j3 (expr ∷ s) (λ f. make
      ((exprs.If a c f.1.0), f.1.1))) (λ _ j4. bind R ((e) j4) (λ g. pure (exprs.If a c g)) (follows_expr j4 s (λ f. make
      ((exprs.If a c f.0), f.1))) (λ g j5. gives R (exprs.If a c g) j5 (λ a j. at_input R j s (λ f. make (a, f)))))))))
  at_expr o u places b0 s make = bind R ((x.disj e n) (record { places = (o, u) ∷ places; budget = b0 })) (λ a. pure (exprs.Plain a)) (follows_disj
      (record { places = (o, u) ∷ places; budget = b0 }) s (λ f. make ((exprs.Plain f.0), f.1))) (λ a j1. gives R (exprs.Plain a) j1
      (λ a j. at_input R j s (λ f. make (a, f))))

  pub follows_level : Follows R expr (x.level e n)
  unfolding x.level x.choice sees_word ahead
  follows_level = by_next R expr (x.level e n) (λ b0 s make. bind R ((x.disj e n) (record { places = []; budget = b0 })) (λ a. pure (exprs.Plain a))
      (follows_disj (record { places = []; budget = b0 }) s (λ f. make ((exprs.Plain f.0), f.1))) (λ a j1. gives R (exprs.Plain a) j1
      (λ a j. at_input R j s (λ f. make (a, f))))) at_expr

module _ (R : Type 0) where
  pub follows_expr : (n : ℕ) → Follows R expr (x.expr n)
  unfolding x.expr
  follows_expr zero i s make = deep R i (λ a j. at_input R j s (λ f. make (a, f))) (at_input R i (expr ∷ s) make)
  follows_expr (suc n) i s make = follows_level R (x.expr n) (follows_expr n) n i s make
