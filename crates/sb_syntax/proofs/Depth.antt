-- The depth that the parser counts down is never used up: each rule that is open in itself takes a token.
use Rattle.std.proofs.Common.{◌≡◌, ◌+◌, ◌<◌, ◌≤◌, ℕ, zero, suc, Bool, true, false, if◌then◌else◌, List, [], ◌∷◌, ◌++◌, Option, Some, None}
use Rattle.std.proofs.Common.{Ok, Err, refl, sym, subst, arith}
use Rattle.sb_tokens.specs.declared.keyword.Keyword.{Keyword}
use Rattle.sb_tokens.specs.declared.keyword.Keyword.TheVariants as k
use Rattle.sb_tokens.specs.declared.symbol.Symbol.TheVariants as m
use Rattle.sb_tokens.specs.Token.{Token}
use Rattle.sb_tokens.specs.Token as t
use Rattle.sb_grammar.specs.declared.programs.FieldTree.{FieldTree}
use Rattle.sb_grammar.specs.declared.programs.Statement.{Statement}
use Rattle.sb_grammar.specs.declared.programs.Statement.TheVariants as statements
use Rattle.sb_grammar.specs.declared.programs.Stream.{roll-Stream}
use Rattle.sb_grammar.specs.declared.programs.Head.{Head}
use Rattle.sb_grammar.specs.declared.programs.Head.TheVariants as heads
use Rattle.sb_grammar.specs.declared.programs.Stage.{Stage}
use Rattle.sb_grammar.specs.declared.programs.Stage.TheVariants as staged
use Rattle.sb_grammar.specs.declared.programs.MonoTree.{MonoTree}
use Rattle.sb_grammar.specs.declared.programs.MonoTree.TheVariants as monos
use Rattle.sb_grammar.specs.declared.expressions.TypeTree.{TypeTree}
use Rattle.sb_grammar.specs.declared.expressions.TypeTree.TheVariants as types
use Rattle.sb_grammar.specs.declared.expressions.Expr.{Expr}
use Rattle.sb_grammar.specs.declared.expressions.Expr.TheVariants as exprs
use Rattle.sb_grammar.specs.declared.expressions.Disj.{roll-Disj}
use Rattle.sb_grammar.specs.declared.expressions.Conj.{Conj, roll-Conj}
use Rattle.sb_grammar.specs.declared.expressions.Neg.{Neg}
use Rattle.sb_grammar.specs.declared.expressions.Neg.TheVariants as negs
use Rattle.sb_grammar.specs.declared.expressions.Cmp.TheVariants as cmps
use Rattle.sb_grammar.specs.declared.expressions.CmpOp.{CmpOp}
use Rattle.sb_grammar.specs.declared.expressions.Add.{Add, roll-Add}
use Rattle.sb_grammar.specs.declared.expressions.AddRest.{AddRest}
use Rattle.sb_grammar.specs.declared.expressions.Prod.{roll-Prod}
use Rattle.sb_grammar.specs.declared.expressions.ProdRest.{ProdRest}
use Rattle.sb_grammar.specs.declared.expressions.ProdRest.TheVariants as prod_rest
use Rattle.sb_grammar.specs.declared.expressions.Unary.TheVariants as unaries
use Rattle.sb_grammar.specs.declared.expressions.Post.{roll-Post}
use Rattle.sb_grammar.specs.declared.expressions.PostStep.{PostStep}
use Rattle.sb_grammar.specs.declared.expressions.Atom.TheVariants as atoms
use Rattle.sb_syntax.specs.declared.fault.Fault.{Fault}
use Rattle.sb_syntax.specs.declared.fault.Fault.TheVariants.{NoMemory, Deep, Ended, Misfit, Spent}
use Rattle.sb_syntax.specs.declared.operators.Factor.{Factor}
use Rattle.sb_syntax.specs.declared.operators.Factor.TheVariants.{Times, Over, Modulo}
use Rattle.sb_syntax.specs.declared.operators.Sign.{Sign}
use Rattle.sb_syntax.specs.Reading.{Input, Budget, Outcome, Parser, and_then, ◌>>=◌, ◌>>◌, ◌<$>◌, pure, spend, taken_by, take_token, take_with}
use Rattle.sb_syntax.specs.Reading.{refuse, refusal, refusal_at, too_deep, ahead, sees, sees_word, expect, expect_word}
use Rattle.sb_syntax.specs.Reading as p
use Rattle.sb_syntax.specs.Types as kd
use Rattle.sb_syntax.specs.Expressions as x
use Rattle.sb_syntax.specs.Expressions.{is_call}
use Rattle.sb_syntax.specs.Statements as st
use Rattle.sb_tokens.specs.Lexed.{Lexed}
use Rattle.sb_grammar.specs.declared.code.Code.TheVariants as code
use Rattle.sb_grammar.specs.declared.programs.Program.{Program}
use Rattle.sb_tokens.specs.declared.symbol.Symbol.{Symbol}
use Rattle.sb_syntax.specs.Programs.{Ends, IsAnswered, code_of, stopped, start_of, is_done, begins_statement, fresh, one_more, with_head, behind_head, program}
use Rattle.sb_syntax.specs.Programs as pr
use Rattle.sb_syntax.proofs.Says.{spends_less}

-- ---- parsers that go no deeper than the room that is left

-- a fault that a token or the end is the cause of
abbrev IsStop : Fault → Type 0
IsStop Ended = Unit {0}
IsStop Misfit = Unit {0}
IsStop Spent = Unit {0}
IsStop _ = ⊥

abbrev Quiet : {A : Type 0} → Input → Outcome A → Type 0
Quiet i (Ok q) = q.1.budget.room ≤ i.budget.room
Quiet i (Err e) = IsStop e.0

-- with less room than this the parser doesn't answer that it is too deep, and it gives no room back
pub record Calm {A : Type 0} (n : ℕ) (q : Parser A) : Type 0 where
  pub calm : (i : Input) → i.budget.room < n → Quiet i (q i)

behind : {B : Type 0} (i j : Input) (o : Outcome B) → j.budget.room ≤ i.budget.room → Quiet j o → Quiet i o
behind i j (Ok q) h k = omega (arith, h, k)
behind i j (Err e) h k = k

bound : {A B : Type 0} (n : ℕ) (i : Input) (o : Outcome A) (f : A → Parser B) → i.budget.room < n → Quiet i o → ((a : A) → Calm n (f a)) → Quiet i
    (and_then o f)
bound n i (Ok q) f room h g = behind i q.1 (f q.0 q.1) h ((g q.0).calm q.1 (omega (arith, room, h)))
bound n i (Err e) f room h g = h

both : {A B : Type 0} {n : ℕ} (q : Parser A) (f : A → Parser B) → Calm n q → ((a : A) → Calm n (f a)) → Calm n (q >>= f)
both {n = n} q f c g = record { calm = λ i room. bound n i (q i) f room (c.calm i room) g }

gives : {A : Type 0} {n : ℕ} (a : A) → Calm n (pure a)
gives a = record { calm = λ i room. omega arith }

less : {A : Type 0} {n : ℕ} (m' : ℕ) (q : Parser A) → n ≤ m' → Calm m' q → Calm n q
less m' q h c = record { calm = λ i room. c.calm i (omega (arith, h, room)) }

not_deep : (places : List (ℕ × Token)) → IsStop (refusal_at places)
not_deep [] = tt
not_deep (_ ∷ places) = tt

refused : {A : Type 0} (n : ℕ) → Calm {A = A} n refuse
unfolding refusal
refused n = record { calm = λ i room. not_deep i.places }

chosen : {A : Type 0} (i : Input) (b : Bool) (o u : Outcome A) → Quiet i o → Quiet i u → Quiet i (if b then o else u)
chosen i true o u h k = h
chosen i false o u h k = k

either : {A : Type 0} {n : ℕ} (b : Input → Bool) (q r : Parser A) → Calm n q → Calm n r → Calm n (λ i. if b i then q i else r i)
either b q r c d = record { calm = λ i room. chosen i (b i) (q i) (r i) (c.calm i room) (d.calm i room) }

seen : {A T : Type 0} {n : ℕ} (of : Option Token → T) (f : T → Parser A) → ((y : T) → Calm n (f y)) → Calm n (λ i. f (of (ahead i)) i)
seen of f c = record { calm = λ i room. (c (of (ahead i))).calm i room }

-- ---- a token is taken

-- behind one that is taken there is less room
abbrev Took : Input → Outcome (Unit {0}) → Type 0
Took i (Ok q) = q.1.budget.room + 1 ≡ i.budget.room
Took i (Err e) = IsStop e.0

took_by : (i : Input) (o : Option Budget) → spend i.budget ≡ o → Took i (taken_by o i)
took_by i None e = tt
took_by i (Some b) e = (spends_less i.budget b e).0

took : (i : Input) → Took i (take_token i)
unfolding take_token
took i = took_by i (spend i.budget) refl

take_bound : {B : Type 0} (n : ℕ) (i : Input) (o : Outcome (Unit {0})) (q : Parser B) → i.budget.room < suc n → Took i o → Calm n q → Quiet i
    (and_then o (λ _. q))
take_bound n i (Ok r) q room h c = behind i r.1 (q r.1) (omega (arith, h)) (c.calm r.1 (omega (arith, room, h)))
take_bound n i (Err e) q room h c = h

-- what stands behind a token may be less calm by one
take_then : {B : Type 0} {n : ℕ} (q : Parser B) → Calm n q → Calm (suc n) (take_token >> q)
take_then {n = n} q c = record { calm = λ i room. take_bound n i (take_token i) q room (took i) c }

same_outcome : {A B C : Type 0} (o : Outcome A) (q : Parser B) (f : B → Parser C) → and_then (and_then o (λ _. q)) f ≡ and_then o (λ _. q >>= f)
same_outcome (Ok r) q f = refl
same_outcome (Err e) q f = refl

take_both : {B C : Type 0} {n : ℕ} (q : Parser B) (f : B → Parser C) → Calm n (q >>= f) → Calm (suc n) ((take_token >> q) >>= f)
take_both {n = n} q f c = record {
  calm = λ i room. subst (Quiet i) (sym (same_outcome (take_token i) q f)) (take_bound n i (take_token i)
      (q >>= f) room (took i) c);
}

took_quiet : (i : Input) (o : Outcome (Unit {0})) → Took i o → Quiet i o
took_quiet i (Ok r) h = omega (arith, h)
took_quiet i (Err e) h = h

takes : (n : ℕ) → Calm n take_token
takes n = record { calm = λ i room. took_quiet i (take_token i) (took i) }

taken_with : {A : Type 0} (n : ℕ) (o : Option A) → Calm n (take_with o)
taken_with n None = refused n
taken_with n (Some a) = both take_token (λ _. pure a) (takes n) (λ _. gives a)

calm_expect : (n : ℕ) (w : Symbol) → Calm n (expect w)
unfolding expect
calm_expect n w = either (sees w) take_token refuse (takes n) (refused n)

calm_expect_word : (n : ℕ) (w : Keyword) → Calm n (expect_word w)
unfolding expect_word
calm_expect_word n w = either (sees_word w) take_token refuse (takes n) (refused n)

calm_number : (n : ℕ) → Calm n p.number
unfolding p.number
calm_number n = seen p.int_in (λ o. take_with o) (taken_with n)

calm_positive : (n : ℕ) → Calm n p.positive
unfolding p.positive
calm_positive n = seen p.positive_in (λ o. take_with o) (taken_with n)

calm_a_name : (n : ℕ) → Calm n p.a_name
unfolding p.a_name
calm_a_name n = seen p.name_in (λ o. take_with o) (taken_with n)

calm_a_word : (n : ℕ) → Calm n p.a_word
unfolding p.a_word
calm_a_word n = seen p.word_in (λ o. take_with o) (taken_with n)

calm_scalar : (n : ℕ) → Calm n kd.scalar
unfolding kd.scalar
calm_scalar n = seen kd.scalar_in (λ o. take_with o) (taken_with n)

calm_plain_mono : (n : ℕ) → Calm n kd.plain_mono
unfolding kd.plain_mono
calm_plain_mono n = seen kd.plain_mono_in (λ o. take_with o) (taken_with n)

calm_post_step : (n : ℕ) → Calm n x.post_step
unfolding x.post_step
calm_post_step n = seen x.step_in (λ o. take_with o) (taken_with n)

calm_one_number : (n : ℕ) → Calm n kd.one_number
unfolding kd.one_number
calm_one_number n = both (expect m.OpenParen) (λ _. (p.number) >>= (λ a. (expect m.CloseParen) >>= (λ _. pure a))) (calm_expect n m.OpenParen)
    (λ _. both (p.number) (λ a. (expect m.CloseParen) >>= (λ _. pure a)) (calm_number n) (λ a. both (expect m.CloseParen) (λ _. pure a)
    (calm_expect n m.CloseParen) (λ _. gives a)))

calm_two_numbers : (n : ℕ) → Calm n kd.two_numbers
unfolding kd.two_numbers
calm_two_numbers n = both (expect m.OpenParen) (λ _. (p.number) >>= (λ a. (expect m.Comma) >>= (λ _. (p.number) >>= (λ b. (expect m.CloseParen) >>=
    (λ _. pure (a, b)))))) (calm_expect n m.OpenParen) (λ _. both (p.number) (λ a. (expect m.Comma) >>= (λ _. (p.number) >>= (λ b.
    (expect m.CloseParen) >>= (λ _. pure (a, b))))) (calm_number n) (λ a. both (expect m.Comma) (λ _. (p.number) >>= (λ b. (expect m.CloseParen) >>=
    (λ _. pure (a, b)))) (calm_expect n m.Comma) (λ _. both (p.number) (λ b. (expect m.CloseParen) >>= (λ _. pure (a, b))) (calm_number n)
    (λ b. both (expect m.CloseParen) (λ _. pure (a, b)) (calm_expect n m.CloseParen) (λ _. gives (a, b))))))

calm_pair_type : (n : ℕ) (part : Parser TypeTree) → Calm n part → Calm n (kd.pair_type part)
calm_pair_type n part c = both (expect m.OpenParen) (λ _. (part) >>= (λ a. (expect m.Comma) >>= (λ _. (part) >>= (λ b. (expect m.CloseParen) >>=
    (λ _. pure (types.Pair a b)))))) (calm_expect n m.OpenParen) (λ _. both (part) (λ a. (expect m.Comma) >>= (λ _. (part) >>= (λ b.
    (expect m.CloseParen) >>= (λ _. pure (types.Pair a b))))) (c) (λ a. both (expect m.Comma) (λ _. (part) >>= (λ b. (expect m.CloseParen) >>=
    (λ _. pure (types.Pair a b)))) (calm_expect n m.Comma) (λ _. both (part) (λ b. (expect m.CloseParen) >>= (λ _. pure (types.Pair a b))) (c)
    (λ b. both (expect m.CloseParen) (λ _. pure (types.Pair a b)) (calm_expect n m.CloseParen) (λ _. gives (types.Pair a b))))))

calm_option_type : (n : ℕ) (part : Parser TypeTree) → Calm n part → Calm n (kd.option_type part)
calm_option_type n part c = both (expect m.OpenParen) (λ _. (part) >>= (λ a. (expect m.CloseParen) >>= (λ _. pure (types.Opt a))))
    (calm_expect n m.OpenParen) (λ _. both (part) (λ a. (expect m.CloseParen) >>= (λ _. pure (types.Opt a))) (c) (λ a. both (expect m.CloseParen)
    (λ _. pure (types.Opt a)) (calm_expect n m.CloseParen) (λ _. gives (types.Opt a))))

calm_list_type : (n : ℕ) (part : Parser TypeTree) → Calm n part → Calm n (kd.list_type part)
calm_list_type n part c = both (expect m.OpenParen) (λ _. (part) >>= (λ a. (expect m.Comma) >>= (λ _. (p.number) >>= (λ most.
    (expect m.CloseParen) >>= (λ _. pure (types.List a most)))))) (calm_expect n m.OpenParen) (λ _. both (part) (λ a. (expect m.Comma) >>= (λ _.
    (p.number) >>= (λ most. (expect m.CloseParen) >>= (λ _. pure (types.List a most))))) (c) (λ a. both (expect m.Comma) (λ _. (p.number) >>=
    (λ most. (expect m.CloseParen) >>= (λ _. pure (types.List a most)))) (calm_expect n m.Comma) (λ _. both (p.number) (λ most.
    (expect m.CloseParen) >>= (λ _. pure (types.List a most))) (calm_number n) (λ most. both (expect m.CloseParen) (λ _. pure (types.List a most))
    (calm_expect n m.CloseParen) (λ _. gives (types.List a most))))))

type_calm : (n : ℕ) (part : Parser TypeTree) → Calm n part → Calm (suc n) (kd.type_level part)
type_calm n part c = either (sees_word k.Pair) (take_token >> kd.pair_type part) (λ i. if sees_word k.Opt i then
    (take_token >> kd.option_type part) i else (if sees_word k.List i then (take_token >> kd.list_type part) i else
    ((types.Scalar <$> kd.scalar) i))) (take_then (kd.pair_type part) (calm_pair_type n part c)) (either (sees_word k.Opt)
    (take_token >> kd.option_type part) (λ i. if sees_word k.List i then (take_token >> kd.list_type part) i else ((types.Scalar <$> kd.scalar) i))
    (take_then (kd.option_type part) (calm_option_type n part c)) (either (sees_word k.List) (take_token >> kd.list_type part)
    (types.Scalar <$> kd.scalar) (take_then (kd.list_type part) (calm_list_type n part c)) (both kd.scalar (λ a. pure (types.Scalar a)) (calm_scalar
    (suc n)) (λ a. gives (types.Scalar a)))))

pub calm_type : (n : ℕ) → Calm n (kd.a_type n)
unfolding kd.a_type
calm_type zero = record { calm = λ i room. absurd (omega (arith, room)) }
calm_type (suc n) = type_calm n (kd.a_type n) (calm_type n)

calm_pair_mono : (n : ℕ) (part : Parser MonoTree) → Calm n part → Calm n (kd.pair_mono part)
calm_pair_mono n part c = both (expect m.OpenParen) (λ _. (part) >>= (λ a. (expect m.Comma) >>= (λ _. (part) >>= (λ b. (expect m.CloseParen) >>=
    (λ _. pure (monos.Pair a b)))))) (calm_expect n m.OpenParen) (λ _. both (part) (λ a. (expect m.Comma) >>= (λ _. (part) >>= (λ b.
    (expect m.CloseParen) >>= (λ _. pure (monos.Pair a b))))) (c) (λ a. both (expect m.Comma) (λ _. (part) >>= (λ b. (expect m.CloseParen) >>=
    (λ _. pure (monos.Pair a b)))) (calm_expect n m.Comma) (λ _. both (part) (λ b. (expect m.CloseParen) >>= (λ _. pure (monos.Pair a b))) (c)
    (λ b. both (expect m.CloseParen) (λ _. pure (monos.Pair a b)) (calm_expect n m.CloseParen) (λ _. gives (monos.Pair a b))))))

calm_map_mono : (n : ℕ) (part : Parser MonoTree) → Calm n part → Calm n (kd.map_mono part)
calm_map_mono n part c = both (expect m.OpenParen) (λ _. (part) >>= (λ a. (expect m.CloseParen) >>= (λ _. pure (monos.Map a))))
    (calm_expect n m.OpenParen) (λ _. both (part) (λ a. (expect m.CloseParen) >>= (λ _. pure (monos.Map a))) (c) (λ a. both (expect m.CloseParen)
    (λ _. pure (monos.Map a)) (calm_expect n m.CloseParen) (λ _. gives (monos.Map a))))

mono_calm : (n : ℕ) (part : Parser MonoTree) → Calm n part → Calm (suc n) (kd.mono_level part)
mono_calm n part c = either (sees_word k.Top) (take_token >> (kd.one_number >>= (λ a. pure (monos.Top a)))) (λ i. if sees_word k.Cms i then
    ((take_token >> kd.two_numbers) >>= (λ q. pure (monos.Cms q.0 q.1))) i else (if sees_word k.Hll i then (take_token >> (kd.one_number >>=
    (λ a. pure (monos.Hll a)))) i else (if sees_word k.Pair i then (take_token >> kd.pair_mono part) i else (if sees_word k.Map i then
    (take_token >> kd.map_mono part) i else ((kd.plain_mono) i))))) (take_then (kd.one_number >>= (λ a. pure (monos.Top a))) (both kd.one_number
    (λ a. pure (monos.Top a)) (calm_one_number n) (λ a. gives (monos.Top a)))) (either (sees_word k.Cms) ((take_token >> kd.two_numbers) >>=
    (λ q. pure (monos.Cms q.0 q.1))) (λ i. if sees_word k.Hll i then (take_token >> (kd.one_number >>= (λ a. pure (monos.Hll a)))) i else
    (if sees_word k.Pair i then (take_token >> kd.pair_mono part) i else (if sees_word k.Map i then (take_token >> kd.map_mono part) i else
    ((kd.plain_mono) i)))) (take_both kd.two_numbers (λ q. pure (monos.Cms q.0 q.1)) (both kd.two_numbers (λ q. pure (monos.Cms q.0 q.1))
    (calm_two_numbers n) (λ q. gives (monos.Cms q.0 q.1)))) (either (sees_word k.Hll) (take_token >> (kd.one_number >>= (λ a. pure (monos.Hll a))))
    (λ i. if sees_word k.Pair i then (take_token >> kd.pair_mono part) i else (if sees_word k.Map i then (take_token >> kd.map_mono part) i else
    ((kd.plain_mono) i))) (take_then (kd.one_number >>= (λ a. pure (monos.Hll a))) (both kd.one_number (λ a. pure (monos.Hll a)) (calm_one_number n)
    (λ a. gives (monos.Hll a)))) (either (sees_word k.Pair) (take_token >> kd.pair_mono part) (λ i. if sees_word k.Map i then
    (take_token >> kd.map_mono part) i else ((kd.plain_mono) i)) (take_then (kd.pair_mono part) (calm_pair_mono n part c)) (either (sees_word k.Map)
    (take_token >> kd.map_mono part) (kd.plain_mono) (take_then (kd.map_mono part) (calm_map_mono n part c)) (calm_plain_mono (suc n))))))

pub calm_mono : (n : ℕ) → Calm n (kd.mono n)
unfolding kd.mono
calm_mono zero = record { calm = λ i room. absurd (omega (arith, room)) }
calm_mono (suc n) = mono_calm n (kd.mono n) (calm_mono n)

calm_post_steps : (n0 : ℕ) (found : List PostStep) → Calm n0 (x.post_steps n0 found)
unfolding x.post_steps
calm_post_steps zero found = record { calm = λ i room. absurd (omega (arith, room)) }
calm_post_steps (suc n0) found = either (sees m.Dot) ((take_token >> x.post_step) >>= (λ a. x.post_steps n0 (found ++ a ∷ []))) (pure found)
    (take_both x.post_step (λ a. x.post_steps n0 (found ++ a ∷ [])) (both x.post_step (λ a. x.post_steps n0 (found ++ a ∷ [])) (calm_post_step n0)
    (λ a. calm_post_steps n0 (found ++ a ∷ [])))) (gives found)

module _ (l : ℕ) (e : Parser Expr) (ce : Calm l e) where
  calm_argument : Calm l (x.argument e (suc l))
  unfolding x.argument
  calm_argument = both (expect m.OpenParen) (λ _. (e) >>= (λ a. (expect m.CloseParen) >>= (λ _. pure a))) (calm_expect l m.OpenParen) (λ _. both (e)
      (λ a. (expect m.CloseParen) >>= (λ _. pure a)) (ce) (λ a. both (expect m.CloseParen) (λ _. pure a) (calm_expect l m.CloseParen) (λ _. gives a)))

  calm_two_arguments : Calm l (x.two_arguments e (suc l))
  unfolding x.two_arguments
  calm_two_arguments = both (expect m.OpenParen) (λ _. (e) >>= (λ a. (expect m.Comma) >>= (λ _. (e) >>= (λ b. (expect m.CloseParen) >>= (λ _. pure
      (a, b)))))) (calm_expect l m.OpenParen) (λ _. both (e) (λ a. (expect m.Comma) >>= (λ _. (e) >>= (λ b. (expect m.CloseParen) >>= (λ _. pure
      (a, b))))) (ce) (λ a. both (expect m.Comma) (λ _. (e) >>= (λ b. (expect m.CloseParen) >>= (λ _. pure (a, b)))) (calm_expect l m.Comma)
      (λ _. both (e) (λ b. (expect m.CloseParen) >>= (λ _. pure (a, b))) (ce) (λ b. both (expect m.CloseParen) (λ _. pure (a, b))
      (calm_expect l m.CloseParen) (λ _. gives (a, b))))))

  type_here : Calm l (kd.a_type (suc l))
  type_here = less (suc l) (kd.a_type (suc l)) (omega arith) (calm_type (suc l))

  calm_type_argument : Calm l (x.type_argument e (suc l))
  unfolding x.type_argument
  calm_type_argument = both (expect m.OpenParen) (λ _. (kd.a_type (suc l)) >>= (λ a. (expect m.CloseParen) >>= (λ _. pure a)))
      (calm_expect l m.OpenParen) (λ _. both (kd.a_type (suc l)) (λ a. (expect m.CloseParen) >>= (λ _. pure a)) (type_here) (λ a. both
      (expect m.CloseParen) (λ _. pure a) (calm_expect l m.CloseParen) (λ _. gives a)))

  calm_words : Calm l (x.words e (suc l))
  unfolding x.words
  calm_words = both (expect m.OpenParen) (λ _. (e) >>= (λ a. (expect m.Comma) >>= (λ _. (p.positive) >>= (λ most. (expect m.CloseParen) >>=
      (λ _. pure (atoms.Words a most)))))) (calm_expect l m.OpenParen) (λ _. both (e) (λ a. (expect m.Comma) >>= (λ _. (p.positive) >>= (λ most.
      (expect m.CloseParen) >>= (λ _. pure (atoms.Words a most))))) (ce) (λ a. both (expect m.Comma) (λ _. (p.positive) >>= (λ most.
      (expect m.CloseParen) >>= (λ _. pure (atoms.Words a most)))) (calm_expect l m.Comma) (λ _. both (p.positive) (λ most.
      (expect m.CloseParen) >>= (λ _. pure (atoms.Words a most))) (calm_positive l) (λ most. both (expect m.CloseParen) (λ _. pure
      (atoms.Words a most)) (calm_expect l m.CloseParen) (λ _. gives (atoms.Words a most))))))

  calm_group : Calm l (x.group e (suc l))
  unfolding x.group
  calm_group = both e (λ a i. if sees m.Comma i then ((take_token >> e) >>= (λ b. expect m.CloseParen >>= (λ _. pure (atoms.Pair a b)))) i else
      (expect m.CloseParen >>= (λ _. pure (atoms.Group a))) i) ce (λ a. either (sees m.Comma) ((take_token >> e) >>= (λ b. expect m.CloseParen >>=
      (λ _. pure (atoms.Pair a b)))) (expect m.CloseParen >>= (λ _. pure (atoms.Group a))) (less (suc l) ((take_token >> e) >>=
      (λ b. expect m.CloseParen >>= (λ _. pure (atoms.Pair a b)))) (omega arith) (take_both e (λ b. expect m.CloseParen >>= (λ _. pure
      (atoms.Pair a b))) (both e (λ b. expect m.CloseParen >>= (λ _. pure (atoms.Pair a b))) ce (λ b. both (expect m.CloseParen) (λ _. pure
      (atoms.Pair a b)) (calm_expect l m.CloseParen) (λ _. gives (atoms.Pair a b)))))) (both (expect m.CloseParen) (λ _. pure (atoms.Group a))
      (calm_expect l m.CloseParen) (λ _. gives (atoms.Group a))))

  calm_list_end : (n0 : ℕ) → n0 ≤ suc l → (found : List Expr) → Calm n0 (x.list_end e (suc l) n0 found)
  unfolding x.list_end
  calm_list_end zero h found = record { calm = λ i room. absurd (omega (arith, room)) }
  calm_list_end (suc n0) h found = either (sees m.Comma) ((take_token >> e) >>= (λ a. x.list_end e (suc l) n0 (found ++ a ∷ [])))
      (expect m.CloseBracket >>= (λ _. pure found)) (take_both (e) (λ a. x.list_end e (suc l) n0 (found ++ a ∷ [])) (both (e) (λ a. x.list_end e
      (suc l) n0 (found ++ a ∷ [])) (less l e (omega (arith, h)) ce) (λ a. calm_list_end n0 (omega (arith, h)) (found ++ a ∷ [])))) (both
      (expect m.CloseBracket) (λ _. pure found) (calm_expect (suc n0) m.CloseBracket) (λ _. gives found))

  calm_list : Calm l (x.list e (suc l))
  unfolding x.list
  calm_list = both e (λ a. x.list_end e (suc l) (suc l) (a ∷ []) >>= (λ q. pure (atoms.List q))) ce (λ a. both (x.list_end e (suc l) (suc l)
      (a ∷ [])) (λ q. pure (atoms.List q)) (less (suc l) (x.list_end e (suc l) (suc l) (a ∷ [])) (omega arith) (calm_list_end (suc l) (omega arith)
      (a ∷ []))) (λ q. gives (atoms.List q)))

  calm_call_by : (w : Keyword) → Calm l (x.call_by e (suc l) w)
  calm_call_by k.True = gives atoms.True
  calm_call_by k.False = gives atoms.False
  calm_call_by k.It = gives atoms.It
  calm_call_by k.Empty = both (x.type_argument e (suc l)) (λ a. pure (atoms.Empty a)) calm_type_argument (λ a. gives (atoms.Empty a))
  calm_call_by k.NoneOf = both (x.type_argument e (suc l)) (λ a. pure (atoms.NoneOf a)) calm_type_argument (λ a. gives (atoms.NoneOf a))
  calm_call_by k.SomeOf = both (x.argument e (suc l)) (λ a. pure (atoms.SomeOf a)) calm_argument (λ a. gives (atoms.SomeOf a))
  calm_call_by k.Has = both (x.argument e (suc l)) (λ a. pure (atoms.Has a)) calm_argument (λ a. gives (atoms.Has a))
  calm_call_by k.Lower = both (x.argument e (suc l)) (λ a. pure (atoms.Lower a)) calm_argument (λ a. gives (atoms.Lower a))
  calm_call_by k.Len = both (x.argument e (suc l)) (λ a. pure (atoms.Len a)) calm_argument (λ a. gives (atoms.Len a))
  calm_call_by k.Orelse = both (x.two_arguments e (suc l)) (λ q. pure (atoms.Orelse q.0 q.1)) calm_two_arguments (λ q. gives (atoms.Orelse q.0 q.1))
  calm_call_by k.Starts = both (x.two_arguments e (suc l)) (λ q. pure (atoms.Starts q.0 q.1)) calm_two_arguments (λ q. gives (atoms.Starts q.0 q.1))
  calm_call_by k.Words = calm_words
  calm_call_by _ = refused l

  calm_call : (w : Keyword) → Calm (suc l) (x.call e (suc l) w)
  unfolding x.call
  calm_call w = either (λ _. is_call w) (take_token >> x.call_by e (suc l) w) refuse (take_then (x.call_by e (suc l) w) (calm_call_by w)) (refused
      (suc l))

  calm_atom_by : (o : Option Token) → Calm (suc l) (x.atom_by e (suc l) o)
  calm_atom_by (Some (t.int value)) = take_then (pure (atoms.Int value)) (gives (atoms.Int value))
  calm_atom_by (Some (t.text value)) = take_then (pure (atoms.Text value)) (gives (atoms.Text value))
  calm_atom_by (Some (t.keyword w)) = calm_call w
  calm_atom_by (Some (t.symbol m.OpenParen)) = take_then (x.group e (suc l)) calm_group
  calm_atom_by (Some (t.symbol m.OpenBracket)) = take_then (x.list e (suc l)) calm_list
  calm_atom_by _ = refused (suc l)

  calm_atom : Calm (suc l) (x.atom e (suc l))
  unfolding x.atom
  calm_atom = seen (λ o. o) (x.atom_by e (suc l)) calm_atom_by

  calm_post : Calm (suc l) (x.post e (suc l))
  unfolding x.post
  calm_post = both (x.atom e (suc l)) (λ a. (x.post_steps (suc l) []) >>= (λ found. pure (roll-Post (record { atom = a; steps = found }))))
      (calm_atom) (λ a. both (x.post_steps (suc l) []) (λ found. pure (roll-Post (record { atom = a; steps = found }))) (calm_post_steps (suc l) [])
      (λ found. gives (roll-Post (record { atom = a; steps = found }))))

  calm_unary : (n0 : ℕ) → n0 ≤ suc l → Calm n0 (x.unary e (suc l) n0)
  unfolding x.unary
  calm_unary zero h = record { calm = λ i room. absurd (omega (arith, room)) }
  calm_unary (suc n0) h = either (sees m.Minus) (take_token >> (x.unary e (suc l) n0 >>= (λ a. pure (unaries.Minus a)))) (x.post e (suc l) >>=
      (λ a. pure (unaries.Plain a))) (take_then (x.unary e (suc l) n0 >>= (λ a. pure (unaries.Minus a))) (both (x.unary e (suc l) n0) (λ a. pure
      (unaries.Minus a)) (calm_unary n0 (omega (arith, h))) (λ a. gives (unaries.Minus a)))) (less (suc l) (x.post e (suc l) >>= (λ a. pure
      (unaries.Plain a))) (omega (arith, h)) (both (x.post e (suc l)) (λ a. pure (unaries.Plain a)) calm_post (λ a. gives (unaries.Plain a))))

  calm_factor : (by : Factor) → Calm (suc l) (x.factor e (suc l) by)
  calm_factor Times = both (x.unary e (suc l) (suc l)) (λ a. pure (prod_rest.Times a)) (calm_unary (suc l) (omega arith)) (λ a. gives
      (prod_rest.Times a))
  calm_factor Over = both p.positive (λ a. pure (prod_rest.Over a)) (calm_positive (suc l)) (λ a. gives (prod_rest.Over a))
  calm_factor Modulo = both p.positive (λ a. pure (prod_rest.Modulo a)) (calm_positive (suc l)) (λ a. gives (prod_rest.Modulo a))

  calm_prod_rests_by : (n0 : ℕ) → n0 ≤ l → (more : List ProdRest → Parser (List ProdRest)) → ((found : List ProdRest) → Calm n0 (more found)) →
      (found : List ProdRest) (o : Option Factor) → Calm (suc n0) (x.prod_rests_by e (suc l) more found o)
  calm_prod_rests_by n0 h more c found None = gives found
  calm_prod_rests_by n0 h more c found (Some by) = take_both (x.factor e (suc l) by) (λ a. more (found ++ a ∷ [])) (both (x.factor e (suc l) by)
      (λ a. more (found ++ a ∷ [])) (less (suc l) (x.factor e (suc l) by) (omega (arith, h)) (calm_factor by)) (λ a. c (found ++ a ∷ [])))

  calm_prod_rests : (n0 : ℕ) → n0 ≤ suc l → (found : List ProdRest) → Calm n0 (x.prod_rests e (suc l) n0 found)
  unfolding x.prod_rests
  calm_prod_rests zero h found = record { calm = λ i room. absurd (omega (arith, room)) }
  calm_prod_rests (suc n0) h found = seen x.factor_in (x.prod_rests_by e (suc l) (x.prod_rests e (suc l) n0) found) (calm_prod_rests_by n0 (omega
      (arith, h)) (x.prod_rests e (suc l) n0) (calm_prod_rests n0 (omega (arith, h))) found)

  calm_prod : Calm (suc l) (x.prod e (suc l))
  unfolding x.prod
  calm_prod = both (x.unary e (suc l) (suc l)) (λ a. (x.prod_rests e (suc l) (suc l) []) >>= (λ found. pure (roll-Prod
      (record { first = a; rest = found })))) (calm_unary (suc l) (omega arith)) (λ a. both (x.prod_rests e (suc l) (suc l) []) (λ found. pure
      (roll-Prod (record { first = a; rest = found }))) (calm_prod_rests (suc l) (omega arith) []) (λ found. gives (roll-Prod
      (record { first = a; rest = found }))))

  calm_add_rests_by : (n0 : ℕ) → n0 ≤ l → (more : List AddRest → Parser (List AddRest)) → ((found : List AddRest) → Calm n0 (more found)) →
      (found : List AddRest) (o : Option Sign) → Calm (suc n0) (x.add_rests_by e (suc l) more found o)
  calm_add_rests_by n0 h more c found None = gives found
  calm_add_rests_by n0 h more c found (Some by) = take_both (x.prod e (suc l)) (λ a. more (found ++ x.signed by a ∷ [])) (both (x.prod e (suc l))
      (λ a. more (found ++ x.signed by a ∷ [])) (less (suc l) (x.prod e (suc l)) (omega (arith, h)) (calm_prod)) (λ a. c
      (found ++ x.signed by a ∷ [])))

  calm_add_rests : (n0 : ℕ) → n0 ≤ suc l → (found : List AddRest) → Calm n0 (x.add_rests e (suc l) n0 found)
  unfolding x.add_rests
  calm_add_rests zero h found = record { calm = λ i room. absurd (omega (arith, room)) }
  calm_add_rests (suc n0) h found = seen x.sign_in (x.add_rests_by e (suc l) (x.add_rests e (suc l) n0) found) (calm_add_rests_by n0 (omega
      (arith, h)) (x.add_rests e (suc l) n0) (calm_add_rests n0 (omega (arith, h))) found)

  calm_add : Calm (suc l) (x.add e (suc l))
  unfolding x.add
  calm_add = both (x.prod e (suc l)) (λ a. (x.add_rests e (suc l) (suc l) []) >>= (λ found. pure (roll-Add (record { first = a; rest = found }))))
      (calm_prod) (λ a. both (x.add_rests e (suc l) (suc l) []) (λ found. pure (roll-Add (record { first = a; rest = found }))) (calm_add_rests
      (suc l) (omega arith) []) (λ found. gives (roll-Add (record { first = a; rest = found }))))

  calm_compared : (a : Add) (o : Option CmpOp) → Calm (suc l) (x.compared e (suc l) a o)
  calm_compared a None = gives (cmps.Plain a)
  calm_compared a (Some operator) = less (suc (suc l)) (x.compared e (suc l) a (Some operator)) (omega arith) (take_then (x.add e (suc l) >>=
      (λ b. pure (cmps.Both operator a b))) (both (x.add e (suc l)) (λ b. pure (cmps.Both operator a b)) calm_add (λ b. gives
      (cmps.Both operator a b))))

  calm_cmp : Calm (suc l) (x.cmp e (suc l))
  unfolding x.cmp
  calm_cmp = both (x.add e (suc l)) (λ a i. x.compared e (suc l) a (x.comparison_in (ahead i)) i) calm_add (λ a. seen x.comparison_in (x.compared e
      (suc l) a) (calm_compared a))

  calm_neg : (n0 : ℕ) → n0 ≤ suc l → Calm n0 (x.neg e (suc l) n0)
  unfolding x.neg
  calm_neg zero h = record { calm = λ i room. absurd (omega (arith, room)) }
  calm_neg (suc n0) h = either (sees_word k.Not) (take_token >> (x.neg e (suc l) n0 >>= (λ a. pure (negs.Not a)))) (x.cmp e (suc l) >>= (λ a. pure
      (negs.Plain a))) (take_then (x.neg e (suc l) n0 >>= (λ a. pure (negs.Not a))) (both (x.neg e (suc l) n0) (λ a. pure (negs.Not a)) (calm_neg n0
      (omega (arith, h))) (λ a. gives (negs.Not a)))) (less (suc l) (x.cmp e (suc l) >>= (λ a. pure (negs.Plain a))) (omega (arith, h)) (both
      (x.cmp e (suc l)) (λ a. pure (negs.Plain a)) calm_cmp (λ a. gives (negs.Plain a))))

  calm_conj_rests : (n0 : ℕ) → n0 ≤ suc l → (found : List Neg) → Calm n0 (x.conj_rests e (suc l) n0 found)
  unfolding x.conj_rests
  calm_conj_rests zero h found = record { calm = λ i room. absurd (omega (arith, room)) }
  calm_conj_rests (suc n0) h found = either (sees_word k.And) ((take_token >> x.neg e (suc l) (suc l)) >>= (λ a. x.conj_rests e (suc l) n0
      (found ++ a ∷ []))) (pure found) (take_both (x.neg e (suc l) (suc l)) (λ a. x.conj_rests e (suc l) n0 (found ++ a ∷ [])) (both (x.neg e
      (suc l) (suc l)) (λ a. x.conj_rests e (suc l) n0 (found ++ a ∷ [])) (less (suc l) (x.neg e (suc l) (suc l)) (omega (arith, h)) (calm_neg
      (suc l) (omega arith))) (λ a. calm_conj_rests n0 (omega (arith, h)) (found ++ a ∷ [])))) (gives found)

  calm_conj : Calm (suc l) (x.conj e (suc l))
  unfolding x.conj
  calm_conj = both (x.neg e (suc l) (suc l)) (λ a. (x.conj_rests e (suc l) (suc l) []) >>= (λ found. pure (roll-Conj
      (record { first = a; rest = found })))) (calm_neg (suc l) (omega arith)) (λ a. both (x.conj_rests e (suc l) (suc l) []) (λ found. pure
      (roll-Conj (record { first = a; rest = found }))) (calm_conj_rests (suc l) (omega arith) []) (λ found. gives (roll-Conj
      (record { first = a; rest = found }))))

  calm_disj_rests : (n0 : ℕ) → n0 ≤ suc l → (found : List Conj) → Calm n0 (x.disj_rests e (suc l) n0 found)
  unfolding x.disj_rests
  calm_disj_rests zero h found = record { calm = λ i room. absurd (omega (arith, room)) }
  calm_disj_rests (suc n0) h found = either (sees_word k.Or) ((take_token >> x.conj e (suc l)) >>= (λ a. x.disj_rests e (suc l) n0
      (found ++ a ∷ []))) (pure found) (take_both (x.conj e (suc l)) (λ a. x.disj_rests e (suc l) n0 (found ++ a ∷ [])) (both (x.conj e (suc l))
      (λ a. x.disj_rests e (suc l) n0 (found ++ a ∷ [])) (less (suc l) (x.conj e (suc l)) (omega (arith, h)) calm_conj) (λ a. calm_disj_rests n0
      (omega (arith, h)) (found ++ a ∷ [])))) (gives found)

  calm_disj : Calm (suc l) (x.disj e (suc l))
  unfolding x.disj
  calm_disj = both (x.conj e (suc l)) (λ a. (x.disj_rests e (suc l) (suc l) []) >>= (λ found. pure (roll-Disj
      (record { first = a; rest = found })))) (calm_conj) (λ a. both (x.disj_rests e (suc l) (suc l) []) (λ found. pure (roll-Disj
      (record { first = a; rest = found }))) (calm_disj_rests (suc l) (omega arith) []) (λ found. gives (roll-Disj
      (record { first = a; rest = found }))))

  calm_choice : Calm l (x.choice e (suc l))
  unfolding x.choice
  calm_choice = both (e) (λ a. (expect_word k.Then) >>= (λ _. (e) >>= (λ b. (expect_word k.Else) >>= (λ _. (e) >>= (λ c. pure (exprs.If a b c))))))
      (ce) (λ a. both (expect_word k.Then) (λ _. (e) >>= (λ b. (expect_word k.Else) >>= (λ _. (e) >>= (λ c. pure (exprs.If a b c)))))
      (calm_expect_word l k.Then) (λ _. both (e) (λ b. (expect_word k.Else) >>= (λ _. (e) >>= (λ c. pure (exprs.If a b c)))) (ce) (λ b. both
      (expect_word k.Else) (λ _. (e) >>= (λ c. pure (exprs.If a b c))) (calm_expect_word l k.Else) (λ _. both (e) (λ c. pure (exprs.If a b c)) (ce)
      (λ c. gives (exprs.If a b c))))))

  calm_level : Calm (suc l) (x.level e (suc l))
  unfolding x.level
  calm_level = either (sees_word k.If) (take_token >> x.choice e (suc l)) (x.disj e (suc l) >>= (λ a. pure (exprs.Plain a))) (take_then (x.choice e
      (suc l)) calm_choice) (both (x.disj e (suc l)) (λ a. pure (exprs.Plain a)) calm_disj (λ a. gives (exprs.Plain a)))

-- an expression at a depth, with less room
pub calm_expr : (l : ℕ) → Calm l (x.expr (suc l))
unfolding x.expr
calm_expr zero = record { calm = λ i room. absurd (omega (arith, room)) }
calm_expr (suc l) = calm_level l (x.expr (suc l)) (calm_expr l)

-- ---- streams and statements

taken_then : {B : Type 0} {n : ℕ} (i : Input) (b : Bool) (q : Parser B) → i.budget.room < suc n → Calm n q → Quiet i (and_then
    (if b then take_token i else refuse i) (λ _. q))
unfolding refusal
taken_then {n = n} i true q room c = take_bound n i (take_token i) q room (took i) c
taken_then i false q room c = not_deep i.places

expect_then : {B : Type 0} {n : ℕ} (w : Symbol) (q : Parser B) → Calm n q → Calm (suc n) (expect w >> q)
unfolding expect
expect_then w q c = record { calm = λ i room. taken_then i (sees w i) q room c }

calm_field : (n : ℕ) → Calm n st.field
unfolding st.field
calm_field n = both (p.a_word) (λ a. (expect m.Colon) >>= (λ _. (kd.scalar) >>= (λ s. pure (record { name = a; scalar = s })))) (calm_a_word n)
    (λ a. both (expect m.Colon) (λ _. (kd.scalar) >>= (λ s. pure (record { name = a; scalar = s }))) (calm_expect n m.Colon) (λ _. both (kd.scalar)
    (λ s. pure (record { name = a; scalar = s })) (calm_scalar n) (λ s. gives (record { name = a; scalar = s }))))

calm_more_fields : (n0 : ℕ) (found : List FieldTree) → Calm n0 (st.more_fields n0 found)
unfolding st.more_fields
calm_more_fields zero found = record { calm = λ i room. absurd (omega (arith, room)) }
calm_more_fields (suc n0) found = either (sees m.Comma) ((take_token >> st.field) >>= (λ a. st.more_fields n0 (found ++ a ∷ [])))
    (expect m.CloseParen >>= (λ _. pure found)) (take_both st.field (λ a. st.more_fields n0 (found ++ a ∷ [])) (both st.field
    (λ a. st.more_fields n0 (found ++ a ∷ [])) (calm_field n0) (λ a. calm_more_fields n0 (found ++ a ∷ [])))) (both (expect m.CloseParen)
    (λ _. pure found) (calm_expect (suc n0) m.CloseParen) (λ _. gives found))

calm_fields : Calm 256 st.fields
unfolding st.fields
calm_fields = either (sees m.CloseParen) (take_token >> pure []) (st.field >>= (λ a. st.more_fields 256 (a ∷ []))) (take_then (pure []) (gives []))
    (both st.field (λ a. st.more_fields 256 (a ∷ [])) (calm_field 256) (λ a. calm_more_fields 256 (a ∷ [])))

calm_stage : Calm 256 st.stage
unfolding st.stage
calm_stage = either (sees_word k.Map) (take_token >> (x.expr 256 >>= (λ a. pure (staged.Map a)))) (λ i. if sees_word k.Filter i then (take_token >>
    (x.expr 256 >>= (λ a. pure (staged.Filter a)))) i else (if sees_word k.FlatMap i then (take_token >> (x.expr 256 >>= (λ a. pure
    (staged.FlatMap a)))) i else (if sees_word k.LeftJoin i then (take_token >> (p.a_name >>= (λ a. pure (staged.LeftJoin a)))) i else
    ((refuse) i)))) (take_then (x.expr 256 >>= (λ a. pure (staged.Map a))) (both (x.expr 256) (λ a. pure (staged.Map a)) (calm_expr 255) (λ a. gives
    (staged.Map a)))) (either (sees_word k.Filter) (take_token >> (x.expr 256 >>= (λ a. pure (staged.Filter a))))
    (λ i. if sees_word k.FlatMap i then (take_token >> (x.expr 256 >>= (λ a. pure (staged.FlatMap a)))) i else (if sees_word k.LeftJoin i then
    (take_token >> (p.a_name >>= (λ a. pure (staged.LeftJoin a)))) i else ((refuse) i))) (take_then (x.expr 256 >>= (λ a. pure (staged.Filter a)))
    (both (x.expr 256) (λ a. pure (staged.Filter a)) (calm_expr 255) (λ a. gives (staged.Filter a)))) (either (sees_word k.FlatMap) (take_token >>
    (x.expr 256 >>= (λ a. pure (staged.FlatMap a)))) (λ i. if sees_word k.LeftJoin i then (take_token >> (p.a_name >>= (λ a. pure
    (staged.LeftJoin a)))) i else ((refuse) i)) (take_then (x.expr 256 >>= (λ a. pure (staged.FlatMap a))) (both (x.expr 256) (λ a. pure
    (staged.FlatMap a)) (calm_expr 255) (λ a. gives (staged.FlatMap a)))) (either (sees_word k.LeftJoin) (take_token >> (p.a_name >>= (λ a. pure
    (staged.LeftJoin a)))) (refuse) (take_then (p.a_name >>= (λ a. pure (staged.LeftJoin a))) (both p.a_name (λ a. pure (staged.LeftJoin a))
    (calm_a_name 255) (λ a. gives (staged.LeftJoin a)))) (refused 256))))

calm_stages : (n0 : ℕ) → n0 ≤ 256 → (found : List Stage) → Calm n0 (st.stages n0 found)
unfolding st.stages
calm_stages zero h found = record { calm = λ i room. absurd (omega (arith, room)) }
calm_stages (suc n0) h found = either (sees m.Bar) ((take_token >> st.stage) >>= (λ a. st.stages n0 (found ++ a ∷ []))) (pure found)
    (take_both st.stage (λ a. st.stages n0 (found ++ a ∷ [])) (both st.stage (λ a. st.stages n0 (found ++ a ∷ [])) (less 256 st.stage (omega
    (arith, h)) calm_stage) (λ a. calm_stages n0 (omega (arith, h)) (found ++ a ∷ [])))) (gives found)

calm_behind : (a : Head) → Calm 256 (st.stream_behind a)
unfolding st.stream_behind
calm_behind a = both (st.stages 256 []) (λ found. pure (roll-Stream (record { head = a; stages = found }))) (calm_stages 256 (omega arith) [])
    (λ found. gives (roll-Stream (record { head = a; stages = found })))

calm_merge : (n : ℕ) → n ≤ 256 → (part : Parser Head) → Calm n part → Calm n (st.merge part)
calm_merge n h part c = both (expect m.OpenParen) (λ _. (part) >>= (λ a. (st.stream_behind a) >>= (λ b. (expect m.Comma) >>= (λ _. (part) >>= (λ g.
    (st.stream_behind g) >>= (λ d. (expect m.CloseParen) >>= (λ _. pure (heads.Merge b d)))))))) (calm_expect n m.OpenParen) (λ _. both (part) (λ a.
    (st.stream_behind a) >>= (λ b. (expect m.Comma) >>= (λ _. (part) >>= (λ g. (st.stream_behind g) >>= (λ d. (expect m.CloseParen) >>= (λ _. pure
    (heads.Merge b d))))))) (c) (λ a. both (st.stream_behind a) (λ b. (expect m.Comma) >>= (λ _. (part) >>= (λ g. (st.stream_behind g) >>= (λ d.
    (expect m.CloseParen) >>= (λ _. pure (heads.Merge b d)))))) (less 256 (st.stream_behind a) h (calm_behind a)) (λ b. both (expect m.Comma) (λ _.
    (part) >>= (λ g. (st.stream_behind g) >>= (λ d. (expect m.CloseParen) >>= (λ _. pure (heads.Merge b d))))) (calm_expect n m.Comma) (λ _. both
    (part) (λ g. (st.stream_behind g) >>= (λ d. (expect m.CloseParen) >>= (λ _. pure (heads.Merge b d)))) (c) (λ g. both (st.stream_behind g) (λ d.
    (expect m.CloseParen) >>= (λ _. pure (heads.Merge b d))) (less 256 (st.stream_behind g) h (calm_behind g)) (λ d. both (expect m.CloseParen)
    (λ _. pure (heads.Merge b d)) (calm_expect n m.CloseParen) (λ _. gives (heads.Merge b d))))))))

calm_head : (n0 : ℕ) → n0 ≤ 256 → Calm n0 (st.head n0)
unfolding st.head
calm_head zero h = record { calm = λ i room. absurd (omega (arith, room)) }
calm_head (suc n0) h = either (sees_word k.Merge) (take_token >> st.merge (st.head n0)) (p.a_name >>= (λ a. pure (heads.Name a))) (take_then
    (st.merge (st.head n0)) (calm_merge n0 (omega (arith, h)) (st.head n0) (calm_head n0 (omega (arith, h))))) (both p.a_name (λ a. pure
    (heads.Name a)) (calm_a_name (suc n0)) (λ a. gives (heads.Name a)))

calm_stream : Calm 256 st.stream
unfolding st.stream
calm_stream = both (st.head 256) st.stream_behind (calm_head 256 (omega arith)) calm_behind

calm_store_stage : (n0 : ℕ) → n0 ≤ 256 → (more : List Stage → Parser (List Stage × MonoTree)) → ((found : List Stage) → Calm n0 (more found)) →
    (found : List Stage) → Calm n0 (st.store_stage more found)
calm_store_stage n0 h more c found = either (sees_word k.SumByKey) ((take_token >> kd.mono 256) >>= (λ a. pure (found, a))) (st.stage >>= (λ a. more
    (found ++ a ∷ []))) (less 257 ((take_token >> kd.mono 256) >>= (λ a. pure (found, a))) (omega (arith, h)) (take_both (kd.mono 256) (λ a. pure
    (found, a)) (both (kd.mono 256) (λ a. pure (found, a)) (calm_mono 256) (λ a. gives (found, a))))) (both st.stage (λ a. more (found ++ a ∷ []))
    (less 256 st.stage h calm_stage) (λ a. c (found ++ a ∷ [])))

calm_store_stages : (n0 : ℕ) → n0 ≤ 256 → (found : List Stage) → Calm n0 (st.store_stages n0 found)
unfolding st.store_stages
calm_store_stages zero h found = record { calm = λ i room. absurd (omega (arith, room)) }
calm_store_stages (suc n0) h found = expect_then m.Bar (st.store_stage (st.store_stages n0) found) (calm_store_stage n0 (omega (arith, h))
    (st.store_stages n0) (calm_store_stages n0 (omega (arith, h))) found)

calm_source : Calm 256 st.source
unfolding st.source
calm_source = both (p.a_name) (λ a. (expect m.OpenParen) >>= (λ _. (st.fields) >>= (λ b. pure (statements.Source a b)))) (calm_a_name 256)
    (λ a. both (expect m.OpenParen) (λ _. (st.fields) >>= (λ b. pure (statements.Source a b))) (calm_expect 256 m.OpenParen) (λ _. both (st.fields)
    (λ b. pure (statements.Source a b)) (calm_fields) (λ b. gives (statements.Source a b))))

calm_service : Calm 256 st.service
unfolding st.service
calm_service = both (p.a_name) (λ a. (expect m.OpenParen) >>= (λ _. (kd.scalar) >>= (λ b. (expect m.Arrow) >>= (λ _. (kd.scalar) >>= (λ g.
    (expect m.CloseParen) >>= (λ _. pure (statements.Service a b g))))))) (calm_a_name 256) (λ a. both (expect m.OpenParen) (λ _. (kd.scalar) >>=
    (λ b. (expect m.Arrow) >>= (λ _. (kd.scalar) >>= (λ g. (expect m.CloseParen) >>= (λ _. pure (statements.Service a b g))))))
    (calm_expect 256 m.OpenParen) (λ _. both (kd.scalar) (λ b. (expect m.Arrow) >>= (λ _. (kd.scalar) >>= (λ g. (expect m.CloseParen) >>= (λ _. pure
    (statements.Service a b g))))) (calm_scalar 256) (λ b. both (expect m.Arrow) (λ _. (kd.scalar) >>= (λ g. (expect m.CloseParen) >>= (λ _. pure
    (statements.Service a b g)))) (calm_expect 256 m.Arrow) (λ _. both (kd.scalar) (λ g. (expect m.CloseParen) >>= (λ _. pure
    (statements.Service a b g))) (calm_scalar 256) (λ g. both (expect m.CloseParen) (λ _. pure (statements.Service a b g))
    (calm_expect 256 m.CloseParen) (λ _. gives (statements.Service a b g)))))))

calm_let_stream : Calm 256 st.let_stream
unfolding st.let_stream
calm_let_stream = both (p.a_name) (λ a. (expect m.Assign) >>= (λ _. (st.stream) >>= (λ b. pure (statements.Let a b)))) (calm_a_name 256) (λ a. both
    (expect m.Assign) (λ _. (st.stream) >>= (λ b. pure (statements.Let a b))) (calm_expect 256 m.Assign) (λ _. both (st.stream) (λ b. pure
    (statements.Let a b)) (calm_stream) (λ b. gives (statements.Let a b))))

calm_store : Calm 256 st.store
unfolding st.store
calm_store = both (p.a_name) (λ a. (expect m.Assign) >>= (λ _. (st.head 256) >>= (λ b. (st.store_stages 256 []) >>= (λ g. pure (statements.Store a
    (roll-Stream (record { head = b; stages = g.0 })) g.1))))) (calm_a_name 256) (λ a. both (expect m.Assign) (λ _. (st.head 256) >>= (λ b.
    (st.store_stages 256 []) >>= (λ g. pure (statements.Store a (roll-Stream (record { head = b; stages = g.0 })) g.1)))) (calm_expect 256 m.Assign)
    (λ _. both (st.head 256) (λ b. (st.store_stages 256 []) >>= (λ g. pure (statements.Store a (roll-Stream
    (record { head = b; stages = g.0 })) g.1))) (calm_head 256 (omega arith)) (λ b. both (st.store_stages 256 []) (λ g. pure (statements.Store a
    (roll-Stream (record { head = b; stages = g.0 })) g.1)) (calm_store_stages 256 (omega arith) []) (λ g. gives (statements.Store a (roll-Stream
    (record { head = b; stages = g.0 })) g.1)))))

pub calm_statement : Calm 257 st.statement
unfolding st.statement
calm_statement = either (sees_word k.Source) (take_token >> st.source) (λ i. if sees_word k.Service i then (take_token >> st.service) i else
    (if sees_word k.Let i then (take_token >> st.let_stream) i else (if sees_word k.Store i then (take_token >> st.store) i else ((refuse) i))))
    (take_then st.source calm_source) (either (sees_word k.Service) (take_token >> st.service) (λ i. if sees_word k.Let i then
    (take_token >> st.let_stream) i else (if sees_word k.Store i then (take_token >> st.store) i else ((refuse) i)))
    (take_then st.service calm_service) (either (sees_word k.Let) (take_token >> st.let_stream) (λ i. if sees_word k.Store i then
    (take_token >> st.store) i else ((refuse) i)) (take_then st.let_stream calm_let_stream) (either (sees_word k.Store) (take_token >> st.store)
    (refuse) (take_then st.store calm_store) (refused 257))))

calm_start : (n : ℕ) → Calm (suc n) st.start
unfolding st.start
calm_start n = either (sees m.Minus) ((take_token >> p.number) >>= (λ a. pure (true, a))) (p.number >>= (λ a. pure (false, a))) (take_both p.number
    (λ a. pure (true, a)) (both p.number (λ a. pure (true, a)) (calm_number n) (λ a. gives (true, a)))) (both p.number (λ a. pure (false, a))
    (calm_number (suc n)) (λ a. gives (false, a)))

pub calm_batch : Calm 257 st.batch
unfolding st.batch
calm_batch = both (expect_word k.Batch) (λ _. (p.positive) >>= (λ a. (expect_word k.From) >>= (λ _. (st.start) >>= (λ b. pure (a, b)))))
    (calm_expect_word 257 k.Batch) (λ _. both (p.positive) (λ a. (expect_word k.From) >>= (λ _. (st.start) >>= (λ b. pure (a, b))))
    (calm_positive 257) (λ a. both (expect_word k.From) (λ _. (st.start) >>= (λ b. pure (a, b))) (calm_expect_word 257 k.From) (λ _. both (st.start)
    (λ b. pure (a, b)) (calm_start 256) (λ b. gives (a, b)))))

-- ---- programs

stop_code : (fault : Fault) (i : Input) → IsStop fault → IsAnswered (stopped {A = Program} fault i)
unfolding code_of
stop_code Ended i h = tt
stop_code Misfit i h = tt
stop_code Spent i h = tt
stop_code Deep i h = absurd h
stop_code NoMemory i h = absurd h

list_code : (fault : Fault) (i : Input) → IsStop fault → IsAnswered (stopped {A = List Statement} fault i)
unfolding code_of
list_code Ended i h = tt
list_code Misfit i h = tt
list_code Spent i h = tt
list_code Deep i h = absurd h
list_code NoMemory i h = absurd h

pick : {A : Type 0} (b : Bool) (o u : Ends A) → IsAnswered o → IsAnswered u → IsAnswered (if b then o else u)
pick true o u h k = h
pick false o u h k = k

more_answered : (more : List Statement → Input → Ends (List Statement)) → ((found : List Statement) (i : Input) → IsAnswered (more found i)) →
    (found : List Statement) (i : Input) (o : Outcome Statement) → Quiet i o → IsAnswered (one_more more found o)
more_answered more c found i (Ok q) h = c (found ++ q.0 ∷ []) q.1
more_answered more c found i (Err e) h = list_code e.0 e.1 h

all_answered : (n : ℕ) (found : List Statement) (i : Input) → IsAnswered (pr.statements n found i)
unfolding pr.statements refusal
all_answered zero found i = pick (is_done i) (Ok (found, i)) _ tt (pick (begins_statement (ahead i)) (Err (Some code.Many, i)) _ tt (list_code
    (refusal_at i.places) i (not_deep i.places)))
all_answered (suc n) found i = pick (is_done i) (Ok (found, i)) _ tt (pick (begins_statement (ahead i)) (one_more (pr.statements n) found
    (st.statement (fresh i))) _
    (more_answered (pr.statements n) (all_answered n) found (fresh i) (st.statement (fresh i)) (calm_statement.calm (fresh i) (omega arith)))
    (list_code (refusal_at i.places) i (not_deep i.places)))

head_answered : (h : ℕ × (Bool × ℕ)) (o : Ends (List Statement)) → IsAnswered o → IsAnswered (with_head h o)
head_answered h (Ok q) a = tt
head_answered h (Err e) a = a

program_answered : (i : Input) (o : Outcome (ℕ × (Bool × ℕ))) → Quiet i o → IsAnswered (behind_head o)
program_answered i (Ok q) h = head_answered q.0 (pr.statements 255 [] q.1) (all_answered 255 [] q.1)
program_answered i (Err e) h = stop_code e.0 e.1 h

-- a text's program is answered, or its fault is
pub is_answered : (text : Lexed) → IsAnswered (program (start_of text))
unfolding program
is_answered text = program_answered (start_of text) (st.batch (start_of text)) (calm_batch.calm (start_of text) (omega arith))
