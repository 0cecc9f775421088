-- Streams, statements and the batch head follow the machine.
use Rattle.std.proofs.Common.{◌≡◌, ℕ, suc, zero, true, false, if◌then◌else◌, List, [], ◌∷◌, ◌++◌, refl, ap, sym, append_assoc, append-nil}
use mathlib.Core.Path.{fun_ext}
use Rattle.sb_tokens.specs.declared.keyword.Keyword.TheVariants as k
use Rattle.sb_tokens.specs.declared.symbol.Symbol.TheVariants as m
use Rattle.sb_tokens.specs.Keyword.{keyword_text}
use Rattle.sb_tokens.specs.Token.{Token}
use Rattle.sb_tokens.specs.Token as t
use Rattle.sb_grammar.specs.declared.programs.FieldTree.{FieldTree}
use Rattle.sb_grammar.specs.declared.programs.Statement.TheVariants as statements
use Rattle.sb_grammar.specs.declared.programs.Stream.{roll-Stream}
use Rattle.sb_grammar.specs.declared.programs.Head.{Head}
use Rattle.sb_grammar.specs.declared.programs.Head.TheVariants as heads
use Rattle.sb_grammar.specs.declared.programs.Stage.{Stage}
use Rattle.sb_grammar.specs.declared.programs.Stage.TheVariants as staged
use Rattle.sb_grammar.specs.Grammar.{Rule}
use Rattle.sb_grammar.specs.Grammar.{from_word, open_paren, close_paren, comma, colon, arrow, assign, number, positive, a_name, scalar, batch, start}
use Rattle.sb_grammar.specs.Grammar.{field, fields, more_fields, mono, expr, stage, stages, head, stream, store_stages, store_stage, statement}
use Rattle.sb_grammar.proofs.Machine.{Forest}
use Rattle.sb_syntax.specs.Reading.{Input, Budget, Parser, ◌>>=◌, ◌>>◌, ◌<$>◌, pure, take_token, take_with, refuse, refusal, too_deep, ahead, sees}
use Rattle.sb_syntax.specs.Reading.{sees_word, expect, expect_word}
use Rattle.sb_syntax.specs.Reading as p
use Rattle.sb_syntax.proofs.Follow.{Under, bind, from, gives, misfits, ends_here, deep, takes, Follows, by_next, at_input, follows_from_word}
use Rattle.sb_syntax.proofs.Follow.{follows_open_paren, follows_close_paren, follows_comma, follows_colon, follows_arrow, follows_assign}
use Rattle.sb_syntax.proofs.Follow.{follows_number, follows_positive, follows_a_name}
use Rattle.sb_syntax.specs.Types as kd
use Rattle.sb_syntax.specs.Expressions as ex
use Rattle.sb_syntax.specs.Statements as x
use Rattle.sb_syntax.proofs.FollowTypes.{follows_scalar, follows_mono}
use Rattle.sb_syntax.proofs.FollowExpressions.{follows_expr}

module _ (R : Type 0) where
  at_field : (o : ℕ) (u : Token) (places : List (ℕ × Token)) (b0 : Budget) (s : List Rule) (make : Forest (field ∷ s) → R) → Under R (x.field
      (record { places = (o, u) ∷ places; budget = b0 })) (λ a j. at_input R j s (λ f. make (a, f))) (at_input R (record {
        places =
            (o, u) ∷ places;
        budget = b0;
      }) (field ∷ s) make)
  unfolding x.field p.a_word ahead refusal
  at_field o (t.name n) places b0 s make = bind R (p.a_word (record { places = (o, t.name n) ∷ places; budget = b0 })) (λ a. expect m.Colon >>=
      (λ _. kd.scalar >>= (λ b. pure (record { name = a; scalar = b })))) (bind R (take_token (record {
        places =
            (o, t.name n) ∷ places;
        budget = b0;
      })) (λ _. pure n) (takes R (o, t.name n) places b0 (colon ∷ scalar ∷ s) (λ f. make
      ((record { name = n; scalar = f.1.0 }), f.1.1))) (λ _ j0. gives R n j0 (λ a j. at_input R j (colon ∷ scalar ∷ s) (λ f. make
      ((record { name = a; scalar = f.1.0 }), f.1.1))))) (λ a j0. bind R ((expect m.Colon) j0) (λ _. (kd.scalar) >>= (λ v. pure
      (record { name = a; scalar = v }))) (follows_colon R j0 (scalar ∷ s) (λ f. make ((record { name = a; scalar = f.1.0 }), f.1.1)))
      (λ _ j1. bind R ((kd.scalar) j1) (λ v. pure (record { name = a; scalar = v })) (follows_scalar R j1 s (λ f. make
      ((record { name = a; scalar = f.0 }), f.1))) (λ v j2. gives R (record { name = a; scalar = v }) j2 (λ a j. at_input R j s (λ f. make (a, f))))))
  at_field o (t.keyword w) places b0 s make = bind R (p.a_word (record { places = (o, t.keyword w) ∷ places; budget = b0 }))
      (λ a. expect m.Colon >>= (λ _. kd.scalar >>= (λ b. pure (record { name = a; scalar = b })))) (bind R (take_token (record {
        places =
            (o, t.keyword w) ∷ places;
        budget = b0;
      })) (λ _. pure (keyword_text w)) (takes R (o, t.keyword w) places b0 (colon ∷ scalar ∷ s) (λ f. make
      ((record { name = (keyword_text w); scalar = f.1.0 }), f.1.1))) (λ _ j0. gives R (keyword_text w) j0 (λ a j. at_input R j (colon ∷ scalar ∷ s)
      (λ f. make ((record { name = a; scalar = f.1.0 }), f.1.1))))) (λ a j0. bind R ((expect m.Colon) j0) (λ _. (kd.scalar) >>= (λ v. pure
      (record { name = a; scalar = v }))) (follows_colon R j0 (scalar ∷ s) (λ f. make ((record { name = a; scalar = f.1.0 }), f.1.1)))
      (λ _ j1. bind R ((kd.scalar) j1) (λ v. pure (record { name = a; scalar = v })) (follows_scalar R j1 s (λ f. make
      ((record { name = a; scalar = f.0 }), f.1))) (λ v j2. gives R (record { name = a; scalar = v }) j2 (λ a j. at_input R j s (λ f. make (a, f))))))
  at_field o u places b0 s make = misfits R (record { places = (o, u) ∷ places; budget = b0 }) (λ a j. at_input R j s (λ f. make (a, f)))

  pub follows_field : Follows R field x.field
  unfolding x.field p.a_word ahead refusal
  follows_field = by_next R field x.field (λ b0 s make. ends_here R (record { places = []; budget = b0 }) (λ a j. at_input R j s (λ f. make
      (a, f)))) at_field

  more_fields_next : (n0 : ℕ) (found : List FieldTree) → ((found' : List FieldTree) (i : Input) (s : List Rule) (make : Forest (more_fields ∷ s)
      → R) → Under R (x.more_fields n0 found' i) (λ a j. at_input R j s (λ f. make (a, f))) (at_input R i (more_fields ∷ s) (λ f. make
      (found' ++ f.0, f.1)))) → (o : ℕ) (u : Token) (places : List (ℕ × Token)) (b0 : Budget) (s : List Rule) (make : Forest (more_fields ∷ s) → R)
      → Under R (x.more_fields (suc n0) found (record { places = (o, u) ∷ places; budget = b0 })) (λ a j. at_input R j s (λ f. make (a, f)))
      (at_input R (record { places = (o, u) ∷ places; budget = b0 }) (more_fields ∷ s) (λ f. make (found ++ f.0, f.1)))
  unfolding x.more_fields sees expect ahead refusal
  more_fields_next n0 found more o (t.symbol m.Comma) places b0 s make = bind R ((take_token >>= (λ _. (x.field))) (record {
    places =
        (o, t.symbol m.Comma) ∷ places;
    budget = b0;
  })) (λ a. x.more_fields n0 (found ++ a ∷ [])) (bind R (take_token (record {
    places =
        (o, t.symbol m.Comma) ∷ places;
    budget = b0;
  })) (λ _. (x.field)) (takes R (o, t.symbol m.Comma) places b0 (field ∷ more_fields ∷ s) (λ f. make
      (found ++ (f.0 ∷ f.1.0), f.1.1))) (λ _ j0. follows_field j0 (more_fields ∷ s) (λ f. make (found ++ (f.0 ∷ f.1.0), f.1.1)))) (λ a j1. from R
      (x.more_fields n0 (found ++ a ∷ []) j1) _ _ (ap (λ g. at_input R j1 (more_fields ∷ s) (λ f. make (g f.0, f.1))) (fun_ext (λ l. sym
      (append_assoc found (a ∷ []) l)))) (more (found ++ a ∷ []) j1 s make))
  more_fields_next n0 found more o (t.symbol m.CloseParen) places b0 s make = bind R (take_token (record {
    places =
        (o, t.symbol m.CloseParen) ∷ places;
    budget = b0;
  })) (λ _. pure found) (takes R (o, t.symbol m.CloseParen) places b0 s (λ f. make
      (found ++ [], f))) (λ _ j0. from R (pure found j0) _ _ (ap (λ l. at_input R j0 s (λ f. make (l, f))) (append-nil found)) (gives R found j0
      (λ a j. at_input R j s (λ f. make (a, f)))))
  more_fields_next n0 found more o u places b0 s make = misfits R (record { places = (o, u) ∷ places; budget = b0 }) (λ a j. at_input R j s
      (λ f. make (a, f)))

  more_fields_at : (n0 : ℕ) (found : List FieldTree) → ((found' : List FieldTree) (i : Input) (s : List Rule) (make : Forest (more_fields ∷ s) → R)
      → Under R (x.more_fields n0 found' i) (λ a j. at_input R j s (λ f. make (a, f))) (at_input R i (more_fields ∷ s) (λ f. make
      (found' ++ f.0, f.1)))) → (places : List (ℕ × Token)) (b0 : Budget) (s : List Rule) (make : Forest (more_fields ∷ s) → R) → Under R
      (x.more_fields (suc n0) found (record { places = places; budget = b0 })) (λ a j. at_input R j s (λ f. make (a, f))) (at_input R
      (record { places = places; budget = b0 }) (more_fields ∷ s) (λ f. make (found ++ f.0, f.1)))
  unfolding x.more_fields sees expect ahead refusal
  more_fields_at n0 found more [] b0 s make = ends_here R (record { places = []; budget = b0 }) (λ a j. at_input R j s (λ f. make (a, f)))
  more_fields_at n0 found more (place ∷ places) b0 s make = more_fields_next n0 found more place.0 place.1 places b0 s make

  pub follows_more_fields : (n0 : ℕ) (found : List FieldTree) (i : Input) (s : List Rule) (make : Forest (more_fields ∷ s) → R) → Under R
      (x.more_fields n0 found i) (λ a j. at_input R j s (λ f. make (a, f))) (at_input R i (more_fields ∷ s) (λ f. make (found ++ f.0, f.1)))
  unfolding x.more_fields sees expect ahead refusal
  follows_more_fields zero found i s make = deep R i (λ a j. at_input R j s (λ f. make (a, f))) (at_input R i (more_fields ∷ s) (λ f. make
      (found ++ f.0, f.1)))
  follows_more_fields (suc n0) found i s make = more_fields_at n0 found (follows_more_fields n0) i.places i.budget s make

  at_fields : (o : ℕ) (u : Token) (places : List (ℕ × Token)) (b0 : Budget) (s : List Rule) (make : Forest (fields ∷ s) → R) → Under R (x.fields
      (record { places = (o, u) ∷ places; budget = b0 })) (λ a j. at_input R j s (λ f. make (a, f))) (at_input R (record {
        places =
            (o, u) ∷ places;
        budget = b0;
      }) (fields ∷ s) make)
  unfolding x.fields sees ahead
  at_fields o (t.symbol m.CloseParen) places b0 s make = bind R (take_token (record { places = (o, t.symbol m.CloseParen) ∷ places; budget = b0 }))
      (λ _. pure []) (takes R (o, t.symbol m.CloseParen) places b0 s (λ f. make ([], f))) (λ _ j0. gives R [] j0 (λ a j. at_input R j s (λ f. make
      (a, f))))
  at_fields o u places b0 s make = bind R (x.field (record { places = (o, u) ∷ places; budget = b0 })) (λ a. x.more_fields 256 (a ∷ []))
      (follows_field (record { places = (o, u) ∷ places; budget = b0 }) (more_fields ∷ s) (λ f. make ((f.0 ∷ f.1.0), f.1.1)))
      (λ a j1. follows_more_fields 256 (a ∷ []) j1 s make)

  pub follows_fields : Follows R fields x.fields
  unfolding x.fields sees ahead
  follows_fields = by_next R fields x.fields (λ b0 s make. bind R (x.field (record { places = []; budget = b0 })) (λ a. x.more_fields 256 (a ∷ []))
      (follows_field (record { places = []; budget = b0 }) (more_fields ∷ s) (λ f. make ((f.0 ∷ f.1.0), f.1.1))) (λ a j1. follows_more_fields 256
      (a ∷ []) j1 s make)) at_fields

  at_stage : (o : ℕ) (u : Token) (places : List (ℕ × Token)) (b0 : Budget) (s : List Rule) (make : Forest (stage ∷ s) → R) → Under R (x.stage
      (record { places = (o, u) ∷ places; budget = b0 })) (λ a j. at_input R j s (λ f. make (a, f))) (at_input R (record {
        places =
            (o, u) ∷ places;
        budget = b0;
      }) (stage ∷ s) make)
  unfolding x.stage sees_word ahead refusal
  at_stage o (t.keyword k.Map) places b0 s make = bind R (take_token (record { places = (o, t.keyword k.Map) ∷ places; budget = b0 })) (λ _.
      (ex.expr 256) >>= (λ a. pure (staged.Map a))) (takes R (o, t.keyword k.Map) places b0 (expr ∷ s) (λ f. make ((staged.Map f.0), f.1)))
      (λ _ j0. bind R ((ex.expr 256) j0) (λ a. pure (staged.Map a)) (follows_expr R 256 j0 s (λ f. make ((staged.Map f.0), f.1))) (λ a j1. gives R
      (staged.Map a) j1 (λ a j. at_input R j s (λ f. make (a, f)))))
  at_stage o (t.keyword k.Filter) places b0 s make = bind R (take_token (record { places = (o, t.keyword k.Filter) ∷ places; budget = b0 })) (λ _.
      (ex.expr 256) >>= (λ a. pure (staged.Filter a))) (takes R (o, t.keyword k.Filter) places b0 (expr ∷ s) (λ f. make ((staged.Filter f.0), f.1)))
      (λ _ j0. bind R ((ex.expr 256) j0) (λ a. pure (staged.Filter a)) (follows_expr R 256 j0 s (λ f. make ((staged.Filter f.0), f.1)))
      (λ a j1. gives R (staged.Filter a) j1 (λ a j. at_input R j s (λ f. make (a, f)))))
  at_stage o (t.keyword k.FlatMap) places b0 s make = bind R (take_token (record { places = (o, t.keyword k.FlatMap) ∷ places; budget = b0 })) (λ _.
      (ex.expr 256) >>= (λ a. pure (staged.FlatMap a))) (takes R (o, t.keyword k.FlatMap) places b0 (expr ∷ s) (λ f. make
      ((staged.FlatMap f.0), f.1))) (λ _ j0. bind R ((ex.expr 256) j0) (λ a. pure (staged.FlatMap a)) (follows_expr R 256 j0 s (λ f. make
      ((staged.FlatMap f.0), f.1))) (λ a j1. gives R (staged.FlatMap a) j1 (λ a j. at_input R j s (λ f. make (a, f)))))
  at_stage o (t.keyword k.LeftJoin) places b0 s make = bind R (take_token (record { places = (o, t.keyword k.LeftJoin) ∷ places; budget = b0 }))
      (λ _. (p.a_name) >>= (λ a. pure (staged.LeftJoin a))) (takes R (o, t.keyword k.LeftJoin) places b0 (a_name ∷ s) (λ f. make
      ((staged.LeftJoin f.0), f.1))) (λ _ j0. bind R ((p.a_name) j0) (λ a. pure (staged.LeftJoin a)) (follows_a_name R j0 s (λ f. make
      ((staged.LeftJoin f.0), f.1))) (λ a j1. gives R (staged.LeftJoin a) j1 (λ a j. at_input R j s (λ f. make (a, f)))))
  at_stage o u places b0 s make = misfits R (record { places = (o, u) ∷ places; budget = b0 }) (λ a j. at_input R j s (λ f. make (a, f)))

  pub follows_stage : Follows R stage (x.stage)
  unfolding x.stage sees_word ahead refusal
  follows_stage = by_next R stage (x.stage) (λ b0 s make. ends_here R (record { places = []; budget = b0 }) (λ a j. at_input R j s (λ f. make
      (a, f)))) at_stage

  stages_next : (n0 : ℕ) (found : List Stage) → ((found' : List Stage) (i : Input) (s : List Rule) (make : Forest (stages ∷ s) → R) → Under R
      (x.stages n0 found' i) (λ a j. at_input R j s (λ f. make (a, f))) (at_input R i (stages ∷ s) (λ f. make (found' ++ f.0, f.1)))) → (o : ℕ)
      (u : Token) (places : List (ℕ × Token)) (b0 : Budget) (s : List Rule) (make : Forest (stages ∷ s) → R) → Under R (x.stages (suc n0) found
      (record { places = (o, u) ∷ places; budget = b0 })) (λ a j. at_input R j s (λ f. make (a, f))) (at_input R (record {
        places =
            (o, u) ∷ places;
        budget = b0;
      }) (stages ∷ s) (λ f. make (found ++ f.0, f.1)))
  unfolding x.stages sees ahead refusal
  stages_next n0 found more o (t.symbol m.Bar) places b0 s make = bind R ((take_token >>= (λ _. (x.stage))) (record {
    places =
        (o, t.symbol m.Bar) ∷ places;
    budget = b0;
  })) (λ a. x.stages n0 (found ++ a ∷ [])) (bind R (take_token (record {
    places =
        (o, t.symbol m.Bar) ∷ places;
    budget = b0;
  })) (λ _. (x.stage)) (takes R (o, t.symbol m.Bar) places b0 (stage ∷ stages ∷ s) (λ f. make
      (found ++ (f.0 ∷ f.1.0), f.1.1))) (λ _ j0. follows_stage j0 (stages ∷ s) (λ f. make (found ++ (f.0 ∷ f.1.0), f.1.1)))) (λ a j1. from R
      (x.stages n0 (found ++ a ∷ []) j1) _ _ (ap (λ g. at_input R j1 (stages ∷ s) (λ f. make (g f.0, f.1))) (fun_ext (λ l. sym (append_assoc found
      (a ∷ []) l)))) (more (found ++ a ∷ []) j1 s make))
  stages_next n0 found more o u places b0 s make = from R (pure found (record { places = (o, u) ∷ places; budget = b0 })) _ _ (ap (λ l. at_input R
      (record { places = (o, u) ∷ places; budget = b0 }) s (λ f. make (l, f))) (append-nil found)) (gives R found (record {
        places =
            (o, u) ∷ places;
        budget = b0;
      }) (λ a j. at_input R j s (λ f. make (a, f))))

  stages_at : (n0 : ℕ) (found : List Stage) → ((found' : List Stage) (i : Input) (s : List Rule) (make : Forest (stages ∷ s) → R) → Under R
      (x.stages n0 found' i) (λ a j. at_input R j s (λ f. make (a, f))) (at_input R i (stages ∷ s) (λ f. make (found' ++ f.0, f.1)))) →
      (places : List (ℕ × Token)) (b0 : Budget) (s : List Rule) (make : Forest (stages ∷ s) → R) → Under R (x.stages (suc n0) found
      (record { places = places; budget = b0 })) (λ a j. at_input R j s (λ f. make (a, f))) (at_input R (record { places = places; budget = b0 })
      (stages ∷ s) (λ f. make (found ++ f.0, f.1)))
  unfolding x.stages sees ahead refusal
  stages_at n0 found more [] b0 s make = from R (pure found (record { places = []; budget = b0 })) _ _ (ap (λ l. at_input R
      (record { places = []; budget = b0 }) s (λ f. make (l, f))) (append-nil found)) (gives R found (record { places = []; budget = b0 })
      (λ a j. at_input R j s (λ f. make (a, f))))
  stages_at n0 found more (place ∷ places) b0 s make = stages_next n0 found more place.0 place.1 places b0 s make

  pub follows_stages : (n0 : ℕ) (found : List Stage) (i : Input) (s : List Rule) (make : Forest (stages ∷ s) → R) → Under R (x.stages n0 found i)
      (λ a j. at_input R j s (λ f. make (a, f))) (at_input R i (stages ∷ s) (λ f. make (found ++ f.0, f.1)))
  unfolding x.stages sees ahead refusal
  follows_stages zero found i s make = deep R i (λ a j. at_input R j s (λ f. make (a, f))) (at_input R i (stages ∷ s) (λ f. make (found ++ f.0, f.1)))
  follows_stages (suc n0) found i s make = stages_at n0 found (follows_stages n0) i.places i.budget s make

  under_stream : (h : Head) (i : Input) (s : List Rule) (make : Forest (stream ∷ s) → R) → Under R (x.stream_behind h i) (λ a j. at_input R j s
      (λ f. make (a, f))) (at_input R i (stages ∷ s) (λ f. make ((roll-Stream (record { head = h; stages = f.0 })), f.1)))
  unfolding x.stream_behind
  under_stream h i s make = bind R (x.stages 256 [] i) (λ found. pure (roll-Stream (record { head = h; stages = found })))
      (follows_stages 256 [] i s (λ f. make ((roll-Stream (record { head = h; stages = f.0 })), f.1))) (λ found j. gives R (roll-Stream
      (record { head = h; stages = found })) j (λ a j. at_input R j s (λ f. make (a, f))))

  lead_stream : (places : List (ℕ × Token)) (b0 : Budget) (s : List Rule) (make : Forest (stream ∷ s) → R) → at_input R
      (record { places = places; budget = b0 }) (stream ∷ s) make ≡ at_input R (record { places = places; budget = b0 }) (head ∷ stages ∷ s)
      (λ f. make ((roll-Stream (record { head = f.0; stages = f.1.0 })), f.1.1))
  lead_stream [] b0 s make = refl
  lead_stream (place ∷ places) b0 s make = refl

  follows_a_stream : (part : Parser Head) (hyp : Follows R head part) → Follows R stream (part >>= x.stream_behind)
  follows_a_stream part hyp i s make = from R ((part >>= x.stream_behind) i) _ _ (lead_stream i.places i.budget s make) (bind R
      (part i) x.stream_behind (hyp i (stages ∷ s) (λ f. make ((roll-Stream (record { head = f.0; stages = f.1.0 })), f.1.1)))
      (λ a j. under_stream a j s make))

  abbrev head_level : Parser Head → Parser Head
  head_level part i = if sees_word k.Merge i then (take_token >> x.merge part) i else (heads.Name <$> p.a_name) i

  at_head : (part : Parser Head) (hyp : Follows R head part) → (o : ℕ) (u : Token) (places : List (ℕ × Token)) (b0 : Budget) (s : List Rule)
      (make : Forest (head ∷ s) → R) → Under R (head_level part (record { places = (o, u) ∷ places; budget = b0 })) (λ a j. at_input R j s
      (λ f. make (a, f))) (at_input R (record { places = (o, u) ∷ places; budget = b0 }) (head ∷ s) make)
  unfolding sees_word ahead refusal p.a_name
  at_head part hyp o (t.name n) places b0 s make = bind R (p.a_name (record { places = (o, t.name n) ∷ places; budget = b0 })) (λ a. pure
      (heads.Name a)) (bind R (take_token (record { places = (o, t.name n) ∷ places; budget = b0 })) (λ _. pure n) (takes R
      (o, t.name n) places b0 s (λ f. make (heads.Name n, f))) (λ _ j0. gives R n j0 (λ a j. at_input R j s (λ f. make (heads.Name a, f)))))
      (λ a j1. gives R (heads.Name a) j1 (λ a j. at_input R j s (λ f. make (a, f))))
  at_head part hyp o (t.keyword k.Merge) places b0 s make = bind R (take_token (record { places = (o, t.keyword k.Merge) ∷ places; budget = b0 }))
      (λ _. x.merge part) (takes R (o, t.keyword k.Merge) places b0 (open_paren ∷ stream ∷ comma ∷ stream ∷ close_paren ∷ s) (λ f. make
      (heads.Merge f.1.0 f.1.1.1.0, f.1.1.1.1.1))) (λ _ j0. bind R (expect m.OpenParen j0) (λ _. part >>= (λ a. x.stream_behind a >>=
      (λ b. expect m.Comma >>= (λ _. part >>= (λ c. x.stream_behind c >>= (λ d. expect m.CloseParen >>= (λ _. pure (heads.Merge b d))))))))
      (follows_open_paren R j0 (stream ∷ comma ∷ stream ∷ close_paren ∷ s) (λ f. make (heads.Merge f.1.0 f.1.1.1.0, f.1.1.1.1.1))) (λ _ j1. from R
      ((part >>= (λ a. x.stream_behind a >>= (λ b. expect m.Comma >>= (λ _. part >>= (λ c. x.stream_behind c >>= (λ d. expect m.CloseParen >>=
      (λ _. pure (heads.Merge b d)))))))) j1) _ _ (lead_stream j1.places j1.budget (comma ∷ stream ∷ close_paren ∷ s) (λ f. make
      (heads.Merge f.0 f.1.1.0, f.1.1.1.1))) (bind R (part j1) (λ a. x.stream_behind a >>= (λ b. expect m.Comma >>= (λ _. part >>=
      (λ c. x.stream_behind c >>= (λ d. expect m.CloseParen >>= (λ _. pure (heads.Merge b d))))))) (hyp j1
      (stages ∷ comma ∷ stream ∷ close_paren ∷ s) (λ f. make (
        heads.Merge (roll-Stream
            (record { head = f.0; stages = f.1.0 })) f.1.1.1.0,
        f.1.1.1.1.1,
      ))) (λ a j2. bind R (x.stream_behind a j2) (λ b. expect m.Comma >>=
      (λ _. part >>= (λ c. x.stream_behind c >>= (λ d. expect m.CloseParen >>= (λ _. pure (heads.Merge b d)))))) (under_stream a j2
      (comma ∷ stream ∷ close_paren ∷ s) (λ f. make (heads.Merge f.0 f.1.1.0, f.1.1.1.1))) (λ b j3. bind R (expect m.Comma j3) (λ _. part >>=
      (λ c. x.stream_behind c >>= (λ d. expect m.CloseParen >>= (λ _. pure (heads.Merge b d))))) (follows_comma R j3 (stream ∷ close_paren ∷ s)
      (λ f. make (heads.Merge b f.1.0, f.1.1.1))) (λ _ j4. from R ((part >>= (λ c. x.stream_behind c >>= (λ d. expect m.CloseParen >>= (λ _. pure
      (heads.Merge b d))))) j4) _ _ (lead_stream j4.places j4.budget (close_paren ∷ s) (λ f. make (heads.Merge b f.0, f.1.1))) (bind R (part j4)
      (λ c. x.stream_behind c >>= (λ d. expect m.CloseParen >>= (λ _. pure (heads.Merge b d)))) (hyp j4 (stages ∷ close_paren ∷ s) (λ f. make
      (heads.Merge b (roll-Stream (record { head = f.0; stages = f.1.0 })), f.1.1.1))) (λ c j5. bind R (x.stream_behind c j5)
      (λ d. expect m.CloseParen >>= (λ _. pure (heads.Merge b d))) (under_stream c j5 (close_paren ∷ s) (λ f. make (heads.Merge b f.0, f.1.1)))
      (λ d j6. bind R (expect m.CloseParen j6) (λ _. pure (heads.Merge b d)) (follows_close_paren R j6 s (λ f. make (heads.Merge b d, f.1)))
      (λ _ j7. gives R (heads.Merge b d) j7 (λ a j. at_input R j s (λ f. make (a, f)))))))))))))
  at_head part hyp o u places b0 s make = misfits R (record { places = (o, u) ∷ places; budget = b0 }) (λ a j. at_input R j s (λ f. make (a, f)))

  pub follows_head : (n0 : ℕ) → Follows R head (x.head n0)
  unfolding x.head sees_word ahead refusal p.a_name
  follows_head zero i s make = deep R i (λ a j. at_input R j s (λ f. make (a, f))) (at_input R i (head ∷ s) make)
  follows_head (suc n0) i s make = by_next R head (x.head (suc n0)) (λ b0 s make. ends_here R (record { places = []; budget = b0 })
      (λ a j. at_input R j s (λ f. make (a, f)))) (at_head (x.head n0) (follows_head n0)) i s make

  pub follows_stream : Follows R stream x.stream
  unfolding x.stream
  follows_stream = follows_a_stream (x.head 256) (follows_head 256)

  store_next : (n0 : ℕ) (found : List Stage) → ((found' : List Stage) (i : Input) (s : List Rule) (make : Forest (store_stages ∷ s) → R) → Under R
      (x.store_stages n0 found' i) (λ a j. at_input R j s (λ f. make (a, f))) (at_input R i (store_stages ∷ s) (λ f. make
      ((found' ++ f.0.0, f.0.1), f.1)))) → (o : ℕ) (u : Token) (places : List (ℕ × Token)) (b0 : Budget) (s : List Rule) (make : Forest
      (store_stages ∷ s) → R) → Under R (x.store_stage (x.store_stages n0) found (record { places = (o, u) ∷ places; budget = b0 }))
      (λ a j. at_input R j s (λ f. make (a, f))) (at_input R (record { places = (o, u) ∷ places; budget = b0 }) (store_stage ∷ s) (λ f. make
      ((found ++ f.0.0, f.0.1), f.1)))
  unfolding x.stage sees_word ahead refusal
  store_next n0 found more o (t.keyword k.Map) places b0 s make = bind R (x.stage (record { places = (o, t.keyword k.Map) ∷ places; budget = b0 }))
      (λ a. x.store_stages n0 (found ++ a ∷ [])) (bind R (take_token (record { places = (o, t.keyword k.Map) ∷ places; budget = b0 })) (λ _.
      (ex.expr 256) >>= (λ v. pure (staged.Map v))) (takes R (o, t.keyword k.Map) places b0 (expr ∷ store_stages ∷ s) (λ f. make (
        (
          found ++
              (staged.Map f.0 ∷ f.1.0.0),
          f.1.0.1,
        ),
        f.1.1,
      ))) (λ _ j0. bind R ((ex.expr 256) j0) (λ v. pure (staged.Map v)) (follows_expr R 256 j0
      (store_stages ∷ s) (λ f. make ((found ++ (staged.Map f.0 ∷ f.1.0.0), f.1.0.1), f.1.1))) (λ v j1. gives R (staged.Map v) j1
      (λ a j. at_input R j (store_stages ∷ s) (λ f. make ((found ++ (a ∷ f.0.0), f.0.1), f.1)))))) (λ a j1. from R (x.store_stages n0
      (found ++ a ∷ []) j1) _ _ (ap (λ g. at_input R j1 (store_stages ∷ s) (λ f. make ((g f.0.0, f.0.1), f.1))) (fun_ext (λ l. sym
      (append_assoc found (a ∷ []) l)))) (more (found ++ a ∷ []) j1 s make))
  store_next n0 found more o (t.keyword k.Filter) places b0 s make = bind R (x.stage (record {
    places =
        (o, t.keyword k.Filter) ∷ places;
    budget = b0;
  })) (λ a. x.store_stages n0 (found ++ a ∷ [])) (bind R (take_token (record {
    places =
        (o, t.keyword k.Filter) ∷ places;
    budget = b0;
  })) (λ _. (ex.expr 256) >>= (λ v. pure (staged.Filter v))) (takes R
      (o, t.keyword k.Filter) places b0 (expr ∷ store_stages ∷ s) (λ f. make ((found ++ (staged.Filter f.0 ∷ f.1.0.0), f.1.0.1), f.1.1)))
      (λ _ j0. bind R ((ex.expr 256) j0) (λ v. pure (staged.Filter v)) (follows_expr R 256 j0 (store_stages ∷ s) (λ f. make (
        (
          found ++
              (staged.Filter f.0 ∷ f.1.0.0),
          f.1.0.1,
        ),
        f.1.1,
      ))) (λ v j1. gives R (staged.Filter v) j1 (λ a j. at_input R j (store_stages ∷ s) (λ f. make
      ((found ++ (a ∷ f.0.0), f.0.1), f.1)))))) (λ a j1. from R (x.store_stages n0 (found ++ a ∷ []) j1) _ _ (ap (λ g. at_input R j1
      (store_stages ∷ s) (λ f. make ((g f.0.0, f.0.1), f.1))) (fun_ext (λ l. sym (append_assoc found (a ∷ []) l)))) (more
      (found ++ a ∷ []) j1 s make))
  store_next n0 found more o (t.keyword k.FlatMap) places b0 s make = bind R (x.stage (record {
    places =
        (o, t.keyword k.FlatMap) ∷ places;
    budget = b0;
  })) (λ a. x.store_stages n0 (found ++ a ∷ [])) (bind R (take_token (record {
    places =
        (o, t.keyword k.FlatMap) ∷ places;
    budget = b0;
  })) (λ _. (ex.expr 256) >>= (λ v. pure (staged.FlatMap v))) (takes R
      (o, t.keyword k.FlatMap) places b0 (expr ∷ store_stages ∷ s) (λ f. make ((found ++ (staged.FlatMap f.0 ∷ f.1.0.0), f.1.0.1), f.1.1)))
      (λ _ j0. bind R ((ex.expr 256) j0) (λ v. pure (staged.FlatMap v)) (follows_expr R 256 j0 (store_stages ∷ s) (λ f. make (
        (
          found ++
              (staged.FlatMap f.0 ∷ f.1.0.0),
          f.1.0.1,
        ),
        f.1.1,
      ))) (λ v j1. gives R (staged.FlatMap v) j1 (λ a j. at_input R j (store_stages ∷ s) (λ f. make
      ((found ++ (a ∷ f.0.0), f.0.1), f.1)))))) (λ a j1. from R (x.store_stages n0 (found ++ a ∷ []) j1) _ _ (ap (λ g. at_input R j1
      (store_stages ∷ s) (λ f. make ((g f.0.0, f.0.1), f.1))) (fun_ext (λ l. sym (append_assoc found (a ∷ []) l)))) (more
      (found ++ a ∷ []) j1 s make))
  store_next n0 found more o (t.keyword k.LeftJoin) places b0 s make = bind R (x.stage (record {
    places =
        (o, t.keyword k.LeftJoin) ∷ places;
    budget = b0;
  })) (λ a. x.store_stages n0 (found ++ a ∷ [])) (bind R (take_token (record {
    places =
        (o, t.keyword k.LeftJoin) ∷ places;
    budget = b0;
  })) (λ _. (p.a_name) >>= (λ v. pure (staged.LeftJoin v))) (takes R
      (o, t.keyword k.LeftJoin) places b0 (a_name ∷ store_stages ∷ s) (λ f. make ((found ++ (staged.LeftJoin f.0 ∷ f.1.0.0), f.1.0.1), f.1.1)))
      (λ _ j0. bind R ((p.a_name) j0) (λ v. pure (staged.LeftJoin v)) (follows_a_name R j0 (store_stages ∷ s) (λ f. make (
        (
          found ++
              (staged.LeftJoin f.0 ∷ f.1.0.0),
          f.1.0.1,
        ),
        f.1.1,
      ))) (λ v j1. gives R (staged.LeftJoin v) j1 (λ a j. at_input R j (store_stages ∷ s) (λ f. make
      ((found ++ (a ∷ f.0.0), f.0.1), f.1)))))) (λ a j1. from R (x.store_stages n0 (found ++ a ∷ []) j1) _ _ (ap (λ g. at_input R j1
      (store_stages ∷ s) (λ f. make ((g f.0.0, f.0.1), f.1))) (fun_ext (λ l. sym (append_assoc found (a ∷ []) l)))) (more
      (found ++ a ∷ []) j1 s make))
  store_next n0 found more o (t.keyword k.SumByKey) places b0 s make = bind R ((take_token >>= (λ _. kd.mono 256)) (record {
    places =
        (o, t.keyword k.SumByKey) ∷ places;
    budget = b0;
  })) (λ a. pure (found, a)) (bind R (take_token (record {
    places =
        (o, t.keyword k.SumByKey) ∷ places;
    budget = b0;
  })) (λ _. kd.mono 256) (takes R (o, t.keyword k.SumByKey) places b0 (mono ∷ s) (λ f. make
      ((found ++ [], f.0), f.1))) (λ _ j0. follows_mono R 256 j0 s (λ f. make ((found ++ [], f.0), f.1)))) (λ a j1. from R (pure (found, a) j1) _ _
      (ap (λ l. at_input R j1 s (λ f. make ((l, a), f))) (append-nil found)) (gives R (found, a) j1 (λ a j. at_input R j s (λ f. make (a, f)))))
  store_next n0 found more o u places b0 s make = misfits R (record { places = (o, u) ∷ places; budget = b0 }) (λ a j. at_input R j s (λ f. make
      (a, f)))

  store_at : (n0 : ℕ) (found : List Stage) → ((found' : List Stage) (i : Input) (s : List Rule) (make : Forest (store_stages ∷ s) → R) → Under R
      (x.store_stages n0 found' i) (λ a j. at_input R j s (λ f. make (a, f))) (at_input R i (store_stages ∷ s) (λ f. make
      ((found' ++ f.0.0, f.0.1), f.1)))) → (places : List (ℕ × Token)) (b0 : Budget) (s : List Rule) (make : Forest (store_stages ∷ s) → R)
      → Under R (x.store_stage (x.store_stages n0) found (record { places = places; budget = b0 })) (λ a j. at_input R j s (λ f. make (a, f)))
      (at_input R (record { places = places; budget = b0 }) (store_stage ∷ s) (λ f. make ((found ++ f.0.0, f.0.1), f.1)))
  unfolding x.stage sees_word ahead refusal
  store_at n0 found more [] b0 s make = ends_here R (record { places = []; budget = b0 }) (λ a j. at_input R j s (λ f. make (a, f)))
  store_at n0 found more (place ∷ places) b0 s make = store_next n0 found more place.0 place.1 places b0 s make

  bar_next : (n0 : ℕ) (found : List Stage) → ((found' : List Stage) (i : Input) (s : List Rule) (make : Forest (store_stages ∷ s) → R) → Under R
      (x.store_stages n0 found' i) (λ a j. at_input R j s (λ f. make (a, f))) (at_input R i (store_stages ∷ s) (λ f. make
      ((found' ++ f.0.0, f.0.1), f.1)))) → (o : ℕ) (u : Token) (places : List (ℕ × Token)) (b0 : Budget) (s : List Rule) (make : Forest
      (store_stages ∷ s) → R) → Under R (x.store_stages (suc n0) found (record { places = (o, u) ∷ places; budget = b0 })) (λ a j. at_input R j s
      (λ f. make (a, f))) (at_input R (record { places = (o, u) ∷ places; budget = b0 }) (store_stages ∷ s) (λ f. make
      ((found ++ f.0.0, f.0.1), f.1)))
  unfolding x.store_stages expect sees ahead refusal
  bar_next n0 found more o (t.symbol m.Bar) places b0 s make = bind R (take_token (record { places = (o, t.symbol m.Bar) ∷ places; budget = b0 }))
      (λ _. x.store_stage (x.store_stages n0) found) (takes R (o, t.symbol m.Bar) places b0 (store_stage ∷ s) (λ f. make
      ((found ++ f.0.0, f.0.1), f.1))) (λ _ j0. store_at n0 found more j0.places j0.budget s make)
  bar_next n0 found more o u places b0 s make = misfits R (record { places = (o, u) ∷ places; budget = b0 }) (λ a j. at_input R j s (λ f. make
      (a, f)))

  bar_at : (n0 : ℕ) (found : List Stage) → ((found' : List Stage) (i : Input) (s : List Rule) (make : Forest (store_stages ∷ s) → R) → Under R
      (x.store_stages n0 found' i) (λ a j. at_input R j s (λ f. make (a, f))) (at_input R i (store_stages ∷ s) (λ f. make
      ((found' ++ f.0.0, f.0.1), f.1)))) → (places : List (ℕ × Token)) (b0 : Budget) (s : List Rule) (make : Forest (store_stages ∷ s) → R)
      → Under R (x.store_stages (suc n0) found (record { places = places; budget = b0 })) (λ a j. at_input R j s (λ f. make (a, f))) (at_input R
      (record { places = places; budget = b0 }) (store_stages ∷ s) (λ f. make ((found ++ f.0.0, f.0.1), f.1)))
  unfolding x.store_stages expect sees ahead refusal
  bar_at n0 found more [] b0 s make = ends_here R (record { places = []; budget = b0 }) (λ a j. at_input R j s (λ f. make (a, f)))
  bar_at n0 found more (place ∷ places) b0 s make = bar_next n0 found more place.0 place.1 places b0 s make

  pub follows_store_stages : (n0 : ℕ) (found : List Stage) (i : Input) (s : List Rule) (make : Forest (store_stages ∷ s) → R) → Under R
      (x.store_stages n0 found i) (λ a j. at_input R j s (λ f. make (a, f))) (at_input R i (store_stages ∷ s) (λ f. make
      ((found ++ f.0.0, f.0.1), f.1)))
  unfolding x.store_stages
  follows_store_stages zero found i s make = deep R i (λ a j. at_input R j s (λ f. make (a, f))) (at_input R i (store_stages ∷ s) (λ f. make
      ((found ++ f.0.0, f.0.1), f.1)))
  follows_store_stages (suc n0) found i s make = bar_at n0 found (follows_store_stages n0) i.places i.budget s make

  at_statement : (o : ℕ) (u : Token) (places : List (ℕ × Token)) (b0 : Budget) (s : List Rule) (make : Forest (statement ∷ s) → R) → Under R
      (x.statement (record { places = (o, u) ∷ places; budget = b0 })) (λ a j. at_input R j s (λ f. make (a, f))) (at_input R (record {
        places =
            (o, u) ∷ places;
        budget = b0;
      }) (statement ∷ s) make)
  unfolding x.statement x.source x.service x.let_stream x.store sees_word ahead refusal
  at_statement o (t.keyword k.Source) places b0 s make = bind R (take_token (record { places = (o, t.keyword k.Source) ∷ places; budget = b0 }))
      (λ _. (p.a_name) >>= (λ a. (expect m.OpenParen) >>= (λ _. (x.fields) >>= (λ c. pure (statements.Source a c))))) (takes R
      (o, t.keyword k.Source) places b0 (a_name ∷ open_paren ∷ fields ∷ s) (λ f. make ((statements.Source f.0 f.1.1.0), f.1.1.1))) (λ _ j0. bind R
      ((p.a_name) j0) (λ a. (expect m.OpenParen) >>= (λ _. (x.fields) >>= (λ c. pure (statements.Source a c)))) (follows_a_name R j0
      (open_paren ∷ fields ∷ s) (λ f. make ((statements.Source f.0 f.1.1.0), f.1.1.1))) (λ a j1. bind R ((expect m.OpenParen) j1) (λ _.
      (x.fields) >>= (λ c. pure (statements.Source a c))) (follows_open_paren R j1 (fields ∷ s) (λ f. make ((statements.Source a f.1.0), f.1.1)))
      (λ _ j2. bind R ((x.fields) j2) (λ c. pure (statements.Source a c)) (follows_fields j2 s (λ f. make ((statements.Source a f.0), f.1)))
      (λ c j3. gives R (statements.Source a c) j3 (λ a j. at_input R j s (λ f. make (a, f)))))))
  at_statement o (t.keyword k.Service) places b0 s make = bind R (take_token (record { places = (o, t.keyword k.Service) ∷ places; budget = b0 }))
      (λ _. (p.a_name) >>= (λ a. (expect m.OpenParen) >>= (λ _. (kd.scalar) >>= (λ c. (expect m.Arrow) >>= (λ _. (kd.scalar) >>= (λ g.
      (expect m.CloseParen) >>= (λ _. pure (statements.Service a c g)))))))) (takes R (o, t.keyword k.Service) places b0
      (a_name ∷ open_paren ∷ scalar ∷ arrow ∷ scalar ∷ close_paren ∷ s) (λ f. make ((statements.Service f.0 f.1.1.0 f.1.1.1.1.0), f.1.1.1.1.1.1)))
      (λ _ j0. bind R ((p.a_name) j0) (λ a. (expect m.OpenParen) >>= (λ _. (kd.scalar) >>= (λ c. (expect m.Arrow) >>= (λ _. (kd.scalar) >>= (λ g.
      (expect m.CloseParen) >>= (λ _. pure (statements.Service a c g))))))) (follows_a_name R j0
      (open_paren ∷ scalar ∷ arrow ∷ scalar ∷ close_paren ∷ s) (λ f. make ((statements.Service f.0 f.1.1.0 f.1.1.1.1.0), f.1.1.1.1.1.1)))
      (λ a j1. bind R ((expect m.OpenParen) j1) (λ _. (kd.scalar) >>= (λ c. (expect m.Arrow) >>= (λ _. (kd.scalar) >>= (λ g.
      (expect m.CloseParen) >>= (λ _. pure (statements.Service a c g)))))) (follows_open_paren R j1 (scalar ∷ arrow ∷ scalar ∷ close_paren ∷ s)
      (λ f. make ((statements.Service a f.1.0 f.1.1.1.0), f.1.1.1.1.1))) (λ _ j2. bind R ((kd.scalar) j2) (λ c. (expect m.Arrow) >>= (λ _.
      (kd.scalar) >>= (λ g. (expect m.CloseParen) >>= (λ _. pure (statements.Service a c g))))) (follows_scalar R j2
      (arrow ∷ scalar ∷ close_paren ∷ s) (λ f. make ((statements.Service a f.0 f.1.1.0), f.1.1.1.1))) (λ c j3. bind R ((expect m.Arrow) j3) (λ _.
      (kd.scalar) >>= (λ g. (expect m.CloseParen) >>= (λ _. pure (statements.Service a c g)))) (follows_arrow R j3 (scalar ∷ close_paren ∷ s)
      (λ f. make ((statements.Service a c f.1.0), f.1.1.1))) (λ _ j4. bind R ((kd.scalar) j4) (λ g. (expect m.CloseParen) >>= (λ _. pure
      (statements.Service a c g))) (follows_scalar R j4 (close_paren ∷ s) (λ f. make ((statements.Service a c f.0), f.1.1))) (λ g j5. bind R
      ((expect m.CloseParen) j5) (λ _. pure (statements.Service a c g)) (follows_close_paren R j5 s (λ f. make ((statements.Service a c g), f.1)))
      (λ _ j6. gives R (statements.Service a c g) j6 (λ a j. at_input R j s (λ f. make (a, f))))))))))
  at_statement o (t.keyword k.Let) places b0 s make = bind R (take_token (record { places = (o, t.keyword k.Let) ∷ places; budget = b0 })) (λ _.
      (p.a_name) >>= (λ a. (expect m.Assign) >>= (λ _. (x.stream) >>= (λ c. pure (statements.Let a c))))) (takes R (o, t.keyword k.Let) places b0
      (a_name ∷ assign ∷ stream ∷ s) (λ f. make ((statements.Let f.0 f.1.1.0), f.1.1.1))) (λ _ j0. bind R ((p.a_name) j0) (λ a.
      (expect m.Assign) >>= (λ _. (x.stream) >>= (λ c. pure (statements.Let a c)))) (follows_a_name R j0 (assign ∷ stream ∷ s) (λ f. make
      ((statements.Let f.0 f.1.1.0), f.1.1.1))) (λ a j1. bind R ((expect m.Assign) j1) (λ _. (x.stream) >>= (λ c. pure (statements.Let a c)))
      (follows_assign R j1 (stream ∷ s) (λ f. make ((statements.Let a f.1.0), f.1.1))) (λ _ j2. bind R ((x.stream) j2) (λ c. pure
      (statements.Let a c)) (follows_stream j2 s (λ f. make ((statements.Let a f.0), f.1))) (λ c j3. gives R (statements.Let a c) j3
      (λ a j. at_input R j s (λ f. make (a, f)))))))
  at_statement o (t.keyword k.Store) places b0 s make = bind R (take_token (record { places = (o, t.keyword k.Store) ∷ places; budget = b0 })) (λ _.
      (p.a_name) >>= (λ a. (expect m.Assign) >>= (λ _. (x.head 256) >>= (λ c. (x.store_stages 256 []) >>= (λ d. pure (statements.Store a
      (roll-Stream (record { head = c; stages = d.0 })) d.1)))))) (takes R (o, t.keyword k.Store) places b0
      (a_name ∷ assign ∷ head ∷ store_stages ∷ s) (λ f. make (
        (statements.Store f.0 (roll-Stream
            (record { head = f.1.1.0; stages = f.1.1.1.0.0 })) f.1.1.1.0.1),
        f.1.1.1.1,
      ))) (λ _ j0. bind R ((p.a_name) j0) (λ a. (expect m.Assign) >>=
      (λ _. (x.head 256) >>= (λ c. (x.store_stages 256 []) >>= (λ d. pure (statements.Store a (roll-Stream
      (record { head = c; stages = d.0 })) d.1))))) (follows_a_name R j0 (assign ∷ head ∷ store_stages ∷ s) (λ f. make (
        (statements.Store f.0
            (roll-Stream (record { head = f.1.1.0; stages = f.1.1.1.0.0 })) f.1.1.1.0.1),
        f.1.1.1.1,
      ))) (λ a j1. bind R ((expect m.Assign) j1) (λ _.
      (x.head 256) >>= (λ c. (x.store_stages 256 []) >>= (λ d. pure (statements.Store a (roll-Stream (record { head = c; stages = d.0 })) d.1))))
      (follows_assign R j1 (head ∷ store_stages ∷ s) (λ f. make (
        (statements.Store a (roll-Stream
            (record { head = f.1.0; stages = f.1.1.0.0 })) f.1.1.0.1),
        f.1.1.1,
      ))) (λ _ j2. bind R ((x.head 256) j2) (λ c. (x.store_stages 256 []) >>=
      (λ d. pure (statements.Store a (roll-Stream (record { head = c; stages = d.0 })) d.1))) (follows_head 256 j2 (store_stages ∷ s) (λ f. make
      ((statements.Store a (roll-Stream (record { head = f.0; stages = f.1.0.0 })) f.1.0.1), f.1.1))) (λ c j3. bind R ((x.store_stages 256 []) j3)
      (λ d. pure (statements.Store a (roll-Stream (record { head = c; stages = d.0 })) d.1)) (follows_store_stages 256 [] j3 s (λ f. make
      ((statements.Store a (roll-Stream (record { head = c; stages = f.0.0 })) f.0.1), f.1))) (λ d j4. gives R (statements.Store a (roll-Stream
      (record { head = c; stages = d.0 })) d.1) j4 (λ a j. at_input R j s (λ f. make (a, f))))))))
  at_statement o u places b0 s make = misfits R (record { places = (o, u) ∷ places; budget = b0 }) (λ a j. at_input R j s (λ f. make (a, f)))

  pub follows_statement : Follows R statement (x.statement)
  unfolding x.statement x.source x.service x.let_stream x.store sees_word ahead refusal
  follows_statement = by_next R statement (x.statement) (λ b0 s make. ends_here R (record { places = []; budget = b0 }) (λ a j. at_input R j s
      (λ f. make (a, f)))) at_statement

  at_start : (o : ℕ) (u : Token) (places : List (ℕ × Token)) (b0 : Budget) (s : List Rule) (make : Forest (start ∷ s) → R) → Under R (x.start
      (record { places = (o, u) ∷ places; budget = b0 })) (λ a j. at_input R j s (λ f. make (a, f))) (at_input R (record {
        places =
            (o, u) ∷ places;
        budget = b0;
      }) (start ∷ s) make)
  unfolding x.start p.number sees ahead refusal
  at_start o (t.symbol m.Minus) places b0 s make = bind R ((take_token >>= (λ _. p.number)) (record {
    places =
        (o, t.symbol m.Minus) ∷ places;
    budget = b0;
  })) (λ a. pure (true, a)) (bind R (take_token (record {
    places =
        (o, t.symbol m.Minus) ∷ places;
    budget = b0;
  })) (λ _. p.number) (takes R (o, t.symbol m.Minus) places b0 (number ∷ s) (λ f. make
      ((true, f.0), f.1))) (λ _ j0. follows_number R j0 s (λ f. make ((true, f.0), f.1)))) (λ a j1. gives R (true, a) j1 (λ a j. at_input R j s
      (λ f. make (a, f))))
  at_start o (t.int n) places b0 s make = bind R (p.number (record { places = (o, t.int n) ∷ places; budget = b0 })) (λ a. pure (false, a)) (bind R
      (take_token (record { places = (o, t.int n) ∷ places; budget = b0 })) (λ _. pure n) (takes R (o, t.int n) places b0 s (λ f. make
      ((false, n), f))) (λ _ j0. gives R n j0 (λ a j. at_input R j s (λ f. make ((false, a), f))))) (λ a j1. gives R (false, a) j1
      (λ a j. at_input R j s (λ f. make (a, f))))
  at_start o u places b0 s make = misfits R (record { places = (o, u) ∷ places; budget = b0 }) (λ a j. at_input R j s (λ f. make (a, f)))

  pub follows_start : Follows R start x.start
  unfolding x.start p.number sees ahead refusal
  follows_start = by_next R start x.start (λ b0 s make. ends_here R (record { places = []; budget = b0 }) (λ a j. at_input R j s (λ f. make
      (a, f)))) at_start

  at_batch : (o : ℕ) (u : Token) (places : List (ℕ × Token)) (b0 : Budget) (s : List Rule) (make : Forest (batch ∷ s) → R) → Under R (x.batch
      (record { places = (o, u) ∷ places; budget = b0 })) (λ a j. at_input R j s (λ f. make (a, f))) (at_input R (record {
        places =
            (o, u) ∷ places;
        budget = b0;
      }) (batch ∷ s) make)
  unfolding x.batch expect_word sees_word ahead refusal
  at_batch o (t.keyword k.Batch) places b0 s make = bind R (take_token (record { places = (o, t.keyword k.Batch) ∷ places; budget = b0 })) (λ _.
      (p.positive) >>= (λ a. (expect_word k.From) >>= (λ _. (x.start) >>= (λ c. pure (a, c))))) (takes R (o, t.keyword k.Batch) places b0
      (positive ∷ from_word ∷ start ∷ s) (λ f. make ((f.0, f.1.1.0), f.1.1.1))) (λ _ j0. bind R ((p.positive) j0) (λ a. (expect_word k.From) >>=
      (λ _. (x.start) >>= (λ c. pure (a, c)))) (follows_positive R j0 (from_word ∷ start ∷ s) (λ f. make ((f.0, f.1.1.0), f.1.1.1))) (λ a j1. bind R
      ((expect_word k.From) j1) (λ _. (x.start) >>= (λ c. pure (a, c))) (follows_from_word R j1 (start ∷ s) (λ f. make ((a, f.1.0), f.1.1)))
      (λ _ j2. bind R ((x.start) j2) (λ c. pure (a, c)) (follows_start j2 s (λ f. make ((a, f.0), f.1))) (λ c j3. gives R (a, c) j3
      (λ a j. at_input R j s (λ f. make (a, f)))))))
  at_batch o u places b0 s make = misfits R (record { places = (o, u) ∷ places; budget = b0 }) (λ a j. at_input R j s (λ f. make (a, f)))

  pub follows_batch : Follows R batch x.batch
  unfolding x.batch expect_word sees_word ahead refusal
  follows_batch = by_next R batch x.batch (λ b0 s make. ends_here R (record { places = []; budget = b0 }) (λ a j. at_input R j s (λ f. make
      (a, f)))) at_batch
