-- Each tree's tokens are read as that tree.
use Rattle.std.proofs.Common.{◌≡◌, true, List, [], ◌∷◌, Some, None, Result, Ok, refl, ◌∙◌}
use Rattle.sb_tokens.specs.declared.keyword.Keyword.TheVariants as k
use Rattle.sb_tokens.specs.declared.symbol.Symbol.TheVariants as m
use Rattle.sb_tokens.specs.Keyword.{keyword_text}
use Rattle.sb_tokens.specs.Token.{Token}
use Rattle.sb_tokens.specs.Token as t
use Rattle.sb_grammar.specs.declared.programs.Statement.TheVariants as statements
use Rattle.sb_grammar.specs.declared.programs.Stream.{roll-Stream}
use Rattle.sb_grammar.specs.declared.programs.Head.TheVariants as heads
use Rattle.sb_grammar.specs.declared.programs.Stage.TheVariants as staged
use Rattle.sb_grammar.specs.declared.programs.MonoTree.TheVariants as monos
use Rattle.sb_grammar.specs.declared.expressions.TypeTree.TheVariants as types
use Rattle.sb_grammar.specs.declared.expressions.Expr.TheVariants as exprs
use Rattle.sb_grammar.specs.declared.expressions.Disj.{roll-Disj}
use Rattle.sb_grammar.specs.declared.expressions.Conj.{roll-Conj}
use Rattle.sb_grammar.specs.declared.expressions.Neg.TheVariants as negs
use Rattle.sb_grammar.specs.declared.expressions.CmpOp.TheVariants as operators
use Rattle.sb_grammar.specs.declared.expressions.Add.{roll-Add}
use Rattle.sb_grammar.specs.declared.expressions.AddRest.TheVariants as add_rest
use Rattle.sb_grammar.specs.declared.expressions.Prod.{roll-Prod}
use Rattle.sb_grammar.specs.declared.expressions.ProdRest.TheVariants as prod_rest
use Rattle.sb_grammar.specs.declared.expressions.Unary.TheVariants as unaries
use Rattle.sb_grammar.specs.declared.expressions.Post.{roll-Post}
use Rattle.sb_grammar.specs.declared.expressions.Atom.TheVariants as atoms
use Rattle.sb_grammar.specs.Grammar.{Rule, Tree, Derives, group_of, cmp_of}
use Rattle.sb_grammar.specs.Grammar.{from_word, then_word, else_word, open_paren, close_paren, comma, arrow, assign, number, positive, scalar, start}
use Rattle.sb_grammar.specs.Grammar.{field, fields, more_fields, mono, a_type, atom, group_end, list_end, post_steps, post, unary, prod_rests, prod}
use Rattle.sb_grammar.specs.Grammar.{add_rests, add, comparison, cmp, neg, conj_rests, conj, disj_rests, disj, expr, stages, head, stream}
use Rattle.sb_grammar.specs.Grammar.{store_stages}
use Rattle.sb_grammar.specs.Grammar.{from_word-it, then_word-it, else_word-it, open_paren-it, close_paren-it, comma-it, colon-it, arrow-it, assign-it}
use Rattle.sb_grammar.specs.Grammar.{number-it, positive-it, a_name-it, scalar-int, scalar-text, scalar-bool, batch-whole, start-minus, start-number}
use Rattle.sb_grammar.specs.Grammar.{field-name, field-keyword, fields-none, fields-some, more_fields-none, more_fields-some, mono-sum, mono-min}
use Rattle.sb_grammar.specs.Grammar.{mono-max, mono-first, mono-last, mono-concat, mono-set, mono-top, mono-cms, mono-hll, mono-pair, mono-map}
use Rattle.sb_grammar.specs.Grammar.{a_type-pair, a_type-opt, a_type-list, a_type-scalar, atom-int, atom-text, atom-true, atom-false, atom-it}
use Rattle.sb_grammar.specs.Grammar.{atom-group, atom-list, atom-empty, atom-none, atom-some, atom-orelse, atom-has, atom-lower, atom-words, atom-len}
use Rattle.sb_grammar.specs.Grammar.{atom-starts, group_end-close, group_end-second, list_end-close, list_end-more, post_step-name, post_step-keyword}
use Rattle.sb_grammar.specs.Grammar.{post_step-first, post_step-second, post_steps-dot, post_steps-none, post-whole, unary-minus, unary-plain}
use Rattle.sb_grammar.specs.Grammar.{prod_rests-times, prod_rests-over, prod_rests-modulo, prod_rests-none, prod-whole, add_rests-plus}
use Rattle.sb_grammar.specs.Grammar.{add_rests-minus, add_rests-none, add-whole, comparison-equal, comparison-unequal, comparison-less}
use Rattle.sb_grammar.specs.Grammar.{comparison-at_most, comparison-greater, comparison-at_least, comparison-none, cmp-whole, neg-not, neg-plain}
use Rattle.sb_grammar.specs.Grammar.{conj_rests-and, conj_rests-none, conj-whole, disj_rests-or, disj_rests-none, disj-whole, expr-if, expr-plain}
use Rattle.sb_grammar.specs.Grammar.{stage-map, stage-filter, stage-flat_map, stage-join, stages-bar, stages-none, head-name, head-merge}
use Rattle.sb_grammar.specs.Grammar.{stream-whole, store_stages-whole, store_stage-map, store_stage-filter, store_stage-flat_map, store_stage-join}
use Rattle.sb_grammar.specs.Grammar.{store_stage-sum, statement-source, statement-service, statement-let, statement-store}
use Rattle.sb_grammar.proofs.Machine.{Forest, Stop, read}
use Rattle.sb_grammar.proofs.Levels.{Begins, Fits, before, clash, level, starts, weaker}

module _ (R : Type 0) where
  abbrev pub run : List Token → (s : List Rule) → (Forest s → R) → Result (R × List Token × Unit {0}) (Stop × List Token × Unit {0})
  run ts s make = read Token (λ x. x) (Unit {0}) (λ u. Some u) R ts tt s make

  skip_post_steps : (ts : List Token) (s : List Rule) (make : Forest (post_steps ∷ s) → R) → Fits 7 ts → run ts (post_steps ∷ s) make ≡ run ts s
      (λ f. make ([], f))
  skip_post_steps [] s make h = refl
  skip_post_steps (t.symbol m.Dot ∷ ts) s make h = clash h
  skip_post_steps (_ ∷ ts) s make h = refl

  skip_prod_rests : (ts : List Token) (s : List Rule) (make : Forest (prod_rests ∷ s) → R) → Fits 6 ts → run ts (prod_rests ∷ s) make ≡ run ts s
      (λ f. make ([], f))
  skip_prod_rests [] s make h = refl
  skip_prod_rests (t.symbol m.Star ∷ ts) s make h = clash h
  skip_prod_rests (t.symbol m.Slash ∷ ts) s make h = clash h
  skip_prod_rests (t.symbol m.Percent ∷ ts) s make h = clash h
  skip_prod_rests (_ ∷ ts) s make h = refl

  skip_add_rests : (ts : List Token) (s : List Rule) (make : Forest (add_rests ∷ s) → R) → Fits 5 ts → run ts (add_rests ∷ s) make ≡ run ts s
      (λ f. make ([], f))
  skip_add_rests [] s make h = refl
  skip_add_rests (t.symbol m.Plus ∷ ts) s make h = clash h
  skip_add_rests (t.symbol m.Minus ∷ ts) s make h = clash h
  skip_add_rests (_ ∷ ts) s make h = refl

  skip_comparison : (ts : List Token) (s : List Rule) (make : Forest (comparison ∷ s) → R) → Fits 4 ts → run ts (comparison ∷ s) make ≡ run ts s
      (λ f. make (None, f))
  skip_comparison [] s make h = refl
  skip_comparison (t.symbol m.Equal ∷ ts) s make h = clash h
  skip_comparison (t.symbol m.Unequal ∷ ts) s make h = clash h
  skip_comparison (t.symbol m.Less ∷ ts) s make h = clash h
  skip_comparison (t.symbol m.AtMost ∷ ts) s make h = clash h
  skip_comparison (t.symbol m.Greater ∷ ts) s make h = clash h
  skip_comparison (t.symbol m.AtLeast ∷ ts) s make h = clash h
  skip_comparison (_ ∷ ts) s make h = refl

  skip_conj_rests : (ts : List Token) (s : List Rule) (make : Forest (conj_rests ∷ s) → R) → Fits 3 ts → run ts (conj_rests ∷ s) make ≡ run ts s
      (λ f. make ([], f))
  skip_conj_rests [] s make h = refl
  skip_conj_rests (t.keyword k.And ∷ ts) s make h = clash h
  skip_conj_rests (_ ∷ ts) s make h = refl

  skip_disj_rests : (ts : List Token) (s : List Rule) (make : Forest (disj_rests ∷ s) → R) → Fits 2 ts → run ts (disj_rests ∷ s) make ≡ run ts s
      (λ f. make ([], f))
  skip_disj_rests [] s make h = refl
  skip_disj_rests (t.keyword k.Or ∷ ts) s make h = clash h
  skip_disj_rests (_ ∷ ts) s make h = refl

  skip_stages : (ts : List Token) (s : List Rule) (make : Forest (stages ∷ s) → R) → Fits 1 ts → run ts (stages ∷ s) make ≡ run ts s (λ f. make
      ([], f))
  skip_stages [] s make h = refl
  skip_stages (t.symbol m.Bar ∷ ts) s make h = clash h
  skip_stages (_ ∷ ts) s make h = refl

  lead_fields : (ts : List Token) (s : List Rule) (make : Forest (fields ∷ s) → R) → Begins 10 ts → run ts (fields ∷ s) make ≡ run ts
      (field ∷ more_fields ∷ s) (λ f. make ((f.0 ∷ f.1.0), f.1.1))
  lead_fields [] s make h = refl
  lead_fields (t.symbol m.CloseParen ∷ ts) s make h = clash h
  lead_fields (_ ∷ ts) s make h = refl

  lead_a_type : (ts : List Token) (s : List Rule) (make : Forest (a_type ∷ s) → R) → Begins 8 ts → run ts (a_type ∷ s) make ≡ run ts (scalar ∷ s)
      (λ f. make ((types.Scalar f.0), f.1))
  lead_a_type [] s make h = refl
  lead_a_type (t.keyword k.Pair ∷ ts) s make h = clash h
  lead_a_type (t.keyword k.Opt ∷ ts) s make h = clash h
  lead_a_type (t.keyword k.List ∷ ts) s make h = clash h
  lead_a_type (_ ∷ ts) s make h = refl

  lead_post : (ts : List Token) (s : List Rule) (make : Forest (post ∷ s) → R) → Begins 0 ts → run ts (post ∷ s) make ≡ run ts
      (atom ∷ post_steps ∷ s) (λ f. make ((roll-Post (record { atom = f.0; steps = f.1.0 })), f.1.1))
  lead_post [] s make h = refl
  lead_post (_ ∷ ts) s make h = refl

  lead_unary : (ts : List Token) (s : List Rule) (make : Forest (unary ∷ s) → R) → Begins 1 ts → run ts (unary ∷ s) make ≡ run ts (post ∷ s)
      (λ f. make ((unaries.Plain f.0), f.1))
  lead_unary [] s make h = refl
  lead_unary (t.symbol m.Minus ∷ ts) s make h = clash h
  lead_unary (_ ∷ ts) s make h = refl

  lead_prod : (ts : List Token) (s : List Rule) (make : Forest (prod ∷ s) → R) → Begins 0 ts → run ts (prod ∷ s) make ≡ run ts
      (unary ∷ prod_rests ∷ s) (λ f. make ((roll-Prod (record { first = f.0; rest = f.1.0 })), f.1.1))
  lead_prod [] s make h = refl
  lead_prod (_ ∷ ts) s make h = refl

  lead_add : (ts : List Token) (s : List Rule) (make : Forest (add ∷ s) → R) → Begins 0 ts → run ts (add ∷ s) make ≡ run ts (prod ∷ add_rests ∷ s)
      (λ f. make ((roll-Add (record { first = f.0; rest = f.1.0 })), f.1.1))
  lead_add [] s make h = refl
  lead_add (_ ∷ ts) s make h = refl

  lead_cmp : (ts : List Token) (s : List Rule) (make : Forest (cmp ∷ s) → R) → Begins 0 ts → run ts (cmp ∷ s) make ≡ run ts (add ∷ comparison ∷ s)
      (λ f. make ((cmp_of f.0 f.1.0), f.1.1))
  lead_cmp [] s make h = refl
  lead_cmp (_ ∷ ts) s make h = refl

  lead_neg : (ts : List Token) (s : List Rule) (make : Forest (neg ∷ s) → R) → Begins 2 ts → run ts (neg ∷ s) make ≡ run ts (cmp ∷ s) (λ f. make
      ((negs.Plain f.0), f.1))
  lead_neg [] s make h = refl
  lead_neg (t.keyword k.Not ∷ ts) s make h = clash h
  lead_neg (_ ∷ ts) s make h = refl

  lead_conj : (ts : List Token) (s : List Rule) (make : Forest (conj ∷ s) → R) → Begins 0 ts → run ts (conj ∷ s) make ≡ run ts
      (neg ∷ conj_rests ∷ s) (λ f. make ((roll-Conj (record { first = f.0; rest = f.1.0 })), f.1.1))
  lead_conj [] s make h = refl
  lead_conj (_ ∷ ts) s make h = refl

  lead_disj : (ts : List Token) (s : List Rule) (make : Forest (disj ∷ s) → R) → Begins 0 ts → run ts (disj ∷ s) make ≡ run ts
      (conj ∷ disj_rests ∷ s) (λ f. make ((roll-Disj (record { first = f.0; rest = f.1.0 })), f.1.1))
  lead_disj [] s make h = refl
  lead_disj (_ ∷ ts) s make h = refl

  lead_expr : (ts : List Token) (s : List Rule) (make : Forest (expr ∷ s) → R) → Begins 3 ts → run ts (expr ∷ s) make ≡ run ts (disj ∷ s) (λ f. make
      ((exprs.Plain f.0), f.1))
  lead_expr [] s make h = refl
  lead_expr (t.keyword k.If ∷ ts) s make h = clash h
  lead_expr (_ ∷ ts) s make h = refl

  lead_stream : (ts : List Token) (s : List Rule) (make : Forest (stream ∷ s) → R) → Begins 0 ts → run ts (stream ∷ s) make ≡ run ts
      (head ∷ stages ∷ s) (λ f. make ((roll-Stream (record { head = f.0; stages = f.1.0 })), f.1.1))
  lead_stream [] s make h = refl
  lead_stream (_ ∷ ts) s make h = refl

  pub all : {r : Rule} {a : Tree r} {ts ws : List Token} → Derives r a ts ws → Fits (level r) ws → (s : List Rule) (make : Forest (r ∷ s) → R)
      → run ts (r ∷ s) make ≡ run ws s (λ f. make (a, f))
  all (from_word-it {ts = ts}) fit s make = refl
  all (then_word-it {ts = ts}) fit s make = refl
  all (else_word-it {ts = ts}) fit s make = refl
  all (open_paren-it {ts = ts}) fit s make = refl
  all (close_paren-it {ts = ts}) fit s make = refl
  all (comma-it {ts = ts}) fit s make = refl
  all (colon-it {ts = ts}) fit s make = refl
  all (arrow-it {ts = ts}) fit s make = refl
  all (assign-it {ts = ts}) fit s make = refl
  all (number-it {n = n} {ts = ts}) fit s make = refl
  all (positive-it {n = n} {ts = ts}) fit s make = refl
  all (a_name-it {n = n} {ts = ts}) fit s make = refl
  all (scalar-int {ts = ts}) fit s make = refl
  all (scalar-text {ts = ts}) fit s make = refl
  all (scalar-bool {ts = ts}) fit s make = refl
  all (batch-whole {a = a} {b = b} {c = c} {ts = ts} {us = us} {vs = vs} {ws = ws} d0 d1 d2) fit s make = all d0 tt (from_word ∷ start ∷ s)
      (λ f. make ((f.0, f.1.1.0), f.1.1.1))
      ∙ all d1 tt (start ∷ s) (λ f. make ((a, f.1.0), f.1.1))
      ∙ all d2 tt s (λ f. make ((a, f.0), f.1))
  all (start-minus {a = a} {ts = ts} {us = us} d0) fit s make = all d0 tt s (λ f. make ((true, f.0), f.1))
  all (start-number {n = n} {ts = ts}) fit s make = refl
  all (field-name {n = n} {a = a} {b = b} {ts = ts} {us = us} {vs = vs} d0 d1) fit s make = all d0 tt (scalar ∷ s) (λ f. make
      ((record { name = n; scalar = f.1.0 }), f.1.1))
      ∙ all d1 tt s (λ f. make ((record { name = n; scalar = f.0 }), f.1))
  all (field-keyword {w = w} {a = a} {b = b} {ts = ts} {us = us} {vs = vs} d0 d1) fit s make = all d0 tt (scalar ∷ s) (λ f. make (
    (record {
      name =
          (keyword_text w);
      scalar = f.1.0;
    }),
    f.1.1,
  ))
      ∙ all d1 tt s (λ f. make ((record { name = (keyword_text w); scalar = f.0 }), f.1))
  all (fields-none {ts = ts}) fit s make = refl
  all (fields-some {a = a} {b = b} {ts = ts} {us = us} {vs = vs} d0 d1) fit s make = lead_fields ts s make (starts d0)
      ∙ all d0 tt (more_fields ∷ s) (λ f. make ((f.0 ∷ f.1.0), f.1.1))
      ∙ all d1 tt s (λ f. make ((a ∷ f.0), f.1))
  all (more_fields-none {ts = ts}) fit s make = refl
  all (more_fields-some {a = a} {b = b} {ts = ts} {us = us} {vs = vs} d0 d1) fit s make = all d0 tt (more_fields ∷ s) (λ f. make
      ((f.0 ∷ f.1.0), f.1.1))
      ∙ all d1 tt s (λ f. make ((a ∷ f.0), f.1))
  all (mono-sum {ts = ts}) fit s make = refl
  all (mono-min {ts = ts}) fit s make = refl
  all (mono-max {ts = ts}) fit s make = refl
  all (mono-first {ts = ts}) fit s make = refl
  all (mono-last {ts = ts}) fit s make = refl
  all (mono-concat {ts = ts}) fit s make = refl
  all (mono-set {ts = ts}) fit s make = refl
  all (mono-top {a = a} {b = b} {c = c} {ts = ts} {us = us} {vs = vs} {ws = ws} d0 d1 d2) fit s make = all d0 tt (number ∷ close_paren ∷ s)
      (λ f. make ((monos.Top f.1.0), f.1.1.1))
      ∙ all d1 tt (close_paren ∷ s) (λ f. make ((monos.Top f.0), f.1.1))
      ∙ all d2 tt s (λ f. make ((monos.Top b), f.1))
  all (mono-cms {a = a} {b = b} {c = c} {d = d} {g = g} {ts = ts} {us = us} {vs = vs} {ws = ws} {xs = xs} {ys = ys} d0 d1 d2 d3 d4) fit s make = all d0 tt
      (number ∷ comma ∷ number ∷ close_paren ∷ s) (λ f. make ((monos.Cms f.1.0 f.1.1.1.0), f.1.1.1.1.1))
      ∙ all d1 tt (comma ∷ number ∷ close_paren ∷ s) (λ f. make ((monos.Cms f.0 f.1.1.0), f.1.1.1.1))
      ∙ all d2 tt (number ∷ close_paren ∷ s) (λ f. make ((monos.Cms b f.1.0), f.1.1.1))
      ∙ all d3 tt (close_paren ∷ s) (λ f. make ((monos.Cms b f.0), f.1.1))
      ∙ all d4 tt s (λ f. make ((monos.Cms b d), f.1))
  all (mono-hll {a = a} {b = b} {c = c} {ts = ts} {us = us} {vs = vs} {ws = ws} d0 d1 d2) fit s make = all d0 tt (number ∷ close_paren ∷ s)
      (λ f. make ((monos.Hll f.1.0), f.1.1.1))
      ∙ all d1 tt (close_paren ∷ s) (λ f. make ((monos.Hll f.0), f.1.1))
      ∙ all d2 tt s (λ f. make ((monos.Hll b), f.1))
  all (mono-pair {a = a} {b = b} {c = c} {d = d} {g = g} {ts = ts} {us = us} {vs = vs} {ws = ws} {xs = xs} {ys = ys} d0 d1 d2 d3 d4) fit s make = all d0 tt
      (mono ∷ comma ∷ mono ∷ close_paren ∷ s) (λ f. make ((monos.Pair f.1.0 f.1.1.1.0), f.1.1.1.1.1))
      ∙ all d1 tt (comma ∷ mono ∷ close_paren ∷ s) (λ f. make ((monos.Pair f.0 f.1.1.0), f.1.1.1.1))
      ∙ all d2 tt (mono ∷ close_paren ∷ s) (λ f. make ((monos.Pair b f.1.0), f.1.1.1))
      ∙ all d3 tt (close_paren ∷ s) (λ f. make ((monos.Pair b f.0), f.1.1))
      ∙ all d4 tt s (λ f. make ((monos.Pair b d), f.1))
  all (mono-map {a = a} {b = b} {c = c} {ts = ts} {us = us} {vs = vs} {ws = ws} d0 d1 d2) fit s make = all d0 tt (mono ∷ close_paren ∷ s) (λ f. make
      ((monos.Map f.1.0), f.1.1.1))
      ∙ all d1 tt (close_paren ∷ s) (λ f. make ((monos.Map f.0), f.1.1))
      ∙ all d2 tt s (λ f. make ((monos.Map b), f.1))
  all (a_type-pair {a = a} {b = b} {c = c} {d = d} {g = g} {ts = ts} {us = us} {vs = vs} {ws = ws} {xs = xs} {ys = ys} d0 d1 d2 d3 d4) fit s make = all d0 tt
      (a_type ∷ comma ∷ a_type ∷ close_paren ∷ s) (λ f. make ((types.Pair f.1.0 f.1.1.1.0), f.1.1.1.1.1))
      ∙ all d1 tt (comma ∷ a_type ∷ close_paren ∷ s) (λ f. make ((types.Pair f.0 f.1.1.0), f.1.1.1.1))
      ∙ all d2 tt (a_type ∷ close_paren ∷ s) (λ f. make ((types.Pair b f.1.0), f.1.1.1))
      ∙ all d3 tt (close_paren ∷ s) (λ f. make ((types.Pair b f.0), f.1.1))
      ∙ all d4 tt s (λ f. make ((types.Pair b d), f.1))
  all (a_type-opt {a = a} {b = b} {c = c} {ts = ts} {us = us} {vs = vs} {ws = ws} d0 d1 d2) fit s make = all d0 tt (a_type ∷ close_paren ∷ s)
      (λ f. make ((types.Opt f.1.0), f.1.1.1))
      ∙ all d1 tt (close_paren ∷ s) (λ f. make ((types.Opt f.0), f.1.1))
      ∙ all d2 tt s (λ f. make ((types.Opt b), f.1))
  all (a_type-list {a = a} {b = b} {c = c} {d = d} {g = g} {ts = ts} {us = us} {vs = vs} {ws = ws} {xs = xs} {ys = ys} d0 d1 d2 d3 d4) fit s make = all d0 tt
      (a_type ∷ comma ∷ number ∷ close_paren ∷ s) (λ f. make ((types.List f.1.0 f.1.1.1.0), f.1.1.1.1.1))
      ∙ all d1 tt (comma ∷ number ∷ close_paren ∷ s) (λ f. make ((types.List f.0 f.1.1.0), f.1.1.1.1))
      ∙ all d2 tt (number ∷ close_paren ∷ s) (λ f. make ((types.List b f.1.0), f.1.1.1))
      ∙ all d3 tt (close_paren ∷ s) (λ f. make ((types.List b f.0), f.1.1))
      ∙ all d4 tt s (λ f. make ((types.List b d), f.1))
  all (a_type-scalar {a = a} {ts = ts} {us = us} d0) fit s make = lead_a_type ts s make (starts d0)
      ∙ all d0 tt s (λ f. make ((types.Scalar f.0), f.1))
  all (atom-int {n = n} {ts = ts}) fit s make = refl
  all (atom-text {value = value} {ts = ts}) fit s make = refl
  all (atom-true {ts = ts}) fit s make = refl
  all (atom-false {ts = ts}) fit s make = refl
  all (atom-it {ts = ts}) fit s make = refl
  all (atom-group {a = a} {b = b} {ts = ts} {us = us} {vs = vs} d0 d1) fit s make = all d0 (before d1 tt) (group_end ∷ s) (λ f. make
      ((group_of f.0 f.1.0), f.1.1))
      ∙ all d1 tt s (λ f. make ((group_of a f.0), f.1))
  all (atom-list {a = a} {b = b} {ts = ts} {us = us} {vs = vs} d0 d1) fit s make = all d0 (before d1 tt) (list_end ∷ s) (λ f. make (
    (atoms.List
        (f.0 ∷ f.1.0)),
    f.1.1,
  ))
      ∙ all d1 tt s (λ f. make ((atoms.List (a ∷ f.0)), f.1))
  all (atom-empty {a = a} {b = b} {c = c} {ts = ts} {us = us} {vs = vs} {ws = ws} d0 d1 d2) fit s make = all d0 tt (a_type ∷ close_paren ∷ s)
      (λ f. make ((atoms.Empty f.1.0), f.1.1.1))
      ∙ all d1 tt (close_paren ∷ s) (λ f. make ((atoms.Empty f.0), f.1.1))
      ∙ all d2 tt s (λ f. make ((atoms.Empty b), f.1))
  all (atom-none {a = a} {b = b} {c = c} {ts = ts} {us = us} {vs = vs} {ws = ws} d0 d1 d2) fit s make = all d0 tt (a_type ∷ close_paren ∷ s)
      (λ f. make ((atoms.NoneOf f.1.0), f.1.1.1))
      ∙ all d1 tt (close_paren ∷ s) (λ f. make ((atoms.NoneOf f.0), f.1.1))
      ∙ all d2 tt s (λ f. make ((atoms.NoneOf b), f.1))
  all (atom-some {a = a} {b = b} {c = c} {ts = ts} {us = us} {vs = vs} {ws = ws} d0 d1 d2) fit s make = all d0 tt (expr ∷ close_paren ∷ s)
      (λ f. make ((atoms.SomeOf f.1.0), f.1.1.1))
      ∙ all d1 (weaker vs 0 1 refl (before d2 tt)) (close_paren ∷ s) (λ f. make ((atoms.SomeOf f.0), f.1.1))
      ∙ all d2 tt s (λ f. make ((atoms.SomeOf b), f.1))
  all (atom-orelse {a = a} {b = b} {c = c} {d = d} {g = g} {ts = ts} {us = us} {vs = vs} {ws = ws} {xs = xs} {ys = ys} d0 d1 d2 d3 d4) fit s make = all d0 tt
      (expr ∷ comma ∷ expr ∷ close_paren ∷ s) (λ f. make ((atoms.Orelse f.1.0 f.1.1.1.0), f.1.1.1.1.1))
      ∙ all d1 (weaker vs 0 1 refl (before d2 tt)) (comma ∷ expr ∷ close_paren ∷ s) (λ f. make ((atoms.Orelse f.0 f.1.1.0), f.1.1.1.1))
      ∙ all d2 tt (expr ∷ close_paren ∷ s) (λ f. make ((atoms.Orelse b f.1.0), f.1.1.1))
      ∙ all d3 (weaker xs 0 1 refl (before d4 tt)) (close_paren ∷ s) (λ f. make ((atoms.Orelse b f.0), f.1.1))
      ∙ all d4 tt s (λ f. make ((atoms.Orelse b d), f.1))
  all (atom-has {a = a} {b = b} {c = c} {ts = ts} {us = us} {vs = vs} {ws = ws} d0 d1 d2) fit s make = all d0 tt (expr ∷ close_paren ∷ s) (λ f. make
      ((atoms.Has f.1.0), f.1.1.1))
      ∙ all d1 (weaker vs 0 1 refl (before d2 tt)) (close_paren ∷ s) (λ f. make ((atoms.Has f.0), f.1.1))
      ∙ all d2 tt s (λ f. make ((atoms.Has b), f.1))
  all (atom-lower {a = a} {b = b} {c = c} {ts = ts} {us = us} {vs = vs} {ws = ws} d0 d1 d2) fit s make = all d0 tt (expr ∷ close_paren ∷ s)
      (λ f. make ((atoms.Lower f.1.0), f.1.1.1))
      ∙ all d1 (weaker vs 0 1 refl (before d2 tt)) (close_paren ∷ s) (λ f. make ((atoms.Lower f.0), f.1.1))
      ∙ all d2 tt s (λ f. make ((atoms.Lower b), f.1))
  all (atom-words {a = a} {b = b} {c = c} {d = d} {g = g} {ts = ts} {us = us} {vs = vs} {ws = ws} {xs = xs} {ys = ys} d0 d1 d2 d3 d4) fit s make = all d0 tt
      (expr ∷ comma ∷ positive ∷ close_paren ∷ s) (λ f. make ((atoms.Words f.1.0 f.1.1.1.0), f.1.1.1.1.1))
      ∙ all d1 (weaker vs 0 1 refl (before d2 tt)) (comma ∷ positive ∷ close_paren ∷ s) (λ f. make ((atoms.Words f.0 f.1.1.0), f.1.1.1.1))
      ∙ all d2 tt (positive ∷ close_paren ∷ s) (λ f. make ((atoms.Words b f.1.0), f.1.1.1))
      ∙ all d3 tt (close_paren ∷ s) (λ f. make ((atoms.Words b f.0), f.1.1))
      ∙ all d4 tt s (λ f. make ((atoms.Words b d), f.1))
  all (atom-len {a = a} {b = b} {c = c} {ts = ts} {us = us} {vs = vs} {ws = ws} d0 d1 d2) fit s make = all d0 tt (expr ∷ close_paren ∷ s) (λ f. make
      ((atoms.Len f.1.0), f.1.1.1))
      ∙ all d1 (weaker vs 0 1 refl (before d2 tt)) (close_paren ∷ s) (λ f. make ((atoms.Len f.0), f.1.1))
      ∙ all d2 tt s (λ f. make ((atoms.Len b), f.1))
  all (atom-starts {a = a} {b = b} {c = c} {d = d} {g = g} {ts = ts} {us = us} {vs = vs} {ws = ws} {xs = xs} {ys = ys} d0 d1 d2 d3 d4) fit s make = all d0 tt
      (expr ∷ comma ∷ expr ∷ close_paren ∷ s) (λ f. make ((atoms.Starts f.1.0 f.1.1.1.0), f.1.1.1.1.1))
      ∙ all d1 (weaker vs 0 1 refl (before d2 tt)) (comma ∷ expr ∷ close_paren ∷ s) (λ f. make ((atoms.Starts f.0 f.1.1.0), f.1.1.1.1))
      ∙ all d2 tt (expr ∷ close_paren ∷ s) (λ f. make ((atoms.Starts b f.1.0), f.1.1.1))
      ∙ all d3 (weaker xs 0 1 refl (before d4 tt)) (close_paren ∷ s) (λ f. make ((atoms.Starts b f.0), f.1.1))
      ∙ all d4 tt s (λ f. make ((atoms.Starts b d), f.1))
  all (group_end-close {ts = ts}) fit s make = refl
  all (group_end-second {a = a} {b = b} {ts = ts} {us = us} {vs = vs} d0 d1) fit s make = all d0 (weaker us 0 1 refl (before d1 tt))
      (close_paren ∷ s) (λ f. make ((Some f.0), f.1.1))
      ∙ all d1 tt s (λ f. make ((Some a), f.1))
  all (list_end-close {ts = ts}) fit s make = refl
  all (list_end-more {a = a} {b = b} {ts = ts} {us = us} {vs = vs} d0 d1) fit s make = all d0 (before d1 tt) (list_end ∷ s) (λ f. make
      ((f.0 ∷ f.1.0), f.1.1))
      ∙ all d1 tt s (λ f. make ((a ∷ f.0), f.1))
  all (post_step-name {n = n} {ts = ts}) fit s make = refl
  all (post_step-keyword {w = w} {ts = ts}) fit s make = refl
  all (post_step-first {ts = ts}) fit s make = refl
  all (post_step-second {ts = ts}) fit s make = refl
  all (post_steps-dot {a = a} {b = b} {ts = ts} {us = us} {vs = vs} d0 d1) fit s make = all d0 tt (post_steps ∷ s) (λ f. make ((f.0 ∷ f.1.0), f.1.1))
      ∙ all d1 fit s (λ f. make ((a ∷ f.0), f.1))
  all (post_steps-none {ts = ts}) fit s make = skip_post_steps ts s make fit
  all (post-whole {a = a} {b = b} {ts = ts} {us = us} {vs = vs} d0 d1) fit s make = lead_post ts s make tt
      ∙ all d0 tt (post_steps ∷ s) (λ f. make ((roll-Post (record { atom = f.0; steps = f.1.0 })), f.1.1))
      ∙ all d1 fit s (λ f. make ((roll-Post (record { atom = a; steps = f.0 })), f.1))
  all (unary-minus {a = a} {ts = ts} {us = us} d0) fit s make = all d0 fit s (λ f. make ((unaries.Minus f.0), f.1))
  all (unary-plain {a = a} {ts = ts} {us = us} d0) fit s make = lead_unary ts s make (starts d0)
      ∙ all d0 fit s (λ f. make ((unaries.Plain f.0), f.1))
  all (prod_rests-times {a = a} {b = b} {ts = ts} {us = us} {vs = vs} d0 d1) fit s make = all d0 (before d1 fit) (prod_rests ∷ s) (λ f. make
      ((prod_rest.Times f.0 ∷ f.1.0), f.1.1))
      ∙ all d1 fit s (λ f. make ((prod_rest.Times a ∷ f.0), f.1))
  all (prod_rests-over {a = a} {b = b} {ts = ts} {us = us} {vs = vs} d0 d1) fit s make = all d0 tt (prod_rests ∷ s) (λ f. make
      ((prod_rest.Over f.0 ∷ f.1.0), f.1.1))
      ∙ all d1 fit s (λ f. make ((prod_rest.Over a ∷ f.0), f.1))
  all (prod_rests-modulo {a = a} {b = b} {ts = ts} {us = us} {vs = vs} d0 d1) fit s make = all d0 tt (prod_rests ∷ s) (λ f. make
      ((prod_rest.Modulo f.0 ∷ f.1.0), f.1.1))
      ∙ all d1 fit s (λ f. make ((prod_rest.Modulo a ∷ f.0), f.1))
  all (prod_rests-none {ts = ts}) fit s make = skip_prod_rests ts s make fit
  all (prod-whole {a = a} {b = b} {ts = ts} {us = us} {vs = vs} d0 d1) fit s make = lead_prod ts s make tt
      ∙ all d0 (before d1 fit) (prod_rests ∷ s) (λ f. make ((roll-Prod (record { first = f.0; rest = f.1.0 })), f.1.1))
      ∙ all d1 fit s (λ f. make ((roll-Prod (record { first = a; rest = f.0 })), f.1))
  all (add_rests-plus {a = a} {b = b} {ts = ts} {us = us} {vs = vs} d0 d1) fit s make = all d0 (before d1 fit) (add_rests ∷ s) (λ f. make
      ((add_rest.Plus f.0 ∷ f.1.0), f.1.1))
      ∙ all d1 fit s (λ f. make ((add_rest.Plus a ∷ f.0), f.1))
  all (add_rests-minus {a = a} {b = b} {ts = ts} {us = us} {vs = vs} d0 d1) fit s make = all d0 (before d1 fit) (add_rests ∷ s) (λ f. make
      ((add_rest.Minus f.0 ∷ f.1.0), f.1.1))
      ∙ all d1 fit s (λ f. make ((add_rest.Minus a ∷ f.0), f.1))
  all (add_rests-none {ts = ts}) fit s make = skip_add_rests ts s make fit
  all (add-whole {a = a} {b = b} {ts = ts} {us = us} {vs = vs} d0 d1) fit s make = lead_add ts s make tt
      ∙ all d0 (before d1 fit) (add_rests ∷ s) (λ f. make ((roll-Add (record { first = f.0; rest = f.1.0 })), f.1.1))
      ∙ all d1 fit s (λ f. make ((roll-Add (record { first = a; rest = f.0 })), f.1))
  all (comparison-equal {a = a} {ts = ts} {us = us} d0) fit s make = all d0 (weaker us 3 4 refl fit) s (λ f. make (
    (Some
        (operators.Equal, f.0)),
    f.1,
  ))
  all (comparison-unequal {a = a} {ts = ts} {us = us} d0) fit s make = all d0 (weaker us 3 4 refl fit) s (λ f. make (
    (Some
        (operators.Unequal, f.0)),
    f.1,
  ))
  all (comparison-less {a = a} {ts = ts} {us = us} d0) fit s make = all d0 (weaker us 3 4 refl fit) s (λ f. make ((Some (operators.Less, f.0)), f.1))
  all (comparison-at_most {a = a} {ts = ts} {us = us} d0) fit s make = all d0 (weaker us 3 4 refl fit) s (λ f. make (
    (Some
        (operators.AtMost, f.0)),
    f.1,
  ))
  all (comparison-greater {a = a} {ts = ts} {us = us} d0) fit s make = all d0 (weaker us 3 4 refl fit) s (λ f. make (
    (Some
        (operators.Greater, f.0)),
    f.1,
  ))
  all (comparison-at_least {a = a} {ts = ts} {us = us} d0) fit s make = all d0 (weaker us 3 4 refl fit) s (λ f. make (
    (Some
        (operators.AtLeast, f.0)),
    f.1,
  ))
  all (comparison-none {ts = ts}) fit s make = skip_comparison ts s make fit
  all (cmp-whole {a = a} {b = b} {ts = ts} {us = us} {vs = vs} d0 d1) fit s make = lead_cmp ts s make tt
      ∙ all d0 (before d1 fit) (comparison ∷ s) (λ f. make ((cmp_of f.0 f.1.0), f.1.1))
      ∙ all d1 fit s (λ f. make ((cmp_of a f.0), f.1))
  all (neg-not {a = a} {ts = ts} {us = us} d0) fit s make = all d0 fit s (λ f. make ((negs.Not f.0), f.1))
  all (neg-plain {a = a} {ts = ts} {us = us} d0) fit s make = lead_neg ts s make (starts d0)
      ∙ all d0 fit s (λ f. make ((negs.Plain f.0), f.1))
  all (conj_rests-and {a = a} {b = b} {ts = ts} {us = us} {vs = vs} d0 d1) fit s make = all d0 (before d1 fit) (conj_rests ∷ s) (λ f. make
      ((f.0 ∷ f.1.0), f.1.1))
      ∙ all d1 fit s (λ f. make ((a ∷ f.0), f.1))
  all (conj_rests-none {ts = ts}) fit s make = skip_conj_rests ts s make fit
  all (conj-whole {a = a} {b = b} {ts = ts} {us = us} {vs = vs} d0 d1) fit s make = lead_conj ts s make tt
      ∙ all d0 (before d1 fit) (conj_rests ∷ s) (λ f. make ((roll-Conj (record { first = f.0; rest = f.1.0 })), f.1.1))
      ∙ all d1 fit s (λ f. make ((roll-Conj (record { first = a; rest = f.0 })), f.1))
  all (disj_rests-or {a = a} {b = b} {ts = ts} {us = us} {vs = vs} d0 d1) fit s make = all d0 (before d1 fit) (disj_rests ∷ s) (λ f. make
      ((f.0 ∷ f.1.0), f.1.1))
      ∙ all d1 fit s (λ f. make ((a ∷ f.0), f.1))
  all (disj_rests-none {ts = ts}) fit s make = skip_disj_rests ts s make fit
  all (disj-whole {a = a} {b = b} {ts = ts} {us = us} {vs = vs} d0 d1) fit s make = lead_disj ts s make tt
      ∙ all d0 (before d1 fit) (disj_rests ∷ s) (λ f. make ((roll-Disj (record { first = f.0; rest = f.1.0 })), f.1.1))
      ∙ all d1 fit s (λ f. make ((roll-Disj (record { first = a; rest = f.0 })), f.1))
  all (expr-if {a = a} {b = b} {c = c} {d = d} {g = g} {ts = ts} {us = us} {vs = vs} {ws = ws} {xs = xs} {ys = ys} d0 d1 d2 d3 d4) fit s make = all d0
      (before d1 tt) (then_word ∷ expr ∷ else_word ∷ expr ∷ s) (λ f. make ((exprs.If f.0 f.1.1.0 f.1.1.1.1.0), f.1.1.1.1.1))
      ∙ all d1 tt (expr ∷ else_word ∷ expr ∷ s) (λ f. make ((exprs.If a f.1.0 f.1.1.1.0), f.1.1.1.1))
      ∙ all d2 (before d3 tt) (else_word ∷ expr ∷ s) (λ f. make ((exprs.If a f.0 f.1.1.0), f.1.1.1))
      ∙ all d3 tt (expr ∷ s) (λ f. make ((exprs.If a c f.1.0), f.1.1))
      ∙ all d4 fit s (λ f. make ((exprs.If a c f.0), f.1))
  all (expr-plain {a = a} {ts = ts} {us = us} d0) fit s make = lead_expr ts s make (starts d0)
      ∙ all d0 fit s (λ f. make ((exprs.Plain f.0), f.1))
  all (stage-map {a = a} {ts = ts} {us = us} d0) fit s make = all d0 fit s (λ f. make ((staged.Map f.0), f.1))
  all (stage-filter {a = a} {ts = ts} {us = us} d0) fit s make = all d0 fit s (λ f. make ((staged.Filter f.0), f.1))
  all (stage-flat_map {a = a} {ts = ts} {us = us} d0) fit s make = all d0 fit s (λ f. make ((staged.FlatMap f.0), f.1))
  all (stage-join {a = a} {ts = ts} {us = us} d0) fit s make = all d0 tt s (λ f. make ((staged.LeftJoin f.0), f.1))
  all (stages-bar {a = a} {b = b} {ts = ts} {us = us} {vs = vs} d0 d1) fit s make = all d0 (before d1 fit) (stages ∷ s) (λ f. make
      ((f.0 ∷ f.1.0), f.1.1))
      ∙ all d1 fit s (λ f. make ((a ∷ f.0), f.1))
  all (stages-none {ts = ts}) fit s make = skip_stages ts s make fit
  all (head-name {n = n} {ts = ts}) fit s make = refl
  all (head-merge {a = a} {b = b} {c = c} {d = d} {g = g} {ts = ts} {us = us} {vs = vs} {ws = ws} {xs = xs} {ys = ys} d0 d1 d2 d3 d4) fit s make = all d0 tt
      (stream ∷ comma ∷ stream ∷ close_paren ∷ s) (λ f. make ((heads.Merge f.1.0 f.1.1.1.0), f.1.1.1.1.1))
      ∙ all d1 (before d2 tt) (comma ∷ stream ∷ close_paren ∷ s) (λ f. make ((heads.Merge f.0 f.1.1.0), f.1.1.1.1))
      ∙ all d2 tt (stream ∷ close_paren ∷ s) (λ f. make ((heads.Merge b f.1.0), f.1.1.1))
      ∙ all d3 (before d4 tt) (close_paren ∷ s) (λ f. make ((heads.Merge b f.0), f.1.1))
      ∙ all d4 tt s (λ f. make ((heads.Merge b d), f.1))
  all (stream-whole {a = a} {b = b} {ts = ts} {us = us} {vs = vs} d0 d1) fit s make = lead_stream ts s make tt
      ∙ all d0 tt (stages ∷ s) (λ f. make ((roll-Stream (record { head = f.0; stages = f.1.0 })), f.1.1))
      ∙ all d1 fit s (λ f. make ((roll-Stream (record { head = a; stages = f.0 })), f.1))
  all (store_stages-whole {a = a} {ts = ts} {us = us} d0) fit s make = all d0 tt s (λ f. make (f.0, f.1))
  all (store_stage-map {a = a} {b = b} {ts = ts} {us = us} {vs = vs} d0 d1) fit s make = all d0 (before d1 tt) (store_stages ∷ s) (λ f. make
      ((staged.Map f.0 ∷ f.1.0.0, f.1.0.1), f.1.1))
      ∙ all d1 tt s (λ f. make ((staged.Map a ∷ f.0.0, f.0.1), f.1))
  all (store_stage-filter {a = a} {b = b} {ts = ts} {us = us} {vs = vs} d0 d1) fit s make = all d0 (before d1 tt) (store_stages ∷ s) (λ f. make
      ((staged.Filter f.0 ∷ f.1.0.0, f.1.0.1), f.1.1))
      ∙ all d1 tt s (λ f. make ((staged.Filter a ∷ f.0.0, f.0.1), f.1))
  all (store_stage-flat_map {a = a} {b = b} {ts = ts} {us = us} {vs = vs} d0 d1) fit s make = all d0 (before d1 tt) (store_stages ∷ s) (λ f. make
      ((staged.FlatMap f.0 ∷ f.1.0.0, f.1.0.1), f.1.1))
      ∙ all d1 tt s (λ f. make ((staged.FlatMap a ∷ f.0.0, f.0.1), f.1))
  all (store_stage-join {a = a} {b = b} {ts = ts} {us = us} {vs = vs} d0 d1) fit s make = all d0 tt (store_stages ∷ s) (λ f. make
      ((staged.LeftJoin f.0 ∷ f.1.0.0, f.1.0.1), f.1.1))
      ∙ all d1 tt s (λ f. make ((staged.LeftJoin a ∷ f.0.0, f.0.1), f.1))
  all (store_stage-sum {a = a} {ts = ts} {us = us} d0) fit s make = all d0 tt s (λ f. make (([], f.0), f.1))
  all (statement-source {a = a} {b = b} {c = c} {ts = ts} {us = us} {vs = vs} {ws = ws} d0 d1 d2) fit s make = all d0 tt (open_paren ∷ fields ∷ s)
      (λ f. make ((statements.Source f.0 f.1.1.0), f.1.1.1))
      ∙ all d1 tt (fields ∷ s) (λ f. make ((statements.Source a f.1.0), f.1.1))
      ∙ all d2 tt s (λ f. make ((statements.Source a f.0), f.1))
  all (statement-service {a = a} {b = b} {c = c} {d = d} {g = g} {h = h} {ts = ts} {us = us} {vs = vs} {ws = ws} {xs = xs} {ys = ys} {zs = zs} d0 d1 d2 d3 d4 d5) fit s make = all d0 tt
      (open_paren ∷ scalar ∷ arrow ∷ scalar ∷ close_paren ∷ s) (λ f. make ((statements.Service f.0 f.1.1.0 f.1.1.1.1.0), f.1.1.1.1.1.1))
      ∙ all d1 tt (scalar ∷ arrow ∷ scalar ∷ close_paren ∷ s) (λ f. make ((statements.Service a f.1.0 f.1.1.1.0), f.1.1.1.1.1))
      ∙ all d2 tt (arrow ∷ scalar ∷ close_paren ∷ s) (λ f. make ((statements.Service a f.0 f.1.1.0), f.1.1.1.1))
      ∙ all d3 tt (scalar ∷ close_paren ∷ s) (λ f. make ((statements.Service a c f.1.0), f.1.1.1))
      ∙ all d4 tt (close_paren ∷ s) (λ f. make ((statements.Service a c f.0), f.1.1))
      ∙ all d5 tt s (λ f. make ((statements.Service a c g), f.1))
  all (statement-let {a = a} {b = b} {c = c} {ts = ts} {us = us} {vs = vs} {ws = ws} d0 d1 d2) fit s make = all d0 tt (assign ∷ stream ∷ s)
      (λ f. make ((statements.Let f.0 f.1.1.0), f.1.1.1))
      ∙ all d1 tt (stream ∷ s) (λ f. make ((statements.Let a f.1.0), f.1.1))
      ∙ all d2 fit s (λ f. make ((statements.Let a f.0), f.1))
  all (statement-store {a = a} {b = b} {c = c} {d = d} {ts = ts} {us = us} {vs = vs} {ws = ws} {xs = xs} d0 d1 d2 d3) fit s make = all d0 tt
      (assign ∷ head ∷ store_stages ∷ s) (λ f. make (
        (statements.Store f.0 (roll-Stream
            (record { head = f.1.1.0; stages = f.1.1.1.0.0 })) f.1.1.1.0.1),
        f.1.1.1.1,
      ))
      ∙ all d1 tt (head ∷ store_stages ∷ s) (λ f. make (
        (statements.Store a (roll-Stream
            (record { head = f.1.0; stages = f.1.1.0.0 })) f.1.1.0.1),
        f.1.1.1,
      ))
      ∙ all d2 tt (store_stages ∷ s) (λ f. make ((statements.Store a (roll-Stream (record { head = f.0; stages = f.1.0.0 })) f.1.0.1), f.1.1))
      ∙ all d3 tt s (λ f. make ((statements.Store a (roll-Stream (record { head = c; stages = f.0.0 })) f.0.1), f.1))

done : (R : Type 0) (ws : List Token) (make : Forest [] → R) → run R ws [] make ≡ Ok (make tt, ws, tt)
done R [] make = refl
done R (_ ∷ ws) make = refl

-- a rule's tokens alone
pub all_alone : {r : Rule} {a : Tree r} {ts ws : List Token} → Derives r a ts ws → Fits (level r) ws → run (Tree r) ts (r ∷ []) (λ f. f.0) ≡ Ok
    (a, ws, tt)
all_alone {r = r} {a = a} {ws = ws} d fit = all (Tree r) d fit [] (λ f. f.0) ∙ done (Tree r) ws (λ f. a)
