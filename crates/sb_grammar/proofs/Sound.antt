-- What a step makes is made of parts whose tokens begin with the token.
use Rattle.std.proofs.Common.{◌≡◌, zero, suc, true, false, List, [], ◌∷◌, Option, Some, None, refl}
use Rattle.sb_tokens.specs.declared.keyword.Keyword.TheVariants as k
use Rattle.sb_tokens.specs.declared.symbol.Symbol.TheVariants as m
use Rattle.sb_tokens.specs.Keyword.{keyword_text}
use Rattle.sb_tokens.specs.Token.{Token}
use Rattle.sb_tokens.specs.Token as t
use Rattle.sb_grammar.specs.declared.programs.Statement.TheVariants as statements
use Rattle.sb_grammar.specs.declared.programs.Stream.{roll-Stream}
use Rattle.sb_grammar.specs.declared.programs.Head.TheVariants as heads
use Rattle.sb_grammar.specs.declared.programs.Stage.TheVariants as staged
use Rattle.sb_grammar.specs.declared.programs.MonoTree.TheVariants as monos
use Rattle.sb_grammar.specs.declared.expressions.Scalar.TheVariants as scalars
use Rattle.sb_grammar.specs.declared.expressions.TypeTree.TheVariants as types
use Rattle.sb_grammar.specs.declared.expressions.Expr.TheVariants as exprs
use Rattle.sb_grammar.specs.declared.expressions.Disj.{roll-Disj}
use Rattle.sb_grammar.specs.declared.expressions.Conj.{roll-Conj}
use Rattle.sb_grammar.specs.declared.expressions.Neg.TheVariants as negs
use Rattle.sb_grammar.specs.declared.expressions.CmpOp.TheVariants as operators
use Rattle.sb_grammar.specs.declared.expressions.Add.{roll-Add}
use Rattle.sb_grammar.specs.declared.expressions.AddRest.TheVariants as add_rest
use Rattle.sb_grammar.specs.declared.expressions.Prod.{roll-Prod}
use Rattle.sb_grammar.specs.declared.expressions.ProdRest.TheVariants as prod_rest
use Rattle.sb_grammar.specs.declared.expressions.Unary.TheVariants as unaries
use Rattle.sb_grammar.specs.declared.expressions.Post.{roll-Post}
use Rattle.sb_grammar.specs.declared.expressions.PostStep.TheVariants as steps
use Rattle.sb_grammar.specs.declared.expressions.Atom.TheVariants as atoms
use Rattle.sb_grammar.specs.Grammar.{Rule, Derives, group_of, cmp_of}
use Rattle.sb_grammar.specs.Grammar.{from_word, then_word, else_word, open_paren, close_paren, comma, colon, arrow, assign, number, positive, a_name}
use Rattle.sb_grammar.specs.Grammar.{scalar, batch, start, field, fields, more_fields, mono, a_type, atom, group_end, list_end, post_step, post_steps}
use Rattle.sb_grammar.specs.Grammar.{post, unary, prod_rests, prod, add_rests, add, comparison, cmp, neg, conj_rests, conj, disj_rests, disj, expr}
use Rattle.sb_grammar.specs.Grammar.{stage, stages, head, stream, store_stages, store_stage, statement}
use Rattle.sb_grammar.specs.Grammar.{from_word-it, then_word-it, else_word-it, open_paren-it, close_paren-it, comma-it, colon-it, arrow-it, assign-it}
use Rattle.sb_grammar.specs.Grammar.{number-it, positive-it, a_name-it, scalar-int, scalar-text, scalar-bool, batch-whole, start-minus, start-number}
use Rattle.sb_grammar.specs.Grammar.{field-name, field-keyword, fields-none, fields-some, more_fields-none, more_fields-some, mono-sum, mono-min}
use Rattle.sb_grammar.specs.Grammar.{mono-max, mono-first, mono-last, mono-concat, mono-set, mono-top, mono-cms, mono-hll, mono-pair, mono-map}
use Rattle.sb_grammar.specs.Grammar.{a_type-pair, a_type-opt, a_type-list, a_type-scalar, atom-int, atom-text, atom-true, atom-false, atom-it}
use Rattle.sb_grammar.specs.Grammar.{atom-group, atom-list, atom-empty, atom-none, atom-some, atom-orelse, atom-has, atom-lower, atom-words, atom-len}
use Rattle.sb_grammar.specs.Grammar.{atom-starts, group_end-close, group_end-second, list_end-close, list_end-more, post_step-name, post_step-keyword}
use Rattle.sb_grammar.specs.Grammar.{post_step-first, post_step-second, post_steps-dot, post_steps-none, post-whole, unary-minus, unary-plain}
use Rattle.sb_grammar.specs.Grammar.{prod_rests-times, prod_rests-over, prod_rests-modulo, prod_rests-none, prod-whole, add_rests-plus}
use Rattle.sb_grammar.specs.Grammar.{add_rests-minus, add_rests-none, add-whole, comparison-equal, comparison-unequal, comparison-less}
use Rattle.sb_grammar.specs.Grammar.{comparison-at_most, comparison-greater, comparison-at_least, comparison-none, cmp-whole, neg-not, neg-plain}
use Rattle.sb_grammar.specs.Grammar.{conj_rests-and, conj_rests-none, conj-whole, disj_rests-or, disj_rests-none, disj-whole, expr-if, expr-plain}
use Rattle.sb_grammar.specs.Grammar.{stage-map, stage-filter, stage-flat_map, stage-join, stages-bar, stages-none, head-name, head-merge}
use Rattle.sb_grammar.specs.Grammar.{stream-whole, store_stages-whole, store_stage-map, store_stage-filter, store_stage-flat_map, store_stage-join}
use Rattle.sb_grammar.specs.Grammar.{store_stage-sum, statement-source, statement-service, statement-let, statement-store}
use Rattle.sb_grammar.proofs.Machine.{Forest, Next, step, ends, step_from_word, step_then_word, step_else_word, step_open_paren, step_close_paren}
use Rattle.sb_grammar.proofs.Machine.{step_comma, step_colon, step_arrow, step_assign, step_number, step_positive, step_a_name, step_scalar}
use Rattle.sb_grammar.proofs.Machine.{step_batch, step_start, step_field, step_fields, step_more_fields, step_mono, step_a_type, step_atom}
use Rattle.sb_grammar.proofs.Machine.{step_group_end, step_list_end, step_post_step, step_post, step_unary, step_prod, step_add, step_cmp, step_neg}
use Rattle.sb_grammar.proofs.Machine.{step_conj, step_disj, step_expr, step_stage, step_head, step_stream, step_store_stages, step_store_stage}
use Rattle.sb_grammar.proofs.Machine.{step_statement}

-- the rules of a stack give tokens one after the other, up to where the second list begins
abbrev pub All : (s : List Rule) → Forest s → List Token → List Token → Type 0
All [] f ts ws = ts ≡ ws
All (r ∷ s) f ts ws = (us : List Token) × Derives r f.0 ts us × All s f.1 us ws

module _ (R : Type 0) where
  pub record Behind (s : List Rule) (make : Forest s → R) (made : R) (ts ws : List Token) : Type 0 where
    pub forest : Forest s
    pub makes : make forest ≡ made
    pub derived : All s forest ts ws

  abbrev pub IsStep : (s : List Rule) → (Forest s → R) → Token → Option (Next R) → Type 0
  IsStep s make x None = Unit {0}
  IsStep s make x (Some n) = (f : Forest n.stack) (ts ws : List Token) → All n.stack f ts ws → Behind s make (n.make f) (x ∷ ts) ws

  into : (s s1 : List Rule) (make : Forest s → R) (embed : Forest s1 → Forest s)
      → ((f : Forest s1) (ts ws : List Token) → All s1 f ts ws → All s (embed f) ts ws)
      → (x : Token) (o : Option (Next R)) → IsStep s1 (λ f. make (embed f)) x o → IsStep s make x o
  into s s1 make embed leads x None is = tt
  into s s1 make embed leads x (Some n) is = λ f ts ws d.
      let b = is f ts ws d in
      record { forest = embed b.forest; makes = b.makes; derived = leads b.forest (x ∷ ts) ws b.derived }

  is_from_word : (s : List Rule) (make : Forest (from_word ∷ s) → R) (x : Token) → IsStep (from_word ∷ s) make x (step_from_word R s make x)
  is_from_word s make (t.keyword k.From) = λ f ts ws d. record { forest = (tt, f); makes = refl; derived = (ts, from_word-it, d) }
  is_from_word s make _ = tt

  is_then_word : (s : List Rule) (make : Forest (then_word ∷ s) → R) (x : Token) → IsStep (then_word ∷ s) make x (step_then_word R s make x)
  is_then_word s make (t.keyword k.Then) = λ f ts ws d. record { forest = (tt, f); makes = refl; derived = (ts, then_word-it, d) }
  is_then_word s make _ = tt

  is_else_word : (s : List Rule) (make : Forest (else_word ∷ s) → R) (x : Token) → IsStep (else_word ∷ s) make x (step_else_word R s make x)
  is_else_word s make (t.keyword k.Else) = λ f ts ws d. record { forest = (tt, f); makes = refl; derived = (ts, else_word-it, d) }
  is_else_word s make _ = tt

  is_open_paren : (s : List Rule) (make : Forest (open_paren ∷ s) → R) (x : Token) → IsStep (open_paren ∷ s) make x (step_open_paren R s make x)
  is_open_paren s make (t.symbol m.OpenParen) = λ f ts ws d. record { forest = (tt, f); makes = refl; derived = (ts, open_paren-it, d) }
  is_open_paren s make _ = tt

  is_close_paren : (s : List Rule) (make : Forest (close_paren ∷ s) → R) (x : Token) → IsStep (close_paren ∷ s) make x (step_close_paren R s make x)
  is_close_paren s make (t.symbol m.CloseParen) = λ f ts ws d. record { forest = (tt, f); makes = refl; derived = (ts, close_paren-it, d) }
  is_close_paren s make _ = tt

  is_comma : (s : List Rule) (make : Forest (comma ∷ s) → R) (x : Token) → IsStep (comma ∷ s) make x (step_comma R s make x)
  is_comma s make (t.symbol m.Comma) = λ f ts ws d. record { forest = (tt, f); makes = refl; derived = (ts, comma-it, d) }
  is_comma s make _ = tt

  is_colon : (s : List Rule) (make : Forest (colon ∷ s) → R) (x : Token) → IsStep (colon ∷ s) make x (step_colon R s make x)
  is_colon s make (t.symbol m.Colon) = λ f ts ws d. record { forest = (tt, f); makes = refl; derived = (ts, colon-it, d) }
  is_colon s make _ = tt

  is_arrow : (s : List Rule) (make : Forest (arrow ∷ s) → R) (x : Token) → IsStep (arrow ∷ s) make x (step_arrow R s make x)
  is_arrow s make (t.symbol m.Arrow) = λ f ts ws d. record { forest = (tt, f); makes = refl; derived = (ts, arrow-it, d) }
  is_arrow s make _ = tt

  is_assign : (s : List Rule) (make : Forest (assign ∷ s) → R) (x : Token) → IsStep (assign ∷ s) make x (step_assign R s make x)
  is_assign s make (t.symbol m.Assign) = λ f ts ws d. record { forest = (tt, f); makes = refl; derived = (ts, assign-it, d) }
  is_assign s make _ = tt

  is_number : (s : List Rule) (make : Forest (number ∷ s) → R) (x : Token) → IsStep (number ∷ s) make x (step_number R s make x)
  is_number s make (t.int n) = λ f ts ws d. record { forest = (n, f); makes = refl; derived = (ts, number-it, d) }
  is_number s make _ = tt

  is_positive : (s : List Rule) (make : Forest (positive ∷ s) → R) (x : Token) → IsStep (positive ∷ s) make x (step_positive R s make x)
  is_positive s make (t.int (suc n)) = λ f ts ws d. record { forest = ((suc n), f); makes = refl; derived = (ts, positive-it, d) }
  is_positive s make _ = tt

  is_a_name : (s : List Rule) (make : Forest (a_name ∷ s) → R) (x : Token) → IsStep (a_name ∷ s) make x (step_a_name R s make x)
  is_a_name s make (t.name n) = λ f ts ws d. record { forest = (n, f); makes = refl; derived = (ts, a_name-it, d) }
  is_a_name s make _ = tt

  is_scalar : (s : List Rule) (make : Forest (scalar ∷ s) → R) (x : Token) → IsStep (scalar ∷ s) make x (step_scalar R s make x)
  is_scalar s make (t.keyword k.Int) = λ f ts ws d. record { forest = (scalars.Int, f); makes = refl; derived = (ts, scalar-int, d) }
  is_scalar s make (t.keyword k.Text) = λ f ts ws d. record { forest = (scalars.Text, f); makes = refl; derived = (ts, scalar-text, d) }
  is_scalar s make (t.keyword k.Bool) = λ f ts ws d. record { forest = (scalars.Bool, f); makes = refl; derived = (ts, scalar-bool, d) }
  is_scalar s make _ = tt

  is_batch : (s : List Rule) (make : Forest (batch ∷ s) → R) (x : Token) → IsStep (batch ∷ s) make x (step_batch R s make x)
  is_batch s make (t.keyword k.Batch) = λ f ts ws d. record {
    forest = ((f.0, f.1.1.0), f.1.1.1);
    makes = refl;
    derived =
        (d.2.2.0, batch-whole d.1 d.2.1 d.2.2.1, d.2.2.2);
  }
  is_batch s make _ = tt

  is_start : (s : List Rule) (make : Forest (start ∷ s) → R) (x : Token) → IsStep (start ∷ s) make x (step_start R s make x)
  is_start s make (t.symbol m.Minus) = λ f ts ws d. record { forest = ((true, f.0), f.1); makes = refl; derived = (d.0, start-minus d.1, d.2) }
  is_start s make (t.int n) = λ f ts ws d. record { forest = ((false, n), f); makes = refl; derived = (ts, start-number, d) }
  is_start s make _ = tt

  is_field : (s : List Rule) (make : Forest (field ∷ s) → R) (x : Token) → IsStep (field ∷ s) make x (step_field R s make x)
  is_field s make (t.name n) = λ f ts ws d. record {
    forest = ((record { name = n; scalar = f.1.0 }), f.1.1);
    makes = refl;
    derived =
        (d.2.0, field-name d.1 d.2.1, d.2.2);
  }
  is_field s make (t.keyword w) = λ f ts ws d. record {
    forest = (
      (record {
        name =
            (keyword_text w);
        scalar = f.1.0;
      }),
      f.1.1,
    );
    makes = refl;
    derived = (d.2.0, field-keyword d.1 d.2.1, d.2.2);
  }
  is_field s make _ = tt

  is_fields : (s : List Rule) (make : Forest (fields ∷ s) → R) (x : Token) → IsStep (fields ∷ s) make x (step_fields R s make x)
  is_fields s make (t.symbol m.CloseParen) = λ f ts ws d. record { forest = ([], f); makes = refl; derived = (ts, fields-none, d) }
  is_fields s make x = into (fields ∷ s) (field ∷ more_fields ∷ s) make (λ f. ((f.0 ∷ f.1.0), f.1.1)) (λ f ts ws d.
      (d.2.0, fields-some d.1 d.2.1, d.2.2)) x (step_field R (more_fields ∷ s) (λ f. make ((f.0 ∷ f.1.0), f.1.1)) x) (is_field (more_fields ∷ s)
      (λ f. make ((f.0 ∷ f.1.0), f.1.1)) x)

  is_more_fields : (s : List Rule) (make : Forest (more_fields ∷ s) → R) (x : Token) → IsStep (more_fields ∷ s) make x (step_more_fields R s make x)
  is_more_fields s make (t.symbol m.CloseParen) = λ f ts ws d. record { forest = ([], f); makes = refl; derived = (ts, more_fields-none, d) }
  is_more_fields s make (t.symbol m.Comma) = λ f ts ws d. record {
    forest = ((f.0 ∷ f.1.0), f.1.1);
    makes = refl;
    derived =
        (d.2.0, more_fields-some d.1 d.2.1, d.2.2);
  }
  is_more_fields s make _ = tt

  is_mono : (s : List Rule) (make : Forest (mono ∷ s) → R) (x : Token) → IsStep (mono ∷ s) make x (step_mono R s make x)
  is_mono s make (t.keyword k.Sum) = λ f ts ws d. record { forest = (monos.Sum, f); makes = refl; derived = (ts, mono-sum, d) }
  is_mono s make (t.keyword k.Min) = λ f ts ws d. record { forest = (monos.Min, f); makes = refl; derived = (ts, mono-min, d) }
  is_mono s make (t.keyword k.Max) = λ f ts ws d. record { forest = (monos.Max, f); makes = refl; derived = (ts, mono-max, d) }
  is_mono s make (t.keyword k.First) = λ f ts ws d. record { forest = (monos.First, f); makes = refl; derived = (ts, mono-first, d) }
  is_mono s make (t.keyword k.Last) = λ f ts ws d. record { forest = (monos.Last, f); makes = refl; derived = (ts, mono-last, d) }
  is_mono s make (t.keyword k.Concat) = λ f ts ws d. record { forest = (monos.Concat, f); makes = refl; derived = (ts, mono-concat, d) }
  is_mono s make (t.keyword k.Set) = λ f ts ws d. record { forest = (monos.Set, f); makes = refl; derived = (ts, mono-set, d) }
  is_mono s make (t.keyword k.Top) = λ f ts ws d. record {
    forest = ((monos.Top f.1.0), f.1.1.1);
    makes = refl;
    derived =
        (d.2.2.0, mono-top d.1 d.2.1 d.2.2.1, d.2.2.2);
  }
  is_mono s make (t.keyword k.Cms) = λ f ts ws d. record {
    forest = ((monos.Cms f.1.0 f.1.1.1.0), f.1.1.1.1.1);
    makes = refl;
    derived =
        (d.2.2.2.2.0, mono-cms d.1 d.2.1 d.2.2.1 d.2.2.2.1 d.2.2.2.2.1, d.2.2.2.2.2);
  }
  is_mono s make (t.keyword k.Hll) = λ f ts ws d. record {
    forest = ((monos.Hll f.1.0), f.1.1.1);
    makes = refl;
    derived =
        (d.2.2.0, mono-hll d.1 d.2.1 d.2.2.1, d.2.2.2);
  }
  is_mono s make (t.keyword k.Pair) = λ f ts ws d. record {
    forest = ((monos.Pair f.1.0 f.1.1.1.0), f.1.1.1.1.1);
    makes = refl;
    derived =
        (d.2.2.2.2.0, mono-pair d.1 d.2.1 d.2.2.1 d.2.2.2.1 d.2.2.2.2.1, d.2.2.2.2.2);
  }
  is_mono s make (t.keyword k.Map) = λ f ts ws d. record {
    forest = ((monos.Map f.1.0), f.1.1.1);
    makes = refl;
    derived =
        (d.2.2.0, mono-map d.1 d.2.1 d.2.2.1, d.2.2.2);
  }
  is_mono s make _ = tt

  is_a_type : (s : List Rule) (make : Forest (a_type ∷ s) → R) (x : Token) → IsStep (a_type ∷ s) make x (step_a_type R s make x)
  is_a_type s make (t.keyword k.Pair) = λ f ts ws d. record {
    forest = ((types.Pair f.1.0 f.1.1.1.0), f.1.1.1.1.1);
    makes = refl;
    derived =
        (d.2.2.2.2.0, a_type-pair d.1 d.2.1 d.2.2.1 d.2.2.2.1 d.2.2.2.2.1, d.2.2.2.2.2);
  }
  is_a_type s make (t.keyword k.Opt) = λ f ts ws d. record {
    forest = ((types.Opt f.1.0), f.1.1.1);
    makes = refl;
    derived =
        (d.2.2.0, a_type-opt d.1 d.2.1 d.2.2.1, d.2.2.2);
  }
  is_a_type s make (t.keyword k.List) = λ f ts ws d. record {
    forest = ((types.List f.1.0 f.1.1.1.0), f.1.1.1.1.1);
    makes = refl;
    derived =
        (d.2.2.2.2.0, a_type-list d.1 d.2.1 d.2.2.1 d.2.2.2.1 d.2.2.2.2.1, d.2.2.2.2.2);
  }
  is_a_type s make x = into (a_type ∷ s) (scalar ∷ s) make (λ f. ((types.Scalar f.0), f.1)) (λ f ts ws d. (d.0, a_type-scalar d.1, d.2)) x
      (step_scalar R s (λ f. make ((types.Scalar f.0), f.1)) x) (is_scalar s (λ f. make ((types.Scalar f.0), f.1)) x)

  is_atom : (s : List Rule) (make : Forest (atom ∷ s) → R) (x : Token) → IsStep (atom ∷ s) make x (step_atom R s make x)
  is_atom s make (t.int n) = λ f ts ws d. record { forest = ((atoms.Int n), f); makes = refl; derived = (ts, atom-int, d) }
  is_atom s make (t.text value) = λ f ts ws d. record { forest = ((atoms.Text value), f); makes = refl; derived = (ts, atom-text, d) }
  is_atom s make (t.keyword k.True) = λ f ts ws d. record { forest = (atoms.True, f); makes = refl; derived = (ts, atom-true, d) }
  is_atom s make (t.keyword k.False) = λ f ts ws d. record { forest = (atoms.False, f); makes = refl; derived = (ts, atom-false, d) }
  is_atom s make (t.keyword k.It) = λ f ts ws d. record { forest = (atoms.It, f); makes = refl; derived = (ts, atom-it, d) }
  is_atom s make (t.symbol m.OpenParen) = λ f ts ws d. record {
    forest = ((group_of f.0 f.1.0), f.1.1);
    makes = refl;
    derived =
        (d.2.0, atom-group d.1 d.2.1, d.2.2);
  }
  is_atom s make (t.symbol m.OpenBracket) = λ f ts ws d. record {
    forest = ((atoms.List (f.0 ∷ f.1.0)), f.1.1);
    makes = refl;
    derived =
        (d.2.0, atom-list d.1 d.2.1, d.2.2);
  }
  is_atom s make (t.keyword k.Empty) = λ f ts ws d. record {
    forest = ((atoms.Empty f.1.0), f.1.1.1);
    makes = refl;
    derived =
        (d.2.2.0, atom-empty d.1 d.2.1 d.2.2.1, d.2.2.2);
  }
  is_atom s make (t.keyword k.NoneOf) = λ f ts ws d. record {
    forest = ((atoms.NoneOf f.1.0), f.1.1.1);
    makes = refl;
    derived =
        (d.2.2.0, atom-none d.1 d.2.1 d.2.2.1, d.2.2.2);
  }
  is_atom s make (t.keyword k.SomeOf) = λ f ts ws d. record {
    forest = ((atoms.SomeOf f.1.0), f.1.1.1);
    makes = refl;
    derived =
        (d.2.2.0, atom-some d.1 d.2.1 d.2.2.1, d.2.2.2);
  }
  is_atom s make (t.keyword k.Orelse) = λ f ts ws d. record {
    forest = ((atoms.Orelse f.1.0 f.1.1.1.0), f.1.1.1.1.1);
    makes = refl;
    derived =
        (d.2.2.2.2.0, atom-orelse d.1 d.2.1 d.2.2.1 d.2.2.2.1 d.2.2.2.2.1, d.2.2.2.2.2);
  }
  is_atom s make (t.keyword k.Has) = λ f ts ws d. record {
    forest = ((atoms.Has f.1.0), f.1.1.1);
    makes = refl;
    derived =
        (d.2.2.0, atom-has d.1 d.2.1 d.2.2.1, d.2.2.2);
  }
  is_atom s make (t.keyword k.Lower) = λ f ts ws d. record {
    forest = ((atoms.Lower f.1.0), f.1.1.1);
    makes = refl;
    derived =
        (d.2.2.0, atom-lower d.1 d.2.1 d.2.2.1, d.2.2.2);
  }
  is_atom s make (t.keyword k.Words) = λ f ts ws d. record {
    forest = ((atoms.Words f.1.0 f.1.1.1.0), f.1.1.1.1.1);
    makes = refl;
    derived =
        (d.2.2.2.2.0, atom-words d.1 d.2.1 d.2.2.1 d.2.2.2.1 d.2.2.2.2.1, d.2.2.2.2.2);
  }
  is_atom s make (t.keyword k.Len) = λ f ts ws d. record {
    forest = ((atoms.Len f.1.0), f.1.1.1);
    makes = refl;
    derived =
        (d.2.2.0, atom-len d.1 d.2.1 d.2.2.1, d.2.2.2);
  }
  is_atom s make (t.keyword k.Starts) = λ f ts ws d. record {
    forest = ((atoms.Starts f.1.0 f.1.1.1.0), f.1.1.1.1.1);
    makes = refl;
    derived =
        (d.2.2.2.2.0, atom-starts d.1 d.2.1 d.2.2.1 d.2.2.2.1 d.2.2.2.2.1, d.2.2.2.2.2);
  }
  is_atom s make _ = tt

  is_group_end : (s : List Rule) (make : Forest (group_end ∷ s) → R) (x : Token) → IsStep (group_end ∷ s) make x (step_group_end R s make x)
  is_group_end s make (t.symbol m.CloseParen) = λ f ts ws d. record { forest = (None, f); makes = refl; derived = (ts, group_end-close, d) }
  is_group_end s make (t.symbol m.Comma) = λ f ts ws d. record {
    forest = ((Some f.0), f.1.1);
    makes = refl;
    derived =
        (d.2.0, group_end-second d.1 d.2.1, d.2.2);
  }
  is_group_end s make _ = tt

  is_list_end : (s : List Rule) (make : Forest (list_end ∷ s) → R) (x : Token) → IsStep (list_end ∷ s) make x (step_list_end R s make x)
  is_list_end s make (t.symbol m.CloseBracket) = λ f ts ws d. record { forest = ([], f); makes = refl; derived = (ts, list_end-close, d) }
  is_list_end s make (t.symbol m.Comma) = λ f ts ws d. record {
    forest = ((f.0 ∷ f.1.0), f.1.1);
    makes = refl;
    derived =
        (d.2.0, list_end-more d.1 d.2.1, d.2.2);
  }
  is_list_end s make _ = tt

  is_post_step : (s : List Rule) (make : Forest (post_step ∷ s) → R) (x : Token) → IsStep (post_step ∷ s) make x (step_post_step R s make x)
  is_post_step s make (t.name n) = λ f ts ws d. record { forest = ((steps.Field n), f); makes = refl; derived = (ts, post_step-name, d) }
  is_post_step s make (t.keyword w) = λ f ts ws d. record {
    forest = ((steps.Field (keyword_text w)), f);
    makes = refl;
    derived =
        (ts, post_step-keyword, d);
  }
  is_post_step s make (t.int (suc zero)) = λ f ts ws d. record { forest = (steps.First, f); makes = refl; derived = (ts, post_step-first, d) }
  is_post_step s make (t.int (suc (suc zero))) = λ f ts ws d. record { forest = (steps.Second, f); makes = refl; derived = (ts, post_step-second, d) }
  is_post_step s make _ = tt

  is_post : (s : List Rule) (make : Forest (post ∷ s) → R) (x : Token) → IsStep (post ∷ s) make x (step_post R s make x)
  is_post s make x = into (post ∷ s) (atom ∷ post_steps ∷ s) make (λ f. ((roll-Post (record { atom = f.0; steps = f.1.0 })), f.1.1)) (λ f ts ws d.
      (d.2.0, post-whole d.1 d.2.1, d.2.2)) x (step_atom R (post_steps ∷ s) (λ f. make (
        (roll-Post
            (record { atom = f.0; steps = f.1.0 })),
        f.1.1,
      )) x) (is_atom (post_steps ∷ s) (λ f. make (
        (roll-Post
            (record { atom = f.0; steps = f.1.0 })),
        f.1.1,
      )) x)

  is_unary : (s : List Rule) (make : Forest (unary ∷ s) → R) (x : Token) → IsStep (unary ∷ s) make x (step_unary R s make x)
  is_unary s make (t.symbol m.Minus) = λ f ts ws d. record {
    forest = ((unaries.Minus f.0), f.1);
    makes = refl;
    derived =
        (d.0, unary-minus d.1, d.2);
  }
  is_unary s make x = into (unary ∷ s) (post ∷ s) make (λ f. ((unaries.Plain f.0), f.1)) (λ f ts ws d. (d.0, unary-plain d.1, d.2)) x (step_post R s
      (λ f. make ((unaries.Plain f.0), f.1)) x) (is_post s (λ f. make ((unaries.Plain f.0), f.1)) x)

  is_prod : (s : List Rule) (make : Forest (prod ∷ s) → R) (x : Token) → IsStep (prod ∷ s) make x (step_prod R s make x)
  is_prod s make x = into (prod ∷ s) (unary ∷ prod_rests ∷ s) make (λ f. ((roll-Prod (record { first = f.0; rest = f.1.0 })), f.1.1)) (λ f ts ws d.
      (d.2.0, prod-whole d.1 d.2.1, d.2.2)) x (step_unary R (prod_rests ∷ s) (λ f. make (
        (roll-Prod
            (record { first = f.0; rest = f.1.0 })),
        f.1.1,
      )) x) (is_unary (prod_rests ∷ s) (λ f. make (
        (roll-Prod
            (record { first = f.0; rest = f.1.0 })),
        f.1.1,
      )) x)

  is_add : (s : List Rule) (make : Forest (add ∷ s) → R) (x : Token) → IsStep (add ∷ s) make x (step_add R s make x)
  is_add s make x = into (add ∷ s) (prod ∷ add_rests ∷ s) make (λ f. ((roll-Add (record { first = f.0; rest = f.1.0 })), f.1.1)) (λ f ts ws d.
      (d.2.0, add-whole d.1 d.2.1, d.2.2)) x (step_prod R (add_rests ∷ s) (λ f. make ((roll-Add (record { first = f.0; rest = f.1.0 })), f.1.1)) x)
      (is_prod (add_rests ∷ s) (λ f. make ((roll-Add (record { first = f.0; rest = f.1.0 })), f.1.1)) x)

  is_cmp : (s : List Rule) (make : Forest (cmp ∷ s) → R) (x : Token) → IsStep (cmp ∷ s) make x (step_cmp R s make x)
  is_cmp s make x = into (cmp ∷ s) (add ∷ comparison ∷ s) make (λ f. ((cmp_of f.0 f.1.0), f.1.1)) (λ f ts ws d.
      (d.2.0, cmp-whole d.1 d.2.1, d.2.2)) x (step_add R (comparison ∷ s) (λ f. make ((cmp_of f.0 f.1.0), f.1.1)) x) (is_add (comparison ∷ s)
      (λ f. make ((cmp_of f.0 f.1.0), f.1.1)) x)

  is_neg : (s : List Rule) (make : Forest (neg ∷ s) → R) (x : Token) → IsStep (neg ∷ s) make x (step_neg R s make x)
  is_neg s make (t.keyword k.Not) = λ f ts ws d. record { forest = ((negs.Not f.0), f.1); makes = refl; derived = (d.0, neg-not d.1, d.2) }
  is_neg s make x = into (neg ∷ s) (cmp ∷ s) make (λ f. ((negs.Plain f.0), f.1)) (λ f ts ws d. (d.0, neg-plain d.1, d.2)) x (step_cmp R s (λ f. make
      ((negs.Plain f.0), f.1)) x) (is_cmp s (λ f. make ((negs.Plain f.0), f.1)) x)

  is_conj : (s : List Rule) (make : Forest (conj ∷ s) → R) (x : Token) → IsStep (conj ∷ s) make x (step_conj R s make x)
  is_conj s make x = into (conj ∷ s) (neg ∷ conj_rests ∷ s) make (λ f. ((roll-Conj (record { first = f.0; rest = f.1.0 })), f.1.1)) (λ f ts ws d.
      (d.2.0, conj-whole d.1 d.2.1, d.2.2)) x (step_neg R (conj_rests ∷ s) (λ f. make (
        (roll-Conj
            (record { first = f.0; rest = f.1.0 })),
        f.1.1,
      )) x) (is_neg (conj_rests ∷ s) (λ f. make (
        (roll-Conj
            (record { first = f.0; rest = f.1.0 })),
        f.1.1,
      )) x)

  is_disj : (s : List Rule) (make : Forest (disj ∷ s) → R) (x : Token) → IsStep (disj ∷ s) make x (step_disj R s make x)
  is_disj s make x = into (disj ∷ s) (conj ∷ disj_rests ∷ s) make (λ f. ((roll-Disj (record { first = f.0; rest = f.1.0 })), f.1.1)) (λ f ts ws d.
      (d.2.0, disj-whole d.1 d.2.1, d.2.2)) x (step_conj R (disj_rests ∷ s) (λ f. make (
        (roll-Disj
            (record { first = f.0; rest = f.1.0 })),
        f.1.1,
      )) x) (is_conj (disj_rests ∷ s) (λ f. make (
        (roll-Disj
            (record { first = f.0; rest = f.1.0 })),
        f.1.1,
      )) x)

  is_expr : (s : List Rule) (make : Forest (expr ∷ s) → R) (x : Token) → IsStep (expr ∷ s) make x (step_expr R s make x)
  is_expr s make (t.keyword k.If) = λ f ts ws d. record {
    forest = ((exprs.If f.0 f.1.1.0 f.1.1.1.1.0), f.1.1.1.1.1);
    makes = refl;
    derived =
        (d.2.2.2.2.0, expr-if d.1 d.2.1 d.2.2.1 d.2.2.2.1 d.2.2.2.2.1, d.2.2.2.2.2);
  }
  is_expr s make x = into (expr ∷ s) (disj ∷ s) make (λ f. ((exprs.Plain f.0), f.1)) (λ f ts ws d. (d.0, expr-plain d.1, d.2)) x (step_disj R s
      (λ f. make ((exprs.Plain f.0), f.1)) x) (is_disj s (λ f. make ((exprs.Plain f.0), f.1)) x)

  is_stage : (s : List Rule) (make : Forest (stage ∷ s) → R) (x : Token) → IsStep (stage ∷ s) make x (step_stage R s make x)
  is_stage s make (t.keyword k.Map) = λ f ts ws d. record { forest = ((staged.Map f.0), f.1); makes = refl; derived = (d.0, stage-map d.1, d.2) }
  is_stage s make (t.keyword k.Filter) = λ f ts ws d. record {
    forest = ((staged.Filter f.0), f.1);
    makes = refl;
    derived =
        (d.0, stage-filter d.1, d.2);
  }
  is_stage s make (t.keyword k.FlatMap) = λ f ts ws d. record {
    forest = ((staged.FlatMap f.0), f.1);
    makes = refl;
    derived =
        (d.0, stage-flat_map d.1, d.2);
  }
  is_stage s make (t.keyword k.LeftJoin) = λ f ts ws d. record {
    forest = ((staged.LeftJoin f.0), f.1);
    makes = refl;
    derived =
        (d.0, stage-join d.1, d.2);
  }
  is_stage s make _ = tt

  is_head : (s : List Rule) (make : Forest (head ∷ s) → R) (x : Token) → IsStep (head ∷ s) make x (step_head R s make x)
  is_head s make (t.name n) = λ f ts ws d. record { forest = ((heads.Name n), f); makes = refl; derived = (ts, head-name, d) }
  is_head s make (t.keyword k.Merge) = λ f ts ws d. record {
    forest = ((heads.Merge f.1.0 f.1.1.1.0), f.1.1.1.1.1);
    makes = refl;
    derived =
        (d.2.2.2.2.0, head-merge d.1 d.2.1 d.2.2.1 d.2.2.2.1 d.2.2.2.2.1, d.2.2.2.2.2);
  }
  is_head s make _ = tt

  is_stream : (s : List Rule) (make : Forest (stream ∷ s) → R) (x : Token) → IsStep (stream ∷ s) make x (step_stream R s make x)
  is_stream s make x = into (stream ∷ s) (head ∷ stages ∷ s) make (λ f. ((roll-Stream (record { head = f.0; stages = f.1.0 })), f.1.1))
      (λ f ts ws d. (d.2.0, stream-whole d.1 d.2.1, d.2.2)) x (step_head R (stages ∷ s) (λ f. make (
        (roll-Stream
            (record { head = f.0; stages = f.1.0 })),
        f.1.1,
      )) x) (is_head (stages ∷ s) (λ f. make (
        (roll-Stream
            (record { head = f.0; stages = f.1.0 })),
        f.1.1,
      )) x)

  is_store_stages : (s : List Rule) (make : Forest (store_stages ∷ s) → R) (x : Token) → IsStep (store_stages ∷ s) make x
      (step_store_stages R s make x)
  is_store_stages s make (t.symbol m.Bar) = λ f ts ws d. record { forest = (f.0, f.1); makes = refl; derived = (d.0, store_stages-whole d.1, d.2) }
  is_store_stages s make _ = tt

  is_store_stage : (s : List Rule) (make : Forest (store_stage ∷ s) → R) (x : Token) → IsStep (store_stage ∷ s) make x (step_store_stage R s make x)
  is_store_stage s make (t.keyword k.Map) = λ f ts ws d. record {
    forest = ((staged.Map f.0 ∷ f.1.0.0, f.1.0.1), f.1.1);
    makes = refl;
    derived =
        (d.2.0, store_stage-map d.1 d.2.1, d.2.2);
  }
  is_store_stage s make (t.keyword k.Filter) = λ f ts ws d. record {
    forest =
        ((staged.Filter f.0 ∷ f.1.0.0, f.1.0.1), f.1.1);
    makes = refl;
    derived = (d.2.0, store_stage-filter d.1 d.2.1, d.2.2);
  }
  is_store_stage s make (t.keyword k.FlatMap) = λ f ts ws d. record {
    forest =
        ((staged.FlatMap f.0 ∷ f.1.0.0, f.1.0.1), f.1.1);
    makes = refl;
    derived = (d.2.0, store_stage-flat_map d.1 d.2.1, d.2.2);
  }
  is_store_stage s make (t.keyword k.LeftJoin) = λ f ts ws d. record {
    forest =
        ((staged.LeftJoin f.0 ∷ f.1.0.0, f.1.0.1), f.1.1);
    makes = refl;
    derived = (d.2.0, store_stage-join d.1 d.2.1, d.2.2);
  }
  is_store_stage s make (t.keyword k.SumByKey) = λ f ts ws d. record {
    forest = (([], f.0), f.1);
    makes = refl;
    derived =
        (d.0, store_stage-sum d.1, d.2);
  }
  is_store_stage s make _ = tt

  is_statement : (s : List Rule) (make : Forest (statement ∷ s) → R) (x : Token) → IsStep (statement ∷ s) make x (step_statement R s make x)
  is_statement s make (t.keyword k.Source) = λ f ts ws d. record {
    forest = ((statements.Source f.0 f.1.1.0), f.1.1.1);
    makes = refl;
    derived =
        (d.2.2.0, statement-source d.1 d.2.1 d.2.2.1, d.2.2.2);
  }
  is_statement s make (t.keyword k.Service) = λ f ts ws d. record {
    forest =
        ((statements.Service f.0 f.1.1.0 f.1.1.1.1.0), f.1.1.1.1.1.1);
    makes = refl;
    derived =
        (d.2.2.2.2.2.0, statement-service d.1 d.2.1 d.2.2.1 d.2.2.2.1 d.2.2.2.2.1 d.2.2.2.2.2.1, d.2.2.2.2.2.2);
  }
  is_statement s make (t.keyword k.Let) = λ f ts ws d. record {
    forest = ((statements.Let f.0 f.1.1.0), f.1.1.1);
    makes = refl;
    derived =
        (d.2.2.0, statement-let d.1 d.2.1 d.2.2.1, d.2.2.2);
  }
  is_statement s make (t.keyword k.Store) = λ f ts ws d. record {
    forest = (
      (statements.Store f.0 (roll-Stream
          (record { head = f.1.1.0; stages = f.1.1.1.0.0 })) f.1.1.1.0.1),
      f.1.1.1.1,
    );
    makes = refl;
    derived =
        (d.2.2.2.0, statement-store d.1 d.2.1 d.2.2.1 d.2.2.2.1, d.2.2.2.2);
  }
  is_statement s make _ = tt

  pub is_step : (s : List Rule) (make : Forest s → R) (x : Token) → IsStep s make x (step R s make x)
  is_step [] make x = tt
  is_step (from_word ∷ s) make x = is_from_word s make x
  is_step (then_word ∷ s) make x = is_then_word s make x
  is_step (else_word ∷ s) make x = is_else_word s make x
  is_step (open_paren ∷ s) make x = is_open_paren s make x
  is_step (close_paren ∷ s) make x = is_close_paren s make x
  is_step (comma ∷ s) make x = is_comma s make x
  is_step (colon ∷ s) make x = is_colon s make x
  is_step (arrow ∷ s) make x = is_arrow s make x
  is_step (assign ∷ s) make x = is_assign s make x
  is_step (number ∷ s) make x = is_number s make x
  is_step (positive ∷ s) make x = is_positive s make x
  is_step (a_name ∷ s) make x = is_a_name s make x
  is_step (scalar ∷ s) make x = is_scalar s make x
  is_step (batch ∷ s) make x = is_batch s make x
  is_step (start ∷ s) make x = is_start s make x
  is_step (field ∷ s) make x = is_field s make x
  is_step (fields ∷ s) make x = is_fields s make x
  is_step (more_fields ∷ s) make x = is_more_fields s make x
  is_step (mono ∷ s) make x = is_mono s make x
  is_step (a_type ∷ s) make x = is_a_type s make x
  is_step (atom ∷ s) make x = is_atom s make x
  is_step (group_end ∷ s) make x = is_group_end s make x
  is_step (list_end ∷ s) make x = is_list_end s make x
  is_step (post_step ∷ s) make x = is_post_step s make x
  is_step (post_steps ∷ s) make (t.symbol m.Dot) = λ f ts ws d. record {
    forest = ((f.0 ∷ f.1.0), f.1.1);
    makes = refl;
    derived =
        (d.2.0, post_steps-dot d.1 d.2.1, d.2.2);
  }
  is_step (post_steps ∷ s) make x = into (post_steps ∷ s) s make (λ f. ([], f)) (λ f ts ws d. (ts, post_steps-none, d)) x (step R s (λ f. make
      ([], f)) x) (is_step s (λ f. make ([], f)) x)
  is_step (post ∷ s) make x = is_post s make x
  is_step (unary ∷ s) make x = is_unary s make x
  is_step (prod_rests ∷ s) make (t.symbol m.Star) = λ f ts ws d. record {
    forest = ((prod_rest.Times f.0 ∷ f.1.0), f.1.1);
    makes = refl;
    derived =
        (d.2.0, prod_rests-times d.1 d.2.1, d.2.2);
  }
  is_step (prod_rests ∷ s) make (t.symbol m.Slash) = λ f ts ws d. record {
    forest = ((prod_rest.Over f.0 ∷ f.1.0), f.1.1);
    makes = refl;
    derived =
        (d.2.0, prod_rests-over d.1 d.2.1, d.2.2);
  }
  is_step (prod_rests ∷ s) make (t.symbol m.Percent) = λ f ts ws d. record {
    forest =
        ((prod_rest.Modulo f.0 ∷ f.1.0), f.1.1);
    makes = refl;
    derived = (d.2.0, prod_rests-modulo d.1 d.2.1, d.2.2);
  }
  is_step (prod_rests ∷ s) make x = into (prod_rests ∷ s) s make (λ f. ([], f)) (λ f ts ws d. (ts, prod_rests-none, d)) x (step R s (λ f. make
      ([], f)) x) (is_step s (λ f. make ([], f)) x)
  is_step (prod ∷ s) make x = is_prod s make x
  is_step (add_rests ∷ s) make (t.symbol m.Plus) = λ f ts ws d. record {
    forest = ((add_rest.Plus f.0 ∷ f.1.0), f.1.1);
    makes = refl;
    derived =
        (d.2.0, add_rests-plus d.1 d.2.1, d.2.2);
  }
  is_step (add_rests ∷ s) make (t.symbol m.Minus) = λ f ts ws d. record {
    forest = ((add_rest.Minus f.0 ∷ f.1.0), f.1.1);
    makes = refl;
    derived =
        (d.2.0, add_rests-minus d.1 d.2.1, d.2.2);
  }
  is_step (add_rests ∷ s) make x = into (add_rests ∷ s) s make (λ f. ([], f)) (λ f ts ws d. (ts, add_rests-none, d)) x (step R s (λ f. make
      ([], f)) x) (is_step s (λ f. make ([], f)) x)
  is_step (add ∷ s) make x = is_add s make x
  is_step (comparison ∷ s) make (t.symbol m.Equal) = λ f ts ws d. record {
    forest = ((Some (operators.Equal, f.0)), f.1);
    makes = refl;
    derived =
        (d.0, comparison-equal d.1, d.2);
  }
  is_step (comparison ∷ s) make (t.symbol m.Unequal) = λ f ts ws d. record {
    forest = (
      (Some
          (operators.Unequal, f.0)),
      f.1,
    );
    makes = refl;
    derived = (d.0, comparison-unequal d.1, d.2);
  }
  is_step (comparison ∷ s) make (t.symbol m.Less) = λ f ts ws d. record {
    forest = ((Some (operators.Less, f.0)), f.1);
    makes = refl;
    derived =
        (d.0, comparison-less d.1, d.2);
  }
  is_step (comparison ∷ s) make (t.symbol m.AtMost) = λ f ts ws d. record {
    forest = ((Some (operators.AtMost, f.0)), f.1);
    makes = refl;
    derived =
        (d.0, comparison-at_most d.1, d.2);
  }
  is_step (comparison ∷ s) make (t.symbol m.Greater) = λ f ts ws d. record {
    forest = (
      (Some
          (operators.Greater, f.0)),
      f.1,
    );
    makes = refl;
    derived = (d.0, comparison-greater d.1, d.2);
  }
  is_step (comparison ∷ s) make (t.symbol m.AtLeast) = λ f ts ws d. record {
    forest = (
      (Some
          (operators.AtLeast, f.0)),
      f.1,
    );
    makes = refl;
    derived = (d.0, comparison-at_least d.1, d.2);
  }
  is_step (comparison ∷ s) make x = into (comparison ∷ s) s make (λ f. (None, f)) (λ f ts ws d. (ts, comparison-none, d)) x (step R s (λ f. make
      (None, f)) x) (is_step s (λ f. make (None, f)) x)
  is_step (cmp ∷ s) make x = is_cmp s make x
  is_step (neg ∷ s) make x = is_neg s make x
  is_step (conj_rests ∷ s) make (t.keyword k.And) = λ f ts ws d. record {
    forest = ((f.0 ∷ f.1.0), f.1.1);
    makes = refl;
    derived =
        (d.2.0, conj_rests-and d.1 d.2.1, d.2.2);
  }
  is_step (conj_rests ∷ s) make x = into (conj_rests ∷ s) s make (λ f. ([], f)) (λ f ts ws d. (ts, conj_rests-none, d)) x (step R s (λ f. make
      ([], f)) x) (is_step s (λ f. make ([], f)) x)
  is_step (conj ∷ s) make x = is_conj s make x
  is_step (disj_rests ∷ s) make (t.keyword k.Or) = λ f ts ws d. record {
    forest = ((f.0 ∷ f.1.0), f.1.1);
    makes = refl;
    derived =
        (d.2.0, disj_rests-or d.1 d.2.1, d.2.2);
  }
  is_step (disj_rests ∷ s) make x = into (disj_rests ∷ s) s make (λ f. ([], f)) (λ f ts ws d. (ts, disj_rests-none, d)) x (step R s (λ f. make
      ([], f)) x) (is_step s (λ f. make ([], f)) x)
  is_step (disj ∷ s) make x = is_disj s make x
  is_step (expr ∷ s) make x = is_expr s make x
  is_step (stage ∷ s) make x = is_stage s make x
  is_step (stages ∷ s) make (t.symbol m.Bar) = λ f ts ws d. record {
    forest = ((f.0 ∷ f.1.0), f.1.1);
    makes = refl;
    derived =
        (d.2.0, stages-bar d.1 d.2.1, d.2.2);
  }
  is_step (stages ∷ s) make x = into (stages ∷ s) s make (λ f. ([], f)) (λ f ts ws d. (ts, stages-none, d)) x (step R s (λ f. make ([], f)) x)
      (is_step s (λ f. make ([], f)) x)
  is_step (head ∷ s) make x = is_head s make x
  is_step (stream ∷ s) make x = is_stream s make x
  is_step (store_stages ∷ s) make x = is_store_stages s make x
  is_step (store_stage ∷ s) make x = is_store_stage s make x
  is_step (statement ∷ s) make x = is_statement s make x

  -- where nothing more has to come, nothing gives what is made
  pub is_end : (s : List Rule) (make : Forest s → R) (r : R) (ws : List Token) → ends R s make ≡ Some r → Behind s make r ws ws
  is_end [] make r ws is = record { forest = tt; makes = cc; derived = refl }
  is_end (post_steps ∷ s) make r ws is = let b = is_end s (λ f. make ([], f)) r ws is in record {
    forest =
        ([], b.forest);
    makes = b.makes;
    derived = (ws, post_steps-none, b.derived);
  }
  is_end (prod_rests ∷ s) make r ws is = let b = is_end s (λ f. make ([], f)) r ws is in record {
    forest =
        ([], b.forest);
    makes = b.makes;
    derived = (ws, prod_rests-none, b.derived);
  }
  is_end (add_rests ∷ s) make r ws is = let b = is_end s (λ f. make ([], f)) r ws is in record {
    forest = ([], b.forest);
    makes = b.makes;
    derived =
        (ws, add_rests-none, b.derived);
  }
  is_end (comparison ∷ s) make r ws is = let b = is_end s (λ f. make (None, f)) r ws is in record {
    forest =
        (None, b.forest);
    makes = b.makes;
    derived = (ws, comparison-none, b.derived);
  }
  is_end (conj_rests ∷ s) make r ws is = let b = is_end s (λ f. make ([], f)) r ws is in record {
    forest =
        ([], b.forest);
    makes = b.makes;
    derived = (ws, conj_rests-none, b.derived);
  }
  is_end (disj_rests ∷ s) make r ws is = let b = is_end s (λ f. make ([], f)) r ws is in record {
    forest =
        ([], b.forest);
    makes = b.makes;
    derived = (ws, disj_rests-none, b.derived);
  }
  is_end (stages ∷ s) make r ws is = let b = is_end s (λ f. make ([], f)) r ws is in record {
    forest = ([], b.forest);
    makes = b.makes;
    derived =
        (ws, stages-none, b.derived);
  }
  is_end (_ ∷ s) make r ws is = cc
