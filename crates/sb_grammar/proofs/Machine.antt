-- What may still come, as a stack of rules, and the step at one token.
use Rattle.std.specs.Prelude.{zero, suc, true, false, List, [], ◌∷◌, Option, Some, None, Result, Ok, Err}
use Rattle.sb_tokens.specs.declared.keyword.Keyword.TheVariants as k
use Rattle.sb_tokens.specs.declared.symbol.Symbol.TheVariants as m
use Rattle.sb_tokens.specs.Keyword.{keyword_text}
use Rattle.sb_tokens.specs.Token.{Token}
use Rattle.sb_tokens.specs.Token as t
use Rattle.sb_grammar.specs.declared.programs.Statement.TheVariants as statements
use Rattle.sb_grammar.specs.declared.programs.Stream.{roll-Stream}
use Rattle.sb_grammar.specs.declared.programs.Head.TheVariants as heads
use Rattle.sb_grammar.specs.declared.programs.Stage.TheVariants as staged
use Rattle.sb_grammar.specs.declared.programs.MonoTree.TheVariants as monos
use Rattle.sb_grammar.specs.declared.expressions.Scalar.TheVariants as scalars
use Rattle.sb_grammar.specs.declared.expressions.TypeTree.TheVariants as types
use Rattle.sb_grammar.specs.declared.expressions.Expr.TheVariants as exprs
use Rattle.sb_grammar.specs.declared.expressions.Disj.{roll-Disj}
use Rattle.sb_grammar.specs.declared.expressions.Conj.{roll-Conj}
use Rattle.sb_grammar.specs.declared.expressions.Neg.TheVariants as negs
use Rattle.sb_grammar.specs.declared.expressions.CmpOp.TheVariants as operators
use Rattle.sb_grammar.specs.declared.expressions.Add.{roll-Add}
use Rattle.sb_grammar.specs.declared.expressions.AddRest.TheVariants as add_rest
use Rattle.sb_grammar.specs.declared.expressions.Prod.{roll-Prod}
use Rattle.sb_grammar.specs.declared.expressions.ProdRest.TheVariants as prod_rest
use Rattle.sb_grammar.specs.declared.expressions.Unary.TheVariants as unaries
use Rattle.sb_grammar.specs.declared.expressions.Post.{roll-Post}
use Rattle.sb_grammar.specs.declared.expressions.PostStep.TheVariants as steps
use Rattle.sb_grammar.specs.declared.expressions.Atom.TheVariants as atoms
use Rattle.sb_grammar.specs.Grammar.{Rule, Tree, group_of, cmp_of}
use Rattle.sb_grammar.specs.Grammar.{from_word, then_word, else_word, open_paren, close_paren, comma, colon, arrow, assign, number, positive, a_name}
use Rattle.sb_grammar.specs.Grammar.{scalar, batch, start, field, fields, more_fields, mono, a_type, atom, group_end, list_end, post_step, post_steps}
use Rattle.sb_grammar.specs.Grammar.{post, unary, prod_rests, prod, add_rests, add, comparison, cmp, neg, conj_rests, conj, disj_rests, disj, expr}
use Rattle.sb_grammar.specs.Grammar.{stage, stages, head, stream, store_stages, store_stage, statement}

abbrev pub Forest : List Rule → Type 0
Forest [] = Unit {0}
Forest (r ∷ s) = Tree r × Forest s

-- what is to come after a token, and what it makes
pub record Next (R : Type 0) : Type 0 where
  pub stack : List Rule
  pub make : Forest stack → R

module _ (R : Type 0) where
  abbrev pub step_from_word : (s : List Rule) → (Forest (from_word ∷ s) → R) → Token → Option (Next R)
  step_from_word s make (t.keyword k.From) = Some (record { stack = s; make = λ f. make (tt, f) })
  step_from_word s make _ = None

  abbrev pub step_then_word : (s : List Rule) → (Forest (then_word ∷ s) → R) → Token → Option (Next R)
  step_then_word s make (t.keyword k.Then) = Some (record { stack = s; make = λ f. make (tt, f) })
  step_then_word s make _ = None

  abbrev pub step_else_word : (s : List Rule) → (Forest (else_word ∷ s) → R) → Token → Option (Next R)
  step_else_word s make (t.keyword k.Else) = Some (record { stack = s; make = λ f. make (tt, f) })
  step_else_word s make _ = None

  abbrev pub step_open_paren : (s : List Rule) → (Forest (open_paren ∷ s) → R) → Token → Option (Next R)
  step_open_paren s make (t.symbol m.OpenParen) = Some (record { stack = s; make = λ f. make (tt, f) })
  step_open_paren s make _ = None

  abbrev pub step_close_paren : (s : List Rule) → (Forest (close_paren ∷ s) → R) → Token → Option (Next R)
  step_close_paren s make (t.symbol m.CloseParen) = Some (record { stack = s; make = λ f. make (tt, f) })
  step_close_paren s make _ = None

  abbrev pub step_comma : (s : List Rule) → (Forest (comma ∷ s) → R) → Token → Option (Next R)
  step_comma s make (t.symbol m.Comma) = Some (record { stack = s; make = λ f. make (tt, f) })
  step_comma s make _ = None

  abbrev pub step_colon : (s : List Rule) → (Forest (colon ∷ s) → R) → Token → Option (Next R)
  step_colon s make (t.symbol m.Colon) = Some (record { stack = s; make = λ f. make (tt, f) })
  step_colon s make _ = None

  abbrev pub step_arrow : (s : List Rule) → (Forest (arrow ∷ s) → R) → Token → Option (Next R)
  step_arrow s make (t.symbol m.Arrow) = Some (record { stack = s; make = λ f. make (tt, f) })
  step_arrow s make _ = None

  abbrev pub step_assign : (s : List Rule) → (Forest (assign ∷ s) → R) → Token → Option (Next R)
  step_assign s make (t.symbol m.Assign) = Some (record { stack = s; make = λ f. make (tt, f) })
  step_assign s make _ = None

  abbrev pub step_number : (s : List Rule) → (Forest (number ∷ s) → R) → Token → Option (Next R)
  step_number s make (t.int n) = Some (record { stack = s; make = λ f. make (n, f) })
  step_number s make _ = None

  abbrev pub step_positive : (s : List Rule) → (Forest (positive ∷ s) → R) → Token → Option (Next R)
  step_positive s make (t.int (suc n)) = Some (record { stack = s; make = λ f. make ((suc n), f) })
  step_positive s make _ = None

  abbrev pub step_a_name : (s : List Rule) → (Forest (a_name ∷ s) → R) → Token → Option (Next R)
  step_a_name s make (t.name n) = Some (record { stack = s; make = λ f. make (n, f) })
  step_a_name s make _ = None

  abbrev pub step_scalar : (s : List Rule) → (Forest (scalar ∷ s) → R) → Token → Option (Next R)
  step_scalar s make (t.keyword k.Int) = Some (record { stack = s; make = λ f. make (scalars.Int, f) })
  step_scalar s make (t.keyword k.Text) = Some (record { stack = s; make = λ f. make (scalars.Text, f) })
  step_scalar s make (t.keyword k.Bool) = Some (record { stack = s; make = λ f. make (scalars.Bool, f) })
  step_scalar s make _ = None

  abbrev pub step_batch : (s : List Rule) → (Forest (batch ∷ s) → R) → Token → Option (Next R)
  step_batch s make (t.keyword k.Batch) = Some (record { stack = positive ∷ from_word ∷ start ∷ s; make = λ f. make ((f.0, f.1.1.0), f.1.1.1) })
  step_batch s make _ = None

  abbrev pub step_start : (s : List Rule) → (Forest (start ∷ s) → R) → Token → Option (Next R)
  step_start s make (t.symbol m.Minus) = Some (record { stack = number ∷ s; make = λ f. make ((true, f.0), f.1) })
  step_start s make (t.int n) = Some (record { stack = s; make = λ f. make ((false, n), f) })
  step_start s make _ = None

  abbrev pub step_field : (s : List Rule) → (Forest (field ∷ s) → R) → Token → Option (Next R)
  step_field s make (t.name n) = Some (record { stack = colon ∷ scalar ∷ s; make = λ f. make ((record { name = n; scalar = f.1.0 }), f.1.1) })
  step_field s make (t.keyword w) = Some (record {
    stack = colon ∷ scalar ∷ s;
    make = λ f. make (
      (record {
        name =
            (keyword_text w);
        scalar = f.1.0;
      }),
      f.1.1,
    );
  })
  step_field s make _ = None

  abbrev pub step_fields : (s : List Rule) → (Forest (fields ∷ s) → R) → Token → Option (Next R)
  step_fields s make (t.symbol m.CloseParen) = Some (record { stack = s; make = λ f. make ([], f) })
  step_fields s make x = step_field (more_fields ∷ s) (λ f. make ((f.0 ∷ f.1.0), f.1.1)) x

  abbrev pub step_more_fields : (s : List Rule) → (Forest (more_fields ∷ s) → R) → Token → Option (Next R)
  step_more_fields s make (t.symbol m.CloseParen) = Some (record { stack = s; make = λ f. make ([], f) })
  step_more_fields s make (t.symbol m.Comma) = Some (record { stack = field ∷ more_fields ∷ s; make = λ f. make ((f.0 ∷ f.1.0), f.1.1) })
  step_more_fields s make _ = None

  abbrev pub step_mono : (s : List Rule) → (Forest (mono ∷ s) → R) → Token → Option (Next R)
  step_mono s make (t.keyword k.Sum) = Some (record { stack = s; make = λ f. make (monos.Sum, f) })
  step_mono s make (t.keyword k.Min) = Some (record { stack = s; make = λ f. make (monos.Min, f) })
  step_mono s make (t.keyword k.Max) = Some (record { stack = s; make = λ f. make (monos.Max, f) })
  step_mono s make (t.keyword k.First) = Some (record { stack = s; make = λ f. make (monos.First, f) })
  step_mono s make (t.keyword k.Last) = Some (record { stack = s; make = λ f. make (monos.Last, f) })
  step_mono s make (t.keyword k.Concat) = Some (record { stack = s; make = λ f. make (monos.Concat, f) })
  step_mono s make (t.keyword k.Set) = Some (record { stack = s; make = λ f. make (monos.Set, f) })
  step_mono s make (t.keyword k.Top) = Some (record { stack = open_paren ∷ number ∷ close_paren ∷ s; make = λ f. make ((monos.Top f.1.0), f.1.1.1) })
  step_mono s make (t.keyword k.Cms) = Some (record {
    stack = open_paren ∷ number ∷ comma ∷ number ∷ close_paren ∷ s;
    make = λ f. make
        ((monos.Cms f.1.0 f.1.1.1.0), f.1.1.1.1.1);
  })
  step_mono s make (t.keyword k.Hll) = Some (record { stack = open_paren ∷ number ∷ close_paren ∷ s; make = λ f. make ((monos.Hll f.1.0), f.1.1.1) })
  step_mono s make (t.keyword k.Pair) = Some (record {
    stack = open_paren ∷ mono ∷ comma ∷ mono ∷ close_paren ∷ s;
    make = λ f. make
        ((monos.Pair f.1.0 f.1.1.1.0), f.1.1.1.1.1);
  })
  step_mono s make (t.keyword k.Map) = Some (record { stack = open_paren ∷ mono ∷ close_paren ∷ s; make = λ f. make ((monos.Map f.1.0), f.1.1.1) })
  step_mono s make _ = None

  abbrev pub step_a_type : (s : List Rule) → (Forest (a_type ∷ s) → R) → Token → Option (Next R)
  step_a_type s make (t.keyword k.Pair) = Some (record {
    stack = open_paren ∷ a_type ∷ comma ∷ a_type ∷ close_paren ∷ s;
    make = λ f. make
        ((types.Pair f.1.0 f.1.1.1.0), f.1.1.1.1.1);
  })
  step_a_type s make (t.keyword k.Opt) = Some (record {
    stack = open_paren ∷ a_type ∷ close_paren ∷ s;
    make = λ f. make
        ((types.Opt f.1.0), f.1.1.1);
  })
  step_a_type s make (t.keyword k.List) = Some (record {
    stack = open_paren ∷ a_type ∷ comma ∷ number ∷ close_paren ∷ s;
    make = λ f. make
        ((types.List f.1.0 f.1.1.1.0), f.1.1.1.1.1);
  })
  step_a_type s make x = step_scalar s (λ f. make ((types.Scalar f.0), f.1)) x

  abbrev pub step_atom : (s : List Rule) → (Forest (atom ∷ s) → R) → Token → Option (Next R)
  step_atom s make (t.int n) = Some (record { stack = s; make = λ f. make ((atoms.Int n), f) })
  step_atom s make (t.text value) = Some (record { stack = s; make = λ f. make ((atoms.Text value), f) })
  step_atom s make (t.keyword k.True) = Some (record { stack = s; make = λ f. make (atoms.True, f) })
  step_atom s make (t.keyword k.False) = Some (record { stack = s; make = λ f. make (atoms.False, f) })
  step_atom s make (t.keyword k.It) = Some (record { stack = s; make = λ f. make (atoms.It, f) })
  step_atom s make (t.symbol m.OpenParen) = Some (record { stack = expr ∷ group_end ∷ s; make = λ f. make ((group_of f.0 f.1.0), f.1.1) })
  step_atom s make (t.symbol m.OpenBracket) = Some (record { stack = expr ∷ list_end ∷ s; make = λ f. make ((atoms.List (f.0 ∷ f.1.0)), f.1.1) })
  step_atom s make (t.keyword k.Empty) = Some (record {
    stack = open_paren ∷ a_type ∷ close_paren ∷ s;
    make = λ f. make
        ((atoms.Empty f.1.0), f.1.1.1);
  })
  step_atom s make (t.keyword k.NoneOf) = Some (record {
    stack = open_paren ∷ a_type ∷ close_paren ∷ s;
    make = λ f. make
        ((atoms.NoneOf f.1.0), f.1.1.1);
  })
  step_atom s make (t.keyword k.SomeOf) = Some (record {
    stack = open_paren ∷ expr ∷ close_paren ∷ s;
    make = λ f. make
        ((atoms.SomeOf f.1.0), f.1.1.1);
  })
  step_atom s make (t.keyword k.Orelse) = Some (record {
    stack = open_paren ∷ expr ∷ comma ∷ expr ∷ close_paren ∷ s;
    make = λ f. make
        ((atoms.Orelse f.1.0 f.1.1.1.0), f.1.1.1.1.1);
  })
  step_atom s make (t.keyword k.Has) = Some (record { stack = open_paren ∷ expr ∷ close_paren ∷ s; make = λ f. make ((atoms.Has f.1.0), f.1.1.1) })
  step_atom s make (t.keyword k.Lower) = Some (record {
    stack = open_paren ∷ expr ∷ close_paren ∷ s;
    make = λ f. make
        ((atoms.Lower f.1.0), f.1.1.1);
  })
  step_atom s make (t.keyword k.Words) = Some (record {
    stack = open_paren ∷ expr ∷ comma ∷ positive ∷ close_paren ∷ s;
    make = λ f. make
        ((atoms.Words f.1.0 f.1.1.1.0), f.1.1.1.1.1);
  })
  step_atom s make (t.keyword k.Len) = Some (record { stack = open_paren ∷ expr ∷ close_paren ∷ s; make = λ f. make ((atoms.Len f.1.0), f.1.1.1) })
  step_atom s make (t.keyword k.Starts) = Some (record {
    stack = open_paren ∷ expr ∷ comma ∷ expr ∷ close_paren ∷ s;
    make = λ f. make
        ((atoms.Starts f.1.0 f.1.1.1.0), f.1.1.1.1.1);
  })
  step_atom s make _ = None

  abbrev pub step_group_end : (s : List Rule) → (Forest (group_end ∷ s) → R) → Token → Option (Next R)
  step_group_end s make (t.symbol m.CloseParen) = Some (record { stack = s; make = λ f. make (None, f) })
  step_group_end s make (t.symbol m.Comma) = Some (record { stack = expr ∷ close_paren ∷ s; make = λ f. make ((Some f.0), f.1.1) })
  step_group_end s make _ = None

  abbrev pub step_list_end : (s : List Rule) → (Forest (list_end ∷ s) → R) → Token → Option (Next R)
  step_list_end s make (t.symbol m.CloseBracket) = Some (record { stack = s; make = λ f. make ([], f) })
  step_list_end s make (t.symbol m.Comma) = Some (record { stack = expr ∷ list_end ∷ s; make = λ f. make ((f.0 ∷ f.1.0), f.1.1) })
  step_list_end s make _ = None

  abbrev pub step_post_step : (s : List Rule) → (Forest (post_step ∷ s) → R) → Token → Option (Next R)
  step_post_step s make (t.name n) = Some (record { stack = s; make = λ f. make ((steps.Field n), f) })
  step_post_step s make (t.keyword w) = Some (record { stack = s; make = λ f. make ((steps.Field (keyword_text w)), f) })
  step_post_step s make (t.int (suc zero)) = Some (record { stack = s; make = λ f. make (steps.First, f) })
  step_post_step s make (t.int (suc (suc zero))) = Some (record { stack = s; make = λ f. make (steps.Second, f) })
  step_post_step s make _ = None

  abbrev pub step_post : (s : List Rule) → (Forest (post ∷ s) → R) → Token → Option (Next R)
  step_post s make x = step_atom (post_steps ∷ s) (λ f. make ((roll-Post (record { atom = f.0; steps = f.1.0 })), f.1.1)) x

  abbrev pub step_unary : (s : List Rule) → (Forest (unary ∷ s) → R) → Token → Option (Next R)
  step_unary s make (t.symbol m.Minus) = Some (record { stack = unary ∷ s; make = λ f. make ((unaries.Minus f.0), f.1) })
  step_unary s make x = step_post s (λ f. make ((unaries.Plain f.0), f.1)) x

  abbrev pub step_prod : (s : List Rule) → (Forest (prod ∷ s) → R) → Token → Option (Next R)
  step_prod s make x = step_unary (prod_rests ∷ s) (λ f. make ((roll-Prod (record { first = f.0; rest = f.1.0 })), f.1.1)) x

  abbrev pub step_add : (s : List Rule) → (Forest (add ∷ s) → R) → Token → Option (Next R)
  step_add s make x = step_prod (add_rests ∷ s) (λ f. make ((roll-Add (record { first = f.0; rest = f.1.0 })), f.1.1)) x

  abbrev pub step_cmp : (s : List Rule) → (Forest (cmp ∷ s) → R) → Token → Option (Next R)
  step_cmp s make x = step_add (comparison ∷ s) (λ f. make ((cmp_of f.0 f.1.0), f.1.1)) x

  abbrev pub step_neg : (s : List Rule) → (Forest (neg ∷ s) → R) → Token → Option (Next R)
  step_neg s make (t.keyword k.Not) = Some (record { stack = neg ∷ s; make = λ f. make ((negs.Not f.0), f.1) })
  step_neg s make x = step_cmp s (λ f. make ((negs.Plain f.0), f.1)) x

  abbrev pub step_conj : (s : List Rule) → (Forest (conj ∷ s) → R) → Token → Option (Next R)
  step_conj s make x = step_neg (conj_rests ∷ s) (λ f. make ((roll-Conj (record { first = f.0; rest = f.1.0 })), f.1.1)) x

  abbrev pub step_disj : (s : List Rule) → (Forest (disj ∷ s) → R) → Token → Option (Next R)
  step_disj s make x = step_conj (disj_rests ∷ s) (λ f. make ((roll-Disj (record { first = f.0; rest = f.1.0 })), f.1.1)) x

  abbrev pub step_expr : (s : List Rule) → (Forest (expr ∷ s) → R) → Token → Option (Next R)
  step_expr s make (t.keyword k.If) = Some (record {
    stack = expr ∷ then_word ∷ expr ∷ else_word ∷ expr ∷ s;
    make = λ f. make
        ((exprs.If f.0 f.1.1.0 f.1.1.1.1.0), f.1.1.1.1.1);
  })
  step_expr s make x = step_disj s (λ f. make ((exprs.Plain f.0), f.1)) x

  abbrev pub step_stage : (s : List Rule) → (Forest (stage ∷ s) → R) → Token → Option (Next R)
  step_stage s make (t.keyword k.Map) = Some (record { stack = expr ∷ s; make = λ f. make ((staged.Map f.0), f.1) })
  step_stage s make (t.keyword k.Filter) = Some (record { stack = expr ∷ s; make = λ f. make ((staged.Filter f.0), f.1) })
  step_stage s make (t.keyword k.FlatMap) = Some (record { stack = expr ∷ s; make = λ f. make ((staged.FlatMap f.0), f.1) })
  step_stage s make (t.keyword k.LeftJoin) = Some (record { stack = a_name ∷ s; make = λ f. make ((staged.LeftJoin f.0), f.1) })
  step_stage s make _ = None

  abbrev pub step_head : (s : List Rule) → (Forest (head ∷ s) → R) → Token → Option (Next R)
  step_head s make (t.name n) = Some (record { stack = s; make = λ f. make ((heads.Name n), f) })
  step_head s make (t.keyword k.Merge) = Some (record {
    stack = open_paren ∷ stream ∷ comma ∷ stream ∷ close_paren ∷ s;
    make = λ f. make
        ((heads.Merge f.1.0 f.1.1.1.0), f.1.1.1.1.1);
  })
  step_head s make _ = None

  abbrev pub step_stream : (s : List Rule) → (Forest (stream ∷ s) → R) → Token → Option (Next R)
  step_stream s make x = step_head (stages ∷ s) (λ f. make ((roll-Stream (record { head = f.0; stages = f.1.0 })), f.1.1)) x

  abbrev pub step_store_stages : (s : List Rule) → (Forest (store_stages ∷ s) → R) → Token → Option (Next R)
  step_store_stages s make (t.symbol m.Bar) = Some (record { stack = store_stage ∷ s; make = λ f. make (f.0, f.1) })
  step_store_stages s make _ = None

  abbrev pub step_store_stage : (s : List Rule) → (Forest (store_stage ∷ s) → R) → Token → Option (Next R)
  step_store_stage s make (t.keyword k.Map) = Some (record {
    stack = expr ∷ store_stages ∷ s;
    make = λ f. make
        ((staged.Map f.0 ∷ f.1.0.0, f.1.0.1), f.1.1);
  })
  step_store_stage s make (t.keyword k.Filter) = Some (record {
    stack = expr ∷ store_stages ∷ s;
    make = λ f. make
        ((staged.Filter f.0 ∷ f.1.0.0, f.1.0.1), f.1.1);
  })
  step_store_stage s make (t.keyword k.FlatMap) = Some (record {
    stack = expr ∷ store_stages ∷ s;
    make = λ f. make
        ((staged.FlatMap f.0 ∷ f.1.0.0, f.1.0.1), f.1.1);
  })
  step_store_stage s make (t.keyword k.LeftJoin) = Some (record {
    stack = a_name ∷ store_stages ∷ s;
    make = λ f. make
        ((staged.LeftJoin f.0 ∷ f.1.0.0, f.1.0.1), f.1.1);
  })
  step_store_stage s make (t.keyword k.SumByKey) = Some (record { stack = mono ∷ s; make = λ f. make (([], f.0), f.1) })
  step_store_stage s make _ = None

  abbrev pub step_statement : (s : List Rule) → (Forest (statement ∷ s) → R) → Token → Option (Next R)
  step_statement s make (t.keyword k.Source) = Some (record {
    stack = a_name ∷ open_paren ∷ fields ∷ s;
    make = λ f. make
        ((statements.Source f.0 f.1.1.0), f.1.1.1);
  })
  step_statement s make (t.keyword k.Service) = Some
      (record {
        stack = a_name ∷ open_paren ∷ scalar ∷ arrow ∷ scalar ∷ close_paren ∷ s;
        make = λ f. make
            ((statements.Service f.0 f.1.1.0 f.1.1.1.1.0), f.1.1.1.1.1.1);
      })
  step_statement s make (t.keyword k.Let) = Some (record {
    stack = a_name ∷ assign ∷ stream ∷ s;
    make = λ f. make
        ((statements.Let f.0 f.1.1.0), f.1.1.1);
  })
  step_statement s make (t.keyword k.Store) = Some (record {
    stack = a_name ∷ assign ∷ head ∷ store_stages ∷ s;
    make = λ f. make
        ((statements.Store f.0 (roll-Stream (record { head = f.1.1.0; stages = f.1.1.1.0.0 })) f.1.1.1.0.1), f.1.1.1.1);
  })
  step_statement s make _ = None

  abbrev pub step : (s : List Rule) → (Forest s → R) → Token → Option (Next R)
  step [] make x = None
  step (from_word ∷ s) make x = step_from_word s make x
  step (then_word ∷ s) make x = step_then_word s make x
  step (else_word ∷ s) make x = step_else_word s make x
  step (open_paren ∷ s) make x = step_open_paren s make x
  step (close_paren ∷ s) make x = step_close_paren s make x
  step (comma ∷ s) make x = step_comma s make x
  step (colon ∷ s) make x = step_colon s make x
  step (arrow ∷ s) make x = step_arrow s make x
  step (assign ∷ s) make x = step_assign s make x
  step (number ∷ s) make x = step_number s make x
  step (positive ∷ s) make x = step_positive s make x
  step (a_name ∷ s) make x = step_a_name s make x
  step (scalar ∷ s) make x = step_scalar s make x
  step (batch ∷ s) make x = step_batch s make x
  step (start ∷ s) make x = step_start s make x
  step (field ∷ s) make x = step_field s make x
  step (fields ∷ s) make x = step_fields s make x
  step (more_fields ∷ s) make x = step_more_fields s make x
  step (mono ∷ s) make x = step_mono s make x
  step (a_type ∷ s) make x = step_a_type s make x
  step (atom ∷ s) make x = step_atom s make x
  step (group_end ∷ s) make x = step_group_end s make x
  step (list_end ∷ s) make x = step_list_end s make x
  step (post_step ∷ s) make x = step_post_step s make x
  step (post_steps ∷ s) make (t.symbol m.Dot) = Some (record { stack = post_step ∷ post_steps ∷ s; make = λ f. make ((f.0 ∷ f.1.0), f.1.1) })
  step (post_steps ∷ s) make x = step s (λ f. make ([], f)) x
  step (post ∷ s) make x = step_post s make x
  step (unary ∷ s) make x = step_unary s make x
  step (prod_rests ∷ s) make (t.symbol m.Star) = Some (record {
    stack = unary ∷ prod_rests ∷ s;
    make = λ f. make
        ((prod_rest.Times f.0 ∷ f.1.0), f.1.1);
  })
  step (prod_rests ∷ s) make (t.symbol m.Slash) = Some (record {
    stack = positive ∷ prod_rests ∷ s;
    make = λ f. make
        ((prod_rest.Over f.0 ∷ f.1.0), f.1.1);
  })
  step (prod_rests ∷ s) make (t.symbol m.Percent) = Some (record {
    stack = positive ∷ prod_rests ∷ s;
    make = λ f. make
        ((prod_rest.Modulo f.0 ∷ f.1.0), f.1.1);
  })
  step (prod_rests ∷ s) make x = step s (λ f. make ([], f)) x
  step (prod ∷ s) make x = step_prod s make x
  step (add_rests ∷ s) make (t.symbol m.Plus) = Some (record { stack = prod ∷ add_rests ∷ s; make = λ f. make ((add_rest.Plus f.0 ∷ f.1.0), f.1.1) })
  step (add_rests ∷ s) make (t.symbol m.Minus) = Some (record {
    stack = prod ∷ add_rests ∷ s;
    make = λ f. make
        ((add_rest.Minus f.0 ∷ f.1.0), f.1.1);
  })
  step (add_rests ∷ s) make x = step s (λ f. make ([], f)) x
  step (add ∷ s) make x = step_add s make x
  step (comparison ∷ s) make (t.symbol m.Equal) = Some (record { stack = add ∷ s; make = λ f. make ((Some (operators.Equal, f.0)), f.1) })
  step (comparison ∷ s) make (t.symbol m.Unequal) = Some (record { stack = add ∷ s; make = λ f. make ((Some (operators.Unequal, f.0)), f.1) })
  step (comparison ∷ s) make (t.symbol m.Less) = Some (record { stack = add ∷ s; make = λ f. make ((Some (operators.Less, f.0)), f.1) })
  step (comparison ∷ s) make (t.symbol m.AtMost) = Some (record { stack = add ∷ s; make = λ f. make ((Some (operators.AtMost, f.0)), f.1) })
  step (comparison ∷ s) make (t.symbol m.Greater) = Some (record { stack = add ∷ s; make = λ f. make ((Some (operators.Greater, f.0)), f.1) })
  step (comparison ∷ s) make (t.symbol m.AtLeast) = Some (record { stack = add ∷ s; make = λ f. make ((Some (operators.AtLeast, f.0)), f.1) })
  step (comparison ∷ s) make x = step s (λ f. make (None, f)) x
  step (cmp ∷ s) make x = step_cmp s make x
  step (neg ∷ s) make x = step_neg s make x
  step (conj_rests ∷ s) make (t.keyword k.And) = Some (record { stack = neg ∷ conj_rests ∷ s; make = λ f. make ((f.0 ∷ f.1.0), f.1.1) })
  step (conj_rests ∷ s) make x = step s (λ f. make ([], f)) x
  step (conj ∷ s) make x = step_conj s make x
  step (disj_rests ∷ s) make (t.keyword k.Or) = Some (record { stack = conj ∷ disj_rests ∷ s; make = λ f. make ((f.0 ∷ f.1.0), f.1.1) })
  step (disj_rests ∷ s) make x = step s (λ f. make ([], f)) x
  step (disj ∷ s) make x = step_disj s make x
  step (expr ∷ s) make x = step_expr s make x
  step (stage ∷ s) make x = step_stage s make x
  step (stages ∷ s) make (t.symbol m.Bar) = Some (record { stack = stage ∷ stages ∷ s; make = λ f. make ((f.0 ∷ f.1.0), f.1.1) })
  step (stages ∷ s) make x = step s (λ f. make ([], f)) x
  step (head ∷ s) make x = step_head s make x
  step (stream ∷ s) make x = step_stream s make x
  step (store_stages ∷ s) make x = step_store_stages s make x
  step (store_stage ∷ s) make x = step_store_stage s make x
  step (statement ∷ s) make x = step_statement s make x

  -- what is made where nothing more comes
  abbrev pub ends : (s : List Rule) → (Forest s → R) → Option R
  ends [] make = Some (make tt)
  ends (post_steps ∷ s) make = ends s (λ f. make ([], f))
  ends (prod_rests ∷ s) make = ends s (λ f. make ([], f))
  ends (add_rests ∷ s) make = ends s (λ f. make ([], f))
  ends (comparison ∷ s) make = ends s (λ f. make (None, f))
  ends (conj_rests ∷ s) make = ends s (λ f. make ([], f))
  ends (disj_rests ∷ s) make = ends s (λ f. make ([], f))
  ends (stages ∷ s) make = ends s (λ f. make ([], f))
  ends _ make = None

-- why reading stops: no token is left, the next fits nowhere, or there is no room for it
pub data Stop : Type 0 where
  ended : Stop
  misfit : Stop
  spent : Stop

-- Reading of anything that has tokens, each of which takes room.
module _ (I : Type 0) (token : I → Token) (B : Type 0) (spend : B → Option B) (R : Type 0) where
  abbrev pub Reading : Type 0
  Reading = Result (R × List I × B) (Stop × List I × B)

  abbrev pub closes : Option R → Stop → List I → B → Reading
  closes None stop is b = Err (stop, is, b)
  closes (Some r) stop is b = Ok (r, is, b)

  abbrev pub goes_on : Option B → ((b : B) → Reading) → I → List I → B → Reading
  goes_on None on i is b = Err (spent, i ∷ is, b)
  goes_on (Some c) on i is b = on c

  abbrev pub at_next : Option (Next R) → (B → (s : List Rule) → (Forest s → R) → Reading) → Option R → I → List I → B → Reading
  at_next None on end i is b = closes end misfit (i ∷ is) b
  at_next (Some n) on end i is b = goes_on (spend b) (λ c. on c n.stack n.make) i is b

  -- As many tokens as fit, and what they make.
  abbrev pub read : List I → B → (s : List Rule) → (Forest s → R) → Reading
  read [] b s make = closes (ends R s make) ended [] b
  read (i ∷ is) b s make = at_next (step R s make (token i)) (read is) (ends R s make) i is b
