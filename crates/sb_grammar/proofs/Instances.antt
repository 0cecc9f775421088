-- Each rule has a tree, and each stack has parts.
use Rattle.std.proofs.Common.{zero, suc, true, List, [], ◌∷◌, Some, None, refl}
use Rattle.sb_tokens.specs.declared.keyword.Keyword.TheVariants as k
use Rattle.sb_tokens.specs.declared.symbol.Symbol.TheVariants as m
use Rattle.sb_tokens.specs.Token.{Token}
use Rattle.sb_tokens.specs.Token as t
use Rattle.sb_grammar.specs.declared.programs.Statement.TheVariants as statements
use Rattle.sb_grammar.specs.declared.programs.Stream.{roll-Stream}
use Rattle.sb_grammar.specs.declared.programs.Head.TheVariants as heads
use Rattle.sb_grammar.specs.declared.programs.Stage.TheVariants as staged
use Rattle.sb_grammar.specs.declared.programs.MonoTree.TheVariants as monos
use Rattle.sb_grammar.specs.declared.expressions.Scalar.TheVariants as scalars
use Rattle.sb_grammar.specs.declared.expressions.TypeTree.TheVariants as types
use Rattle.sb_grammar.specs.declared.expressions.Expr.TheVariants as exprs
use Rattle.sb_grammar.specs.declared.expressions.Disj.{roll-Disj}
use Rattle.sb_grammar.specs.declared.expressions.Conj.{roll-Conj}
use Rattle.sb_grammar.specs.declared.expressions.Neg.TheVariants as negs
use Rattle.sb_grammar.specs.declared.expressions.CmpOp.TheVariants as operators
use Rattle.sb_grammar.specs.declared.expressions.Add.{roll-Add}
use Rattle.sb_grammar.specs.declared.expressions.Prod.{roll-Prod}
use Rattle.sb_grammar.specs.declared.expressions.Unary.TheVariants as unaries
use Rattle.sb_grammar.specs.declared.expressions.Post.{roll-Post}
use Rattle.sb_grammar.specs.declared.expressions.PostStep.TheVariants as steps
use Rattle.sb_grammar.specs.declared.expressions.Atom.TheVariants as atoms
use Rattle.sb_grammar.specs.Grammar.{Rule, Tree, Derives, cmp_of}
use Rattle.sb_grammar.specs.Grammar.{from_word, then_word, else_word, open_paren, close_paren, comma, colon, arrow, assign, number, positive, a_name}
use Rattle.sb_grammar.specs.Grammar.{scalar, batch, start, field, fields, more_fields, mono, a_type, atom, group_end, list_end, post_step, post_steps}
use Rattle.sb_grammar.specs.Grammar.{post, unary, prod_rests, prod, add_rests, add, comparison, cmp, neg, conj_rests, conj, disj_rests, disj, expr}
use Rattle.sb_grammar.specs.Grammar.{stage, stages, head, stream, store_stages, store_stage, statement}
use Rattle.sb_grammar.specs.Grammar.{from_word-it, then_word-it, else_word-it, open_paren-it, close_paren-it, comma-it, colon-it, arrow-it, assign-it}
use Rattle.sb_grammar.specs.Grammar.{number-it, positive-it, a_name-it, scalar-int, batch-whole, start-minus}
use Rattle.sb_grammar.specs.Grammar.{field-name, fields-none, more_fields-none, mono-sum}
use Rattle.sb_grammar.specs.Grammar.{a_type-scalar, atom-int}
use Rattle.sb_grammar.specs.Grammar.{group_end-close, list_end-close, post_step-name}
use Rattle.sb_grammar.specs.Grammar.{post_steps-none, post-whole, unary-plain}
use Rattle.sb_grammar.specs.Grammar.{prod_rests-none, prod-whole}
use Rattle.sb_grammar.specs.Grammar.{add_rests-none, add-whole, comparison-equal}
use Rattle.sb_grammar.specs.Grammar.{cmp-whole, neg-plain}
use Rattle.sb_grammar.specs.Grammar.{conj_rests-none, conj-whole, disj_rests-none, disj-whole, expr-plain}
use Rattle.sb_grammar.specs.Grammar.{stage-map, stages-none, head-name}
use Rattle.sb_grammar.specs.Grammar.{stream-whole, store_stages-whole}
use Rattle.sb_grammar.specs.Grammar.{store_stage-sum, statement-source}
use Rattle.sb_grammar.proofs.Machine.{Forest}
use Rattle.sb_grammar.proofs.Sound.{All}

-- a tree of a rule, with tokens of it in front of any others
pub record Instance (r : Rule) : Type 0 where
  pub tree : Tree r
  pub tokens : List Token → List Token
  pub derived : (ws : List Token) → Derives r tree (tokens ws) ws

abbrev some_from_word : Instance from_word
some_from_word = record { tree = tt; tokens = λ ws. t.keyword k.From ∷ ws; derived = λ ws. from_word-it }

abbrev some_then_word : Instance then_word
some_then_word = record { tree = tt; tokens = λ ws. t.keyword k.Then ∷ ws; derived = λ ws. then_word-it }

abbrev some_else_word : Instance else_word
some_else_word = record { tree = tt; tokens = λ ws. t.keyword k.Else ∷ ws; derived = λ ws. else_word-it }

abbrev some_open_paren : Instance open_paren
some_open_paren = record { tree = tt; tokens = λ ws. t.symbol m.OpenParen ∷ ws; derived = λ ws. open_paren-it }

abbrev some_close_paren : Instance close_paren
some_close_paren = record { tree = tt; tokens = λ ws. t.symbol m.CloseParen ∷ ws; derived = λ ws. close_paren-it }

abbrev some_comma : Instance comma
some_comma = record { tree = tt; tokens = λ ws. t.symbol m.Comma ∷ ws; derived = λ ws. comma-it }

abbrev some_colon : Instance colon
some_colon = record { tree = tt; tokens = λ ws. t.symbol m.Colon ∷ ws; derived = λ ws. colon-it }

abbrev some_arrow : Instance arrow
some_arrow = record { tree = tt; tokens = λ ws. t.symbol m.Arrow ∷ ws; derived = λ ws. arrow-it }

abbrev some_assign : Instance assign
some_assign = record { tree = tt; tokens = λ ws. t.symbol m.Assign ∷ ws; derived = λ ws. assign-it }

abbrev some_number : Instance number
some_number = record { tree = 0; tokens = λ ws. t.int 0 ∷ ws; derived = λ ws. number-it {n = 0} }

abbrev some_positive : Instance positive
some_positive = record { tree = (suc zero); tokens = λ ws. t.int (suc zero) ∷ ws; derived = λ ws. positive-it {n = zero} }

abbrev some_a_name : Instance a_name
some_a_name = record { tree = []; tokens = λ ws. t.name [] ∷ ws; derived = λ ws. a_name-it {n = []} }

abbrev some_scalar : Instance scalar
some_scalar = record { tree = scalars.Int; tokens = λ ws. t.keyword k.Int ∷ ws; derived = λ ws. scalar-int }

abbrev some_start : Instance start
some_start = record {
  tree = (true, some_number.tree);
  tokens = λ ws. t.symbol m.Minus ∷ some_number.tokens ws;
  derived = λ ws. start-minus
      (some_number.derived ws);
}

abbrev some_field : Instance field
some_field = record {
  tree = (record { name = []; scalar = some_scalar.tree });
  tokens = λ ws. t.name [] ∷ some_colon.tokens
      (some_scalar.tokens ws);
  derived = λ ws. field-name {n = []} (some_colon.derived (some_scalar.tokens ws)) (some_scalar.derived ws);
}

abbrev some_fields : Instance fields
some_fields = record { tree = []; tokens = λ ws. t.symbol m.CloseParen ∷ ws; derived = λ ws. fields-none }

abbrev some_more_fields : Instance more_fields
some_more_fields = record { tree = []; tokens = λ ws. t.symbol m.CloseParen ∷ ws; derived = λ ws. more_fields-none }

abbrev some_mono : Instance mono
some_mono = record { tree = monos.Sum; tokens = λ ws. t.keyword k.Sum ∷ ws; derived = λ ws. mono-sum }

abbrev some_a_type : Instance a_type
some_a_type = record {
  tree = (types.Scalar some_scalar.tree);
  tokens = λ ws. some_scalar.tokens ws;
  derived = λ ws. a_type-scalar
      (some_scalar.derived ws);
}

abbrev some_atom : Instance atom
some_atom = record { tree = (atoms.Int 0); tokens = λ ws. t.int 0 ∷ ws; derived = λ ws. atom-int {n = 0} }

abbrev some_group_end : Instance group_end
some_group_end = record { tree = None; tokens = λ ws. t.symbol m.CloseParen ∷ ws; derived = λ ws. group_end-close }

abbrev some_list_end : Instance list_end
some_list_end = record { tree = []; tokens = λ ws. t.symbol m.CloseBracket ∷ ws; derived = λ ws. list_end-close }

abbrev some_post_step : Instance post_step
some_post_step = record { tree = (steps.Field []); tokens = λ ws. t.name [] ∷ ws; derived = λ ws. post_step-name {n = []} }

abbrev some_post_steps : Instance post_steps
some_post_steps = record { tree = []; tokens = λ ws. ws; derived = λ ws. post_steps-none }

abbrev some_post : Instance post
some_post = record {
  tree = (roll-Post (record { atom = some_atom.tree; steps = some_post_steps.tree }));
  tokens = λ ws. some_atom.tokens
      (some_post_steps.tokens ws);
  derived = λ ws. post-whole (some_atom.derived (some_post_steps.tokens ws)) (some_post_steps.derived ws);
}

abbrev some_unary : Instance unary
some_unary = record { tree = (unaries.Plain some_post.tree); tokens = λ ws. some_post.tokens ws; derived = λ ws. unary-plain (some_post.derived ws) }

abbrev some_prod_rests : Instance prod_rests
some_prod_rests = record { tree = []; tokens = λ ws. ws; derived = λ ws. prod_rests-none }

abbrev some_prod : Instance prod
some_prod = record {
  tree = (roll-Prod (record { first = some_unary.tree; rest = some_prod_rests.tree }));
  tokens = λ ws. some_unary.tokens
      (some_prod_rests.tokens ws);
  derived = λ ws. prod-whole (some_unary.derived (some_prod_rests.tokens ws)) (some_prod_rests.derived ws);
}

abbrev some_add_rests : Instance add_rests
some_add_rests = record { tree = []; tokens = λ ws. ws; derived = λ ws. add_rests-none }

abbrev some_add : Instance add
some_add = record {
  tree = (roll-Add (record { first = some_prod.tree; rest = some_add_rests.tree }));
  tokens = λ ws. some_prod.tokens
      (some_add_rests.tokens ws);
  derived = λ ws. add-whole (some_prod.derived (some_add_rests.tokens ws)) (some_add_rests.derived ws);
}

abbrev some_comparison : Instance comparison
some_comparison = record {
  tree = (Some
      (operators.Equal, some_add.tree));
  tokens = λ ws. t.symbol m.Equal ∷ some_add.tokens ws;
  derived = λ ws. comparison-equal (some_add.derived ws);
}

abbrev some_cmp : Instance cmp
some_cmp = record {
  tree = (cmp_of some_add.tree some_comparison.tree);
  tokens = λ ws. some_add.tokens
      (some_comparison.tokens ws);
  derived = λ ws. cmp-whole (some_add.derived (some_comparison.tokens ws)) (some_comparison.derived ws);
}

abbrev some_neg : Instance neg
some_neg = record { tree = (negs.Plain some_cmp.tree); tokens = λ ws. some_cmp.tokens ws; derived = λ ws. neg-plain (some_cmp.derived ws) }

abbrev some_conj_rests : Instance conj_rests
some_conj_rests = record { tree = []; tokens = λ ws. ws; derived = λ ws. conj_rests-none }

abbrev some_conj : Instance conj
some_conj = record {
  tree = (roll-Conj (record { first = some_neg.tree; rest = some_conj_rests.tree }));
  tokens = λ ws. some_neg.tokens
      (some_conj_rests.tokens ws);
  derived = λ ws. conj-whole (some_neg.derived (some_conj_rests.tokens ws)) (some_conj_rests.derived ws);
}

abbrev some_disj_rests : Instance disj_rests
some_disj_rests = record { tree = []; tokens = λ ws. ws; derived = λ ws. disj_rests-none }

abbrev some_disj : Instance disj
some_disj = record {
  tree = (roll-Disj (record { first = some_conj.tree; rest = some_disj_rests.tree }));
  tokens = λ ws. some_conj.tokens
      (some_disj_rests.tokens ws);
  derived = λ ws. disj-whole (some_conj.derived (some_disj_rests.tokens ws)) (some_disj_rests.derived ws);
}

abbrev some_expr : Instance expr
some_expr = record { tree = (exprs.Plain some_disj.tree); tokens = λ ws. some_disj.tokens ws; derived = λ ws. expr-plain (some_disj.derived ws) }

abbrev some_stage : Instance stage
some_stage = record {
  tree = (staged.Map some_expr.tree);
  tokens = λ ws. t.keyword k.Map ∷ some_expr.tokens ws;
  derived = λ ws. stage-map
      (some_expr.derived ws);
}

abbrev some_stages : Instance stages
some_stages = record { tree = []; tokens = λ ws. ws; derived = λ ws. stages-none }

abbrev some_head : Instance head
some_head = record { tree = (heads.Name []); tokens = λ ws. t.name [] ∷ ws; derived = λ ws. head-name {n = []} }

abbrev some_stream : Instance stream
some_stream = record {
  tree = (roll-Stream (record { head = some_head.tree; stages = some_stages.tree }));
  tokens = λ ws. some_head.tokens
      (some_stages.tokens ws);
  derived = λ ws. stream-whole (some_head.derived (some_stages.tokens ws)) (some_stages.derived ws);
}

abbrev some_store_stage : Instance store_stage
some_store_stage = record {
  tree = ([], some_mono.tree);
  tokens = λ ws. t.keyword k.SumByKey ∷ some_mono.tokens ws;
  derived = λ ws. store_stage-sum
      (some_mono.derived ws);
}

abbrev some_statement : Instance statement
some_statement = record {
  tree = (statements.Source some_a_name.tree some_fields.tree);
  tokens = λ ws. t.keyword k.Source ∷ some_a_name.tokens
      (some_open_paren.tokens (some_fields.tokens ws));
  derived = λ ws. statement-source (some_a_name.derived (some_open_paren.tokens
      (some_fields.tokens ws))) (some_open_paren.derived (some_fields.tokens ws)) (some_fields.derived ws);
}

abbrev some_batch : Instance batch
some_batch = record {
  tree = (some_positive.tree, some_start.tree);
  tokens = λ ws. t.keyword k.Batch ∷ some_positive.tokens (some_from_word.tokens
      (some_start.tokens ws));
  derived = λ ws. batch-whole (some_positive.derived (some_from_word.tokens (some_start.tokens ws)))
      (some_from_word.derived (some_start.tokens ws)) (some_start.derived ws);
}

abbrev some_store_stages : Instance store_stages
some_store_stages = record {
  tree = some_store_stage.tree;
  tokens = λ ws. t.symbol m.Bar ∷ some_store_stage.tokens ws;
  derived = λ ws. store_stages-whole
      (some_store_stage.derived ws);
}

abbrev some : (r : Rule) → Instance r
some from_word = some_from_word
some then_word = some_then_word
some else_word = some_else_word
some open_paren = some_open_paren
some close_paren = some_close_paren
some comma = some_comma
some colon = some_colon
some arrow = some_arrow
some assign = some_assign
some number = some_number
some positive = some_positive
some a_name = some_a_name
some scalar = some_scalar
some batch = some_batch
some start = some_start
some field = some_field
some fields = some_fields
some more_fields = some_more_fields
some mono = some_mono
some a_type = some_a_type
some atom = some_atom
some group_end = some_group_end
some list_end = some_list_end
some post_step = some_post_step
some post_steps = some_post_steps
some post = some_post
some unary = some_unary
some prod_rests = some_prod_rests
some prod = some_prod
some add_rests = some_add_rests
some add = some_add
some comparison = some_comparison
some cmp = some_cmp
some neg = some_neg
some conj_rests = some_conj_rests
some conj = some_conj
some disj_rests = some_disj_rests
some disj = some_disj
some expr = some_expr
some stage = some_stage
some stages = some_stages
some head = some_head
some stream = some_stream
some store_stages = some_store_stages
some store_stage = some_store_stage
some statement = some_statement

abbrev pub some_forest : (s : List Rule) → Forest s
some_forest [] = tt
some_forest (r ∷ s) = let f = some_forest s in ((some r).tree, f)

abbrev pub some_tokens : List Rule → List Token → List Token
some_tokens [] ws = ws
some_tokens (r ∷ s) ws = (some r).tokens (some_tokens s ws)

pub some_derived : (s : List Rule) (ws : List Token) → All s (some_forest s) (some_tokens s ws) ws
some_derived [] ws = refl
some_derived (r ∷ s) ws = (some_tokens s ws, (some r).derived (some_tokens s ws), some_derived s ws)
