-- What is printed of a tree is its tokens' text.
use Rattle.std.proofs.Common.{◌≡◌, ◌∙◌, ℕ, suc, true, false, Option, Some, None, List, [], ◌∷◌, ◌++◌, codes, map, refl, ap, sym}
use Rattle.std.proofs.Common.{append_assoc, append-nil, arith}
use Rattle.std.proofs.lemmas.Fmt.{decimal_digit}
use Rattle.sb_tokens.specs.declared.keyword.Keyword.TheVariants as k
use Rattle.sb_tokens.specs.declared.symbol.Symbol.TheVariants as m
use Rattle.sb_tokens.specs.Keyword.{keyword_text}
use Rattle.sb_tokens.specs.Token.{Token}
use Rattle.sb_tokens.specs.Token as t
use Rattle.sb_grammar.specs.declared.programs.Statement.TheVariants as statements
use Rattle.sb_grammar.specs.declared.programs.Stage.{Stage}
use Rattle.sb_grammar.specs.declared.programs.Stage.TheVariants as staged
use Rattle.sb_grammar.specs.declared.programs.MonoTree.{MonoTree}
use Rattle.sb_grammar.specs.declared.expressions.Scalar.TheVariants as scalars
use Rattle.sb_grammar.specs.declared.expressions.Expr.{Expr}
use Rattle.sb_grammar.specs.declared.expressions.CmpOp.{CmpOp}
use Rattle.sb_grammar.specs.declared.expressions.CmpOp.TheVariants as operators
use Rattle.sb_grammar.specs.declared.expressions.Add.{Add}
use Rattle.sb_grammar.specs.declared.expressions.PostStep.TheVariants as steps
use Rattle.sb_tokens.specs.Token.{spelling}
use Rattle.sb_grammar.specs.Grammar.{Rule, Tree, Derives, group_of, cmp_of}
use Rattle.sb_grammar.specs.Grammar.{from_word, then_word, else_word, open_paren, close_paren, comma, colon, arrow, assign, number, positive, a_name}
use Rattle.sb_grammar.specs.Grammar.{scalar, batch, start, field, fields, more_fields, mono, a_type, atom, group_end, list_end, post_step, post_steps}
use Rattle.sb_grammar.specs.Grammar.{post, unary, prod_rests, prod, add_rests, add, comparison, cmp, neg, conj_rests, conj, disj_rests, disj, expr}
use Rattle.sb_grammar.specs.Grammar.{stage, stages, head, stream, store_stages, store_stage, statement}
use Rattle.sb_grammar.specs.Grammar.{from_word-it, then_word-it, else_word-it, open_paren-it, close_paren-it, comma-it, colon-it, arrow-it, assign-it}
use Rattle.sb_grammar.specs.Grammar.{number-it, positive-it, a_name-it, scalar-int, scalar-text, scalar-bool, batch-whole, start-minus, start-number}
use Rattle.sb_grammar.specs.Grammar.{field-name, field-keyword, fields-none, fields-some, more_fields-none, more_fields-some, mono-sum, mono-min}
use Rattle.sb_grammar.specs.Grammar.{mono-max, mono-first, mono-last, mono-concat, mono-set, mono-top, mono-cms, mono-hll, mono-pair, mono-map}
use Rattle.sb_grammar.specs.Grammar.{a_type-pair, a_type-opt, a_type-list, a_type-scalar, atom-int, atom-text, atom-true, atom-false, atom-it}
use Rattle.sb_grammar.specs.Grammar.{atom-group, atom-list, atom-empty, atom-none, atom-some, atom-orelse, atom-has, atom-lower, atom-words, atom-len}
use Rattle.sb_grammar.specs.Grammar.{atom-starts, group_end-close, group_end-second, list_end-close, list_end-more, post_step-name, post_step-keyword}
use Rattle.sb_grammar.specs.Grammar.{post_step-first, post_step-second, post_steps-dot, post_steps-none, post-whole, unary-minus, unary-plain}
use Rattle.sb_grammar.specs.Grammar.{prod_rests-times, prod_rests-over, prod_rests-modulo, prod_rests-none, prod-whole, add_rests-plus}
use Rattle.sb_grammar.specs.Grammar.{add_rests-minus, add_rests-none, add-whole, comparison-equal, comparison-unequal, comparison-less}
use Rattle.sb_grammar.specs.Grammar.{comparison-at_most, comparison-greater, comparison-at_least, comparison-none, cmp-whole, neg-not, neg-plain}
use Rattle.sb_grammar.specs.Grammar.{conj_rests-and, conj_rests-none, conj-whole, disj_rests-or, disj_rests-none, disj-whole, expr-if, expr-plain}
use Rattle.sb_grammar.specs.Grammar.{stage-map, stage-filter, stage-flat_map, stage-join, stages-bar, stages-none, head-name, head-merge}
use Rattle.sb_grammar.specs.Grammar.{stream-whole, store_stages-whole, store_stage-map, store_stage-filter, store_stage-flat_map, store_stage-join}
use Rattle.sb_grammar.specs.Grammar.{store_stage-sum, statement-source, statement-service, statement-let, statement-store}
use Rattle.sb_grammar.specs.Text.{number_text, word_text, quoted_text, all_text, each_behind, listed, scalar_text, type_text}
use Rattle.sb_grammar.specs.Text.{mono_text, operator_text, step_text}
use Rattle.sb_grammar.specs.Text.{add_rest_text, atom_text, cmp_text}
use Rattle.sb_grammar.specs.Text.{expr_text, neg_text, prod_rest_text, unary_text, add_text, conj_text, disj_text, post_text, prod_text, stage_text}
use Rattle.sb_grammar.specs.Text.{head_text, stream_text, field_text, statement_text, minus_text, batch_text}
use Rattle.sb_grammar.proofs.TextViews.{type_text-Scalar, type_text-Pair, type_text-Opt, type_text-List, mono_text-Sum, mono_text-Min, mono_text-Max}
use Rattle.sb_grammar.proofs.TextViews.{mono_text-First, mono_text-Last, mono_text-Concat, mono_text-Set, mono_text-Top, mono_text-Cms, mono_text-Hll}
use Rattle.sb_grammar.proofs.TextViews.{mono_text-Pair, mono_text-Map, add_rest_text-Plus, add_rest_text-Minus, atom_text-Int, atom_text-Text}
use Rattle.sb_grammar.proofs.TextViews.{atom_text-True, atom_text-False, atom_text-It, atom_text-Group, atom_text-Pair, atom_text-List}
use Rattle.sb_grammar.proofs.TextViews.{atom_text-Empty, atom_text-NoneOf, atom_text-SomeOf, atom_text-Orelse, atom_text-Has, atom_text-Lower}
use Rattle.sb_grammar.proofs.TextViews.{atom_text-Words, atom_text-Len, atom_text-Starts, cmp_text-Plain, cmp_text-Both, expr_text-If}
use Rattle.sb_grammar.proofs.TextViews.{expr_text-Plain, neg_text-Not, neg_text-Plain, prod_rest_text-Times, prod_rest_text-Over}
use Rattle.sb_grammar.proofs.TextViews.{prod_rest_text-Modulo, unary_text-Minus, unary_text-Plain, add_text-Add, conj_text-Conj, disj_text-Disj}
use Rattle.sb_grammar.proofs.TextViews.{post_text-Post, prod_text-Prod, head_text-Name, head_text-Merge, stream_text-Stream}

-- each token with a space behind it
abbrev pub spaced : List Token → List ℕ
spaced [] = []
spaced (x ∷ ts) = (spelling x ++ codes " ") ++ spaced ts

abbrev group_end_text : Option Expr → List ℕ
group_end_text None = codes ") "
group_end_text (Some b) = codes ", " ++ (expr_text b ++ codes ") ")

group_text : (a : Expr) (b : Option Expr) → atom_text (group_of a b) ≡ codes "( " ++ (expr_text a ++ group_end_text b)
group_text a None = atom_text-Group a
group_text a (Some b) = atom_text-Pair a b

abbrev comparison_text : Option (CmpOp × Add) → List ℕ
comparison_text None = []
comparison_text (Some c) = operator_text c.0 ++ add_text c.1

compared_text : (a : Add) (b : Option (CmpOp × Add)) → cmp_text (cmp_of a b) ≡ add_text a ++ comparison_text b
compared_text a None = cmp_text-Plain a ∙ sym (append-nil (add_text a))
compared_text a (Some b) = cmp_text-Both b.0 a b.1

abbrev store_stage_text : List Stage → MonoTree → List ℕ
store_stage_text [] a = codes "sumByKey " ++ mono_text a
store_stage_text (s ∷ more) a = stage_text s ++ (each_behind (codes "| ") (map stage_text more) ++ (codes "| sumByKey " ++ mono_text a))

store_bar : (list : List Stage) (a : MonoTree) (w : List ℕ) → codes "| " ++ (store_stage_text list a ++ w) ≡ (each_behind (codes "| ")
    (map stage_text list) ++ (codes "| sumByKey " ++ mono_text a)) ++ w
store_bar [] a w = refl
store_bar (s ∷ more) a w = simp append_assoc refl

abbrev pub rule_text : (r : Rule) → Tree r → List ℕ
rule_text from_word _ = codes "from "
rule_text then_word _ = codes "then "
rule_text else_word _ = codes "else "
rule_text open_paren _ = codes "( "
rule_text close_paren _ = codes ") "
rule_text comma _ = codes ", "
rule_text colon _ = codes ": "
rule_text arrow _ = codes "-> "
rule_text assign _ = codes "= "
rule_text number x = number_text x
rule_text positive x = number_text x
rule_text a_name x = word_text x
rule_text scalar x = scalar_text x
rule_text batch x = batch_text x.0 x.1.0 x.1.1
rule_text start x = minus_text x.0 ++ number_text x.1
rule_text field x = field_text x
rule_text fields x = listed (map field_text x) ++ codes ") "
rule_text more_fields x = each_behind (codes ", ") (map field_text x) ++ codes ") "
rule_text mono x = mono_text x
rule_text a_type x = type_text x
rule_text atom x = atom_text x
rule_text group_end x = group_end_text x
rule_text list_end x = each_behind (codes ", ") (map expr_text x) ++ codes "] "
rule_text post_step x = step_text x
rule_text post_steps x = each_behind (codes ". ") (map step_text x)
rule_text post x = post_text x
rule_text unary x = unary_text x
rule_text prod_rests x = all_text (map prod_rest_text x)
rule_text prod x = prod_text x
rule_text add_rests x = all_text (map add_rest_text x)
rule_text add x = add_text x
rule_text comparison x = comparison_text x
rule_text cmp x = cmp_text x
rule_text neg x = neg_text x
rule_text conj_rests x = each_behind (codes "and ") (map neg_text x)
rule_text conj x = conj_text x
rule_text disj_rests x = each_behind (codes "or ") (map conj_text x)
rule_text disj x = disj_text x
rule_text expr x = expr_text x
rule_text stage x = stage_text x
rule_text stages x = each_behind (codes "| ") (map stage_text x)
rule_text head x = head_text x
rule_text stream x = stream_text x
rule_text store_stages x = each_behind (codes "| ") (map stage_text x.0) ++ (codes "| sumByKey " ++ mono_text x.1)
rule_text store_stage x = store_stage_text x.0 x.1
rule_text statement x = statement_text x

pub text_of : {r : Rule} {a : Tree r} {ts us : List Token} → Derives r a ts us → spaced ts ≡ rule_text r a ++ spaced us
text_of (from_word-it {ts = ts}) =
    let tidied : ((spelling (t.keyword k.From) ++ codes " ") ++ spaced ts) ≡ (codes "from ") ++ spaced ts = refl in
    tidied
text_of (then_word-it {ts = ts}) =
    let tidied : ((spelling (t.keyword k.Then) ++ codes " ") ++ spaced ts) ≡ (codes "then ") ++ spaced ts = refl in
    tidied
text_of (else_word-it {ts = ts}) =
    let tidied : ((spelling (t.keyword k.Else) ++ codes " ") ++ spaced ts) ≡ (codes "else ") ++ spaced ts = refl in
    tidied
text_of (open_paren-it {ts = ts}) =
    let tidied : ((spelling (t.symbol m.OpenParen) ++ codes " ") ++ spaced ts) ≡ (codes "( ") ++ spaced ts = refl in
    tidied
text_of (close_paren-it {ts = ts}) =
    let tidied : ((spelling (t.symbol m.CloseParen) ++ codes " ") ++ spaced ts) ≡ (codes ") ") ++ spaced ts = refl in
    tidied
text_of (comma-it {ts = ts}) =
    let tidied : ((spelling (t.symbol m.Comma) ++ codes " ") ++ spaced ts) ≡ (codes ", ") ++ spaced ts = refl in
    tidied
text_of (colon-it {ts = ts}) =
    let tidied : ((spelling (t.symbol m.Colon) ++ codes " ") ++ spaced ts) ≡ (codes ": ") ++ spaced ts = refl in
    tidied
text_of (arrow-it {ts = ts}) =
    let tidied : ((spelling (t.symbol m.Arrow) ++ codes " ") ++ spaced ts) ≡ (codes "-> ") ++ spaced ts = refl in
    tidied
text_of (assign-it {ts = ts}) =
    let tidied : ((spelling (t.symbol m.Assign) ++ codes " ") ++ spaced ts) ≡ (codes "= ") ++ spaced ts = refl in
    tidied
text_of (number-it {n = n} {ts = ts}) =
    let tidied : ((spelling (t.int n) ++ codes " ") ++ spaced ts) ≡ (number_text n) ++ spaced ts = refl in
    tidied
text_of (positive-it {n = n} {ts = ts}) =
    let tidied : ((spelling (t.int (suc n)) ++ codes " ") ++ spaced ts) ≡ (number_text (suc n)) ++ spaced ts = refl in
    tidied
text_of (a_name-it {n = n} {ts = ts}) =
    let tidied : ((spelling (t.name n) ++ codes " ") ++ spaced ts) ≡ (word_text n) ++ spaced ts = refl in
    tidied
text_of (scalar-int {ts = ts}) =
    let tidied : ((spelling (t.keyword k.Int) ++ codes " ") ++ spaced ts) ≡ (scalar_text scalars.Int) ++ spaced ts = refl in
    tidied
text_of (scalar-text {ts = ts}) =
    let tidied : ((spelling (t.keyword k.Text) ++ codes " ") ++ spaced ts) ≡ (scalar_text scalars.Text) ++ spaced ts = refl in
    tidied
text_of (scalar-bool {ts = ts}) =
    let tidied : ((spelling (t.keyword k.Bool) ++ codes " ") ++ spaced ts) ≡ (scalar_text scalars.Bool) ++ spaced ts = refl in
    tidied
text_of (batch-whole {a = a} {b = b} {c = c} {ts = ts} {us = us} {vs = vs} {ws = ws} d0 d1 d2) =
    let tidied : ((spelling (t.keyword k.Batch) ++ codes " ") ++ ((number_text a) ++ ((codes "from ") ++
    ((minus_text c.0 ++ number_text c.1) ++ spaced ws)))) ≡ (batch_text a c.0 c.1) ++ spaced ws = simp append_assoc refl in
    ap (λ l. (spelling (t.keyword k.Batch) ++ codes " ") ++ l) (text_of d0 ∙ ap (λ l. (number_text a) ++ l) (text_of d1 ∙ ap (λ l.
    (codes "from ") ++ l) (text_of d2))) ∙ tidied
text_of (start-minus {a = a} {ts = ts} {us = us} d0) =
    let tidied : ((spelling (t.symbol m.Minus) ++ codes " ") ++ ((number_text a) ++ spaced us)) ≡
    (minus_text true ++ number_text a) ++ spaced us = refl in
    ap (λ l. (spelling (t.symbol m.Minus) ++ codes " ") ++ l) (text_of d0) ∙ tidied
text_of (start-number {n = n} {ts = ts}) =
    let tidied : ((spelling (t.int n) ++ codes " ") ++ spaced ts) ≡ (minus_text false ++ number_text n) ++ spaced ts = refl in
    tidied
text_of (field-name {n = n} {a = a} {b = b} {ts = ts} {us = us} {vs = vs} d0 d1) =
    let tidied : ((spelling (t.name n) ++ codes " ") ++ ((codes ": ") ++ ((scalar_text b) ++ spaced vs))) ≡ (field_text
    (record { name = n; scalar = b })) ++ spaced vs = simp append_assoc refl in
    ap (λ l. (spelling (t.name n) ++ codes " ") ++ l) (text_of d0 ∙ ap (λ l. (codes ": ") ++ l) (text_of d1)) ∙ tidied
text_of (field-keyword {w = w} {a = a} {b = b} {ts = ts} {us = us} {vs = vs} d0 d1) =
    let tidied : ((spelling (t.keyword w) ++ codes " ") ++ ((codes ": ") ++ ((scalar_text b) ++ spaced vs))) ≡ (field_text (record {
      name =
          (keyword_text w);
      scalar = b;
    })) ++ spaced vs = simp append_assoc refl in
    ap (λ l. (spelling (t.keyword w) ++ codes " ") ++ l) (text_of d0 ∙ ap (λ l. (codes ": ") ++ l) (text_of d1)) ∙ tidied
text_of (fields-none {ts = ts}) =
    let tidied : ((spelling (t.symbol m.CloseParen) ++ codes " ") ++ spaced ts) ≡ (listed (map field_text []) ++ codes ") ") ++ spaced ts = refl in
    tidied
text_of (fields-some {a = a} {b = b} {ts = ts} {us = us} {vs = vs} d0 d1) =
    let tidied : ((field_text a) ++ ((each_behind (codes ", ") (map field_text b) ++ codes ") ") ++ spaced vs)) ≡ (listed (map field_text
    (a ∷ b)) ++ codes ") ") ++ spaced vs = simp append_assoc refl in
    text_of d0 ∙ ap (λ l. (field_text a) ++ l) (text_of d1) ∙ tidied
text_of (more_fields-none {ts = ts}) =
    let tidied : ((spelling (t.symbol m.CloseParen) ++ codes " ") ++ spaced ts) ≡ (each_behind (codes ", ")
    (map field_text []) ++ codes ") ") ++ spaced ts = refl in
    tidied
text_of (more_fields-some {a = a} {b = b} {ts = ts} {us = us} {vs = vs} d0 d1) =
    let tidied : ((spelling (t.symbol m.Comma) ++ codes " ") ++ ((field_text a) ++ ((each_behind (codes ", ")
    (map field_text b) ++ codes ") ") ++ spaced vs))) ≡ (each_behind (codes ", ") (map field_text
    (a ∷ b)) ++ codes ") ") ++ spaced vs = simp append_assoc refl in
    ap (λ l. (spelling (t.symbol m.Comma) ++ codes " ") ++ l) (text_of d0 ∙ ap (λ l. (field_text a) ++ l) (text_of d1)) ∙ tidied
text_of (mono-sum {ts = ts}) =
    let tidied : ((spelling (t.keyword k.Sum) ++ codes " ") ++ spaced ts) ≡ (codes "sum ") ++ spaced ts = refl in
    tidied ∙ ap (λ l. l ++ spaced ts) (sym (mono_text-Sum))
text_of (mono-min {ts = ts}) =
    let tidied : ((spelling (t.keyword k.Min) ++ codes " ") ++ spaced ts) ≡ (codes "min ") ++ spaced ts = refl in
    tidied ∙ ap (λ l. l ++ spaced ts) (sym (mono_text-Min))
text_of (mono-max {ts = ts}) =
    let tidied : ((spelling (t.keyword k.Max) ++ codes " ") ++ spaced ts) ≡ (codes "max ") ++ spaced ts = refl in
    tidied ∙ ap (λ l. l ++ spaced ts) (sym (mono_text-Max))
text_of (mono-first {ts = ts}) =
    let tidied : ((spelling (t.keyword k.First) ++ codes " ") ++ spaced ts) ≡ (codes "first ") ++ spaced ts = refl in
    tidied ∙ ap (λ l. l ++ spaced ts) (sym (mono_text-First))
text_of (mono-last {ts = ts}) =
    let tidied : ((spelling (t.keyword k.Last) ++ codes " ") ++ spaced ts) ≡ (codes "last ") ++ spaced ts = refl in
    tidied ∙ ap (λ l. l ++ spaced ts) (sym (mono_text-Last))
text_of (mono-concat {ts = ts}) =
    let tidied : ((spelling (t.keyword k.Concat) ++ codes " ") ++ spaced ts) ≡ (codes "concat ") ++ spaced ts = refl in
    tidied ∙ ap (λ l. l ++ spaced ts) (sym (mono_text-Concat))
text_of (mono-set {ts = ts}) =
    let tidied : ((spelling (t.keyword k.Set) ++ codes " ") ++ spaced ts) ≡ (codes "set ") ++ spaced ts = refl in
    tidied ∙ ap (λ l. l ++ spaced ts) (sym (mono_text-Set))
text_of (mono-top {a = a} {b = b} {c = c} {ts = ts} {us = us} {vs = vs} {ws = ws} d0 d1 d2) =
    let tidied : ((spelling (t.keyword k.Top) ++ codes " ") ++ ((codes "( ") ++ ((number_text b) ++ ((codes ") ") ++ spaced ws)))) ≡
    (codes "top ( " ++ (number_text b ++ codes ") ")) ++ spaced ws = simp append_assoc refl in
    ap (λ l. (spelling (t.keyword k.Top) ++ codes " ") ++ l) (text_of d0 ∙ ap (λ l. (codes "( ") ++ l) (text_of d1 ∙ ap (λ l. (number_text b) ++ l)
    (text_of d2))) ∙ tidied ∙ ap (λ l. l ++ spaced ws) (sym (mono_text-Top b))
text_of (mono-cms {a = a} {b = b} {c = c} {d = d} {g = g} {ts = ts} {us = us} {vs = vs} {ws = ws} {xs = xs} {ys = ys} d0 d1 d2 d3 d4) =
    let tidied : ((spelling (t.keyword k.Cms) ++ codes " ") ++ ((codes "( ") ++ ((number_text b) ++ ((codes ", ") ++ ((number_text d) ++
    ((codes ") ") ++ spaced ys)))))) ≡ (codes "cms ( " ++ (number_text b ++ (codes ", " ++
    (number_text d ++ codes ") ")))) ++ spaced ys = simp append_assoc refl in
    ap (λ l. (spelling (t.keyword k.Cms) ++ codes " ") ++ l) (text_of d0 ∙ ap (λ l. (codes "( ") ++ l) (text_of d1 ∙ ap (λ l. (number_text b) ++ l)
    (text_of d2 ∙ ap (λ l. (codes ", ") ++ l) (text_of d3 ∙ ap (λ l. (number_text d) ++ l) (text_of d4))))) ∙ tidied ∙ ap (λ l. l ++ spaced ys)
    (sym (mono_text-Cms b d))
text_of (mono-hll {a = a} {b = b} {c = c} {ts = ts} {us = us} {vs = vs} {ws = ws} d0 d1 d2) =
    let tidied : ((spelling (t.keyword k.Hll) ++ codes " ") ++ ((codes "( ") ++ ((number_text b) ++ ((codes ") ") ++ spaced ws)))) ≡
    (codes "hll ( " ++ (number_text b ++ codes ") ")) ++ spaced ws = simp append_assoc refl in
    ap (λ l. (spelling (t.keyword k.Hll) ++ codes " ") ++ l) (text_of d0 ∙ ap (λ l. (codes "( ") ++ l) (text_of d1 ∙ ap (λ l. (number_text b) ++ l)
    (text_of d2))) ∙ tidied ∙ ap (λ l. l ++ spaced ws) (sym (mono_text-Hll b))
text_of (mono-pair {a = a} {b = b} {c = c} {d = d} {g = g} {ts = ts} {us = us} {vs = vs} {ws = ws} {xs = xs} {ys = ys} d0 d1 d2 d3 d4) =
    let tidied : ((spelling (t.keyword k.Pair) ++ codes " ") ++ ((codes "( ") ++ ((mono_text b) ++ ((codes ", ") ++ ((mono_text d) ++
    ((codes ") ") ++ spaced ys)))))) ≡ (codes "pair ( " ++ (mono_text b ++ (codes ", " ++
    (mono_text d ++ codes ") ")))) ++ spaced ys = simp append_assoc refl in
    ap (λ l. (spelling (t.keyword k.Pair) ++ codes " ") ++ l) (text_of d0 ∙ ap (λ l. (codes "( ") ++ l) (text_of d1 ∙ ap (λ l. (mono_text b) ++ l)
    (text_of d2 ∙ ap (λ l. (codes ", ") ++ l) (text_of d3 ∙ ap (λ l. (mono_text d) ++ l) (text_of d4))))) ∙ tidied ∙ ap (λ l. l ++ spaced ys)
    (sym (mono_text-Pair b d))
text_of (mono-map {a = a} {b = b} {c = c} {ts = ts} {us = us} {vs = vs} {ws = ws} d0 d1 d2) =
    let tidied : ((spelling (t.keyword k.Map) ++ codes " ") ++ ((codes "( ") ++ ((mono_text b) ++ ((codes ") ") ++ spaced ws)))) ≡
    (codes "map ( " ++ (mono_text b ++ codes ") ")) ++ spaced ws = simp append_assoc refl in
    ap (λ l. (spelling (t.keyword k.Map) ++ codes " ") ++ l) (text_of d0 ∙ ap (λ l. (codes "( ") ++ l) (text_of d1 ∙ ap (λ l. (mono_text b) ++ l)
    (text_of d2))) ∙ tidied ∙ ap (λ l. l ++ spaced ws) (sym (mono_text-Map b))
text_of (a_type-pair {a = a} {b = b} {c = c} {d = d} {g = g} {ts = ts} {us = us} {vs = vs} {ws = ws} {xs = xs} {ys = ys} d0 d1 d2 d3 d4) =
    let tidied : ((spelling (t.keyword k.Pair) ++ codes " ") ++ ((codes "( ") ++ ((type_text b) ++ ((codes ", ") ++ ((type_text d) ++
    ((codes ") ") ++ spaced ys)))))) ≡ (codes "pair ( " ++ (type_text b ++ (codes ", " ++
    (type_text d ++ codes ") ")))) ++ spaced ys = simp append_assoc refl in
    ap (λ l. (spelling (t.keyword k.Pair) ++ codes " ") ++ l) (text_of d0 ∙ ap (λ l. (codes "( ") ++ l) (text_of d1 ∙ ap (λ l. (type_text b) ++ l)
    (text_of d2 ∙ ap (λ l. (codes ", ") ++ l) (text_of d3 ∙ ap (λ l. (type_text d) ++ l) (text_of d4))))) ∙ tidied ∙ ap (λ l. l ++ spaced ys)
    (sym (type_text-Pair b d))
text_of (a_type-opt {a = a} {b = b} {c = c} {ts = ts} {us = us} {vs = vs} {ws = ws} d0 d1 d2) =
    let tidied : ((spelling (t.keyword k.Opt) ++ codes " ") ++ ((codes "( ") ++ ((type_text b) ++ ((codes ") ") ++ spaced ws)))) ≡
    (codes "opt ( " ++ (type_text b ++ codes ") ")) ++ spaced ws = simp append_assoc refl in
    ap (λ l. (spelling (t.keyword k.Opt) ++ codes " ") ++ l) (text_of d0 ∙ ap (λ l. (codes "( ") ++ l) (text_of d1 ∙ ap (λ l. (type_text b) ++ l)
    (text_of d2))) ∙ tidied ∙ ap (λ l. l ++ spaced ws) (sym (type_text-Opt b))
text_of (a_type-list {a = a} {b = b} {c = c} {d = d} {g = g} {ts = ts} {us = us} {vs = vs} {ws = ws} {xs = xs} {ys = ys} d0 d1 d2 d3 d4) =
    let tidied : ((spelling (t.keyword k.List) ++ codes " ") ++ ((codes "( ") ++ ((type_text b) ++ ((codes ", ") ++ ((number_text d) ++
    ((codes ") ") ++ spaced ys)))))) ≡ (codes "list ( " ++ (type_text b ++ (codes ", " ++
    (number_text d ++ codes ") ")))) ++ spaced ys = simp append_assoc refl in
    ap (λ l. (spelling (t.keyword k.List) ++ codes " ") ++ l) (text_of d0 ∙ ap (λ l. (codes "( ") ++ l) (text_of d1 ∙ ap (λ l. (type_text b) ++ l)
    (text_of d2 ∙ ap (λ l. (codes ", ") ++ l) (text_of d3 ∙ ap (λ l. (number_text d) ++ l) (text_of d4))))) ∙ tidied ∙ ap (λ l. l ++ spaced ys)
    (sym (type_text-List b d))
text_of (a_type-scalar {a = a} {ts = ts} {us = us} d0) =
    let tidied : ((scalar_text a) ++ spaced us) ≡ (scalar_text a) ++ spaced us = refl in
    text_of d0 ∙ tidied ∙ ap (λ l. l ++ spaced us) (sym (type_text-Scalar a))
text_of (atom-int {n = n} {ts = ts}) =
    let tidied : ((spelling (t.int n) ++ codes " ") ++ spaced ts) ≡ (number_text n) ++ spaced ts = refl in
    tidied ∙ ap (λ l. l ++ spaced ts) (sym (atom_text-Int n))
text_of (atom-text {value = value} {ts = ts}) =
    let tidied : ((spelling (t.text value) ++ codes " ") ++ spaced ts) ≡ (quoted_text value) ++ spaced ts = refl in
    tidied ∙ ap (λ l. l ++ spaced ts) (sym (atom_text-Text value))
text_of (atom-true {ts = ts}) =
    let tidied : ((spelling (t.keyword k.True) ++ codes " ") ++ spaced ts) ≡ (codes "true ") ++ spaced ts = refl in
    tidied ∙ ap (λ l. l ++ spaced ts) (sym (atom_text-True))
text_of (atom-false {ts = ts}) =
    let tidied : ((spelling (t.keyword k.False) ++ codes " ") ++ spaced ts) ≡ (codes "false ") ++ spaced ts = refl in
    tidied ∙ ap (λ l. l ++ spaced ts) (sym (atom_text-False))
text_of (atom-it {ts = ts}) =
    let tidied : ((spelling (t.keyword k.It) ++ codes " ") ++ spaced ts) ≡ (codes "it ") ++ spaced ts = refl in
    tidied ∙ ap (λ l. l ++ spaced ts) (sym (atom_text-It))
text_of (atom-group {a = a} {b = b} {ts = ts} {us = us} {vs = vs} d0 d1) =
    let tidied : ((spelling (t.symbol m.OpenParen) ++ codes " ") ++ ((expr_text a) ++ ((group_end_text b) ++ spaced vs))) ≡ (codes "( " ++
    (expr_text a ++ group_end_text b)) ++ spaced vs = simp append_assoc refl in
    ap (λ l. (spelling (t.symbol m.OpenParen) ++ codes " ") ++ l) (text_of d0 ∙ ap (λ l. (expr_text a) ++ l) (text_of d1)) ∙ tidied ∙ ap
    (λ l. l ++ spaced vs) (sym (group_text a b))
text_of (atom-list {a = a} {b = b} {ts = ts} {us = us} {vs = vs} d0 d1) =
    let tidied : ((spelling (t.symbol m.OpenBracket) ++ codes " ") ++ ((expr_text a) ++ ((each_behind (codes ", ")
    (map expr_text b) ++ codes "] ") ++ spaced vs))) ≡ (codes "[ " ++ (listed (map expr_text
    (a ∷ b)) ++ codes "] ")) ++ spaced vs = simp append_assoc refl in
    ap (λ l. (spelling (t.symbol m.OpenBracket) ++ codes " ") ++ l) (text_of d0 ∙ ap (λ l. (expr_text a) ++ l) (text_of d1)) ∙ tidied ∙ ap
    (λ l. l ++ spaced vs) (sym (atom_text-List (a ∷ b)))
text_of (atom-empty {a = a} {b = b} {c = c} {ts = ts} {us = us} {vs = vs} {ws = ws} d0 d1 d2) =
    let tidied : ((spelling (t.keyword k.Empty) ++ codes " ") ++ ((codes "( ") ++ ((type_text b) ++ ((codes ") ") ++ spaced ws)))) ≡
    (codes "empty ( " ++ (type_text b ++ codes ") ")) ++ spaced ws = simp append_assoc refl in
    ap (λ l. (spelling (t.keyword k.Empty) ++ codes " ") ++ l) (text_of d0 ∙ ap (λ l. (codes "( ") ++ l) (text_of d1 ∙ ap (λ l. (type_text b) ++ l)
    (text_of d2))) ∙ tidied ∙ ap (λ l. l ++ spaced ws) (sym (atom_text-Empty b))
text_of (atom-none {a = a} {b = b} {c = c} {ts = ts} {us = us} {vs = vs} {ws = ws} d0 d1 d2) =
    let tidied : ((spelling (t.keyword k.NoneOf) ++ codes " ") ++ ((codes "( ") ++ ((type_text b) ++ ((codes ") ") ++ spaced ws)))) ≡
    (codes "none ( " ++ (type_text b ++ codes ") ")) ++ spaced ws = simp append_assoc refl in
    ap (λ l. (spelling (t.keyword k.NoneOf) ++ codes " ") ++ l) (text_of d0 ∙ ap (λ l. (codes "( ") ++ l) (text_of d1 ∙ ap (λ l. (type_text b) ++ l)
    (text_of d2))) ∙ tidied ∙ ap (λ l. l ++ spaced ws) (sym (atom_text-NoneOf b))
text_of (atom-some {a = a} {b = b} {c = c} {ts = ts} {us = us} {vs = vs} {ws = ws} d0 d1 d2) =
    let tidied : ((spelling (t.keyword k.SomeOf) ++ codes " ") ++ ((codes "( ") ++ ((expr_text b) ++ ((codes ") ") ++ spaced ws)))) ≡
    (codes "some ( " ++ (expr_text b ++ codes ") ")) ++ spaced ws = simp append_assoc refl in
    ap (λ l. (spelling (t.keyword k.SomeOf) ++ codes " ") ++ l) (text_of d0 ∙ ap (λ l. (codes "( ") ++ l) (text_of d1 ∙ ap (λ l. (expr_text b) ++ l)
    (text_of d2))) ∙ tidied ∙ ap (λ l. l ++ spaced ws) (sym (atom_text-SomeOf b))
text_of (atom-orelse {a = a} {b = b} {c = c} {d = d} {g = g} {ts = ts} {us = us} {vs = vs} {ws = ws} {xs = xs} {ys = ys} d0 d1 d2 d3 d4) =
    let tidied : ((spelling (t.keyword k.Orelse) ++ codes " ") ++ ((codes "( ") ++ ((expr_text b) ++ ((codes ", ") ++ ((expr_text d) ++
    ((codes ") ") ++ spaced ys)))))) ≡ (codes "orelse ( " ++ (expr_text b ++ (codes ", " ++
    (expr_text d ++ codes ") ")))) ++ spaced ys = simp append_assoc refl in
    ap (λ l. (spelling (t.keyword k.Orelse) ++ codes " ") ++ l) (text_of d0 ∙ ap (λ l. (codes "( ") ++ l) (text_of d1 ∙ ap (λ l. (expr_text b) ++ l)
    (text_of d2 ∙ ap (λ l. (codes ", ") ++ l) (text_of d3 ∙ ap (λ l. (expr_text d) ++ l) (text_of d4))))) ∙ tidied ∙ ap (λ l. l ++ spaced ys)
    (sym (atom_text-Orelse b d))
text_of (atom-has {a = a} {b = b} {c = c} {ts = ts} {us = us} {vs = vs} {ws = ws} d0 d1 d2) =
    let tidied : ((spelling (t.keyword k.Has) ++ codes " ") ++ ((codes "( ") ++ ((expr_text b) ++ ((codes ") ") ++ spaced ws)))) ≡
    (codes "has ( " ++ (expr_text b ++ codes ") ")) ++ spaced ws = simp append_assoc refl in
    ap (λ l. (spelling (t.keyword k.Has) ++ codes " ") ++ l) (text_of d0 ∙ ap (λ l. (codes "( ") ++ l) (text_of d1 ∙ ap (λ l. (expr_text b) ++ l)
    (text_of d2))) ∙ tidied ∙ ap (λ l. l ++ spaced ws) (sym (atom_text-Has b))
text_of (atom-lower {a = a} {b = b} {c = c} {ts = ts} {us = us} {vs = vs} {ws = ws} d0 d1 d2) =
    let tidied : ((spelling (t.keyword k.Lower) ++ codes " ") ++ ((codes "( ") ++ ((expr_text b) ++ ((codes ") ") ++ spaced ws)))) ≡
    (codes "lower ( " ++ (expr_text b ++ codes ") ")) ++ spaced ws = simp append_assoc refl in
    ap (λ l. (spelling (t.keyword k.Lower) ++ codes " ") ++ l) (text_of d0 ∙ ap (λ l. (codes "( ") ++ l) (text_of d1 ∙ ap (λ l. (expr_text b) ++ l)
    (text_of d2))) ∙ tidied ∙ ap (λ l. l ++ spaced ws) (sym (atom_text-Lower b))
text_of (atom-words {a = a} {b = b} {c = c} {d = d} {g = g} {ts = ts} {us = us} {vs = vs} {ws = ws} {xs = xs} {ys = ys} d0 d1 d2 d3 d4) =
    let tidied : ((spelling (t.keyword k.Words) ++ codes " ") ++ ((codes "( ") ++ ((expr_text b) ++ ((codes ", ") ++ ((number_text d) ++
    ((codes ") ") ++ spaced ys)))))) ≡ (codes "words ( " ++ (expr_text b ++ (codes ", " ++
    (number_text d ++ codes ") ")))) ++ spaced ys = simp append_assoc refl in
    ap (λ l. (spelling (t.keyword k.Words) ++ codes " ") ++ l) (text_of d0 ∙ ap (λ l. (codes "( ") ++ l) (text_of d1 ∙ ap (λ l. (expr_text b) ++ l)
    (text_of d2 ∙ ap (λ l. (codes ", ") ++ l) (text_of d3 ∙ ap (λ l. (number_text d) ++ l) (text_of d4))))) ∙ tidied ∙ ap (λ l. l ++ spaced ys)
    (sym (atom_text-Words b d))
text_of (atom-len {a = a} {b = b} {c = c} {ts = ts} {us = us} {vs = vs} {ws = ws} d0 d1 d2) =
    let tidied : ((spelling (t.keyword k.Len) ++ codes " ") ++ ((codes "( ") ++ ((expr_text b) ++ ((codes ") ") ++ spaced ws)))) ≡
    (codes "len ( " ++ (expr_text b ++ codes ") ")) ++ spaced ws = simp append_assoc refl in
    ap (λ l. (spelling (t.keyword k.Len) ++ codes " ") ++ l) (text_of d0 ∙ ap (λ l. (codes "( ") ++ l) (text_of d1 ∙ ap (λ l. (expr_text b) ++ l)
    (text_of d2))) ∙ tidied ∙ ap (λ l. l ++ spaced ws) (sym (atom_text-Len b))
text_of (atom-starts {a = a} {b = b} {c = c} {d = d} {g = g} {ts = ts} {us = us} {vs = vs} {ws = ws} {xs = xs} {ys = ys} d0 d1 d2 d3 d4) =
    let tidied : ((spelling (t.keyword k.Starts) ++ codes " ") ++ ((codes "( ") ++ ((expr_text b) ++ ((codes ", ") ++ ((expr_text d) ++
    ((codes ") ") ++ spaced ys)))))) ≡ (codes "starts ( " ++ (expr_text b ++ (codes ", " ++
    (expr_text d ++ codes ") ")))) ++ spaced ys = simp append_assoc refl in
    ap (λ l. (spelling (t.keyword k.Starts) ++ codes " ") ++ l) (text_of d0 ∙ ap (λ l. (codes "( ") ++ l) (text_of d1 ∙ ap (λ l. (expr_text b) ++ l)
    (text_of d2 ∙ ap (λ l. (codes ", ") ++ l) (text_of d3 ∙ ap (λ l. (expr_text d) ++ l) (text_of d4))))) ∙ tidied ∙ ap (λ l. l ++ spaced ys)
    (sym (atom_text-Starts b d))
text_of (group_end-close {ts = ts}) =
    let tidied : ((spelling (t.symbol m.CloseParen) ++ codes " ") ++ spaced ts) ≡ (group_end_text None) ++ spaced ts = refl in
    tidied
text_of (group_end-second {a = a} {b = b} {ts = ts} {us = us} {vs = vs} d0 d1) =
    let tidied : ((spelling (t.symbol m.Comma) ++ codes " ") ++ ((expr_text a) ++ ((codes ") ") ++ spaced vs))) ≡ (group_end_text
    (Some a)) ++ spaced vs = simp append_assoc refl in
    ap (λ l. (spelling (t.symbol m.Comma) ++ codes " ") ++ l) (text_of d0 ∙ ap (λ l. (expr_text a) ++ l) (text_of d1)) ∙ tidied
text_of (list_end-close {ts = ts}) =
    let tidied : ((spelling (t.symbol m.CloseBracket) ++ codes " ") ++ spaced ts) ≡ (each_behind (codes ", ")
    (map expr_text []) ++ codes "] ") ++ spaced ts = refl in
    tidied
text_of (list_end-more {a = a} {b = b} {ts = ts} {us = us} {vs = vs} d0 d1) =
    let tidied : ((spelling (t.symbol m.Comma) ++ codes " ") ++ ((expr_text a) ++ ((each_behind (codes ", ")
    (map expr_text b) ++ codes "] ") ++ spaced vs))) ≡ (each_behind (codes ", ") (map expr_text
    (a ∷ b)) ++ codes "] ") ++ spaced vs = simp append_assoc refl in
    ap (λ l. (spelling (t.symbol m.Comma) ++ codes " ") ++ l) (text_of d0 ∙ ap (λ l. (expr_text a) ++ l) (text_of d1)) ∙ tidied
text_of (post_step-name {n = n} {ts = ts}) =
    let tidied : ((spelling (t.name n) ++ codes " ") ++ spaced ts) ≡ (step_text (steps.Field n)) ++ spaced ts = refl in
    tidied
text_of (post_step-keyword {w = w} {ts = ts}) =
    let tidied : ((spelling (t.keyword w) ++ codes " ") ++ spaced ts) ≡ (step_text (steps.Field (keyword_text w))) ++ spaced ts = refl in
    tidied
text_of (post_step-first {ts = ts}) = ap (λ l. (l ++ codes " ") ++ spaced ts) (decimal_digit 1 (omega arith))
text_of (post_step-second {ts = ts}) = ap (λ l. (l ++ codes " ") ++ spaced ts) (decimal_digit 2 (omega arith))
text_of (post_steps-dot {a = a} {b = b} {ts = ts} {us = us} {vs = vs} d0 d1) =
    let tidied : ((spelling (t.symbol m.Dot) ++ codes " ") ++ ((step_text a) ++ ((each_behind (codes ". ") (map step_text b)) ++ spaced vs))) ≡
    (each_behind (codes ". ") (map step_text (a ∷ b))) ++ spaced vs = simp append_assoc refl in
    ap (λ l. (spelling (t.symbol m.Dot) ++ codes " ") ++ l) (text_of d0 ∙ ap (λ l. (step_text a) ++ l) (text_of d1)) ∙ tidied
text_of (post_steps-none {ts = ts}) = refl
text_of (post-whole {a = a} {b = b} {ts = ts} {us = us} {vs = vs} d0 d1) =
    let tidied : ((atom_text a) ++ ((each_behind (codes ". ") (map step_text b)) ++ spaced vs)) ≡ (atom_text a ++ each_behind (codes ". ")
    (map step_text b)) ++ spaced vs = simp append_assoc refl in
    text_of d0 ∙ ap (λ l. (atom_text a) ++ l) (text_of d1) ∙ tidied ∙ ap (λ l. l ++ spaced vs) (sym (post_text-Post a b))
text_of (unary-minus {a = a} {ts = ts} {us = us} d0) =
    let tidied : ((spelling (t.symbol m.Minus) ++ codes " ") ++ ((unary_text a) ++ spaced us)) ≡ (codes "- " ++ unary_text a) ++ spaced us = refl in
    ap (λ l. (spelling (t.symbol m.Minus) ++ codes " ") ++ l) (text_of d0) ∙ tidied ∙ ap (λ l. l ++ spaced us) (sym (unary_text-Minus a))
text_of (unary-plain {a = a} {ts = ts} {us = us} d0) =
    let tidied : ((post_text a) ++ spaced us) ≡ (post_text a) ++ spaced us = refl in
    text_of d0 ∙ tidied ∙ ap (λ l. l ++ spaced us) (sym (unary_text-Plain a))
text_of (prod_rests-times {a = a} {b = b} {ts = ts} {us = us} {vs = vs} d0 d1) =
    let tidied : ((spelling (t.symbol m.Star) ++ codes " ") ++ ((unary_text a) ++ ((all_text (map prod_rest_text b)) ++ spaced vs))) ≡
    ((codes "* " ++ unary_text a) ++ all_text (map prod_rest_text b)) ++ spaced vs = simp append_assoc refl in
    ap (λ l. (spelling (t.symbol m.Star) ++ codes " ") ++ l) (text_of d0 ∙ ap (λ l. (unary_text a) ++ l) (text_of d1)) ∙ tidied ∙ ap
    (λ l. l ++ spaced vs) (sym (ap (λ l. l ++ all_text (map prod_rest_text b)) (prod_rest_text-Times a)))
text_of (prod_rests-over {a = a} {b = b} {ts = ts} {us = us} {vs = vs} d0 d1) =
    let tidied : ((spelling (t.symbol m.Slash) ++ codes " ") ++ ((number_text a) ++ ((all_text (map prod_rest_text b)) ++ spaced vs))) ≡
    ((codes "/ " ++ number_text a) ++ all_text (map prod_rest_text b)) ++ spaced vs = simp append_assoc refl in
    ap (λ l. (spelling (t.symbol m.Slash) ++ codes " ") ++ l) (text_of d0 ∙ ap (λ l. (number_text a) ++ l) (text_of d1)) ∙ tidied ∙ ap
    (λ l. l ++ spaced vs) (sym (ap (λ l. l ++ all_text (map prod_rest_text b)) (prod_rest_text-Over a)))
text_of (prod_rests-modulo {a = a} {b = b} {ts = ts} {us = us} {vs = vs} d0 d1) =
    let tidied : ((spelling (t.symbol m.Percent) ++ codes " ") ++ ((number_text a) ++ ((all_text (map prod_rest_text b)) ++ spaced vs))) ≡
    ((codes "% " ++ number_text a) ++ all_text (map prod_rest_text b)) ++ spaced vs = simp append_assoc refl in
    ap (λ l. (spelling (t.symbol m.Percent) ++ codes " ") ++ l) (text_of d0 ∙ ap (λ l. (number_text a) ++ l) (text_of d1)) ∙ tidied ∙ ap
    (λ l. l ++ spaced vs) (sym (ap (λ l. l ++ all_text (map prod_rest_text b)) (prod_rest_text-Modulo a)))
text_of (prod_rests-none {ts = ts}) = refl
text_of (prod-whole {a = a} {b = b} {ts = ts} {us = us} {vs = vs} d0 d1) =
    let tidied : ((unary_text a) ++ ((all_text (map prod_rest_text b)) ++ spaced vs)) ≡ (unary_text a ++ all_text
    (map prod_rest_text b)) ++ spaced vs = simp append_assoc refl in
    text_of d0 ∙ ap (λ l. (unary_text a) ++ l) (text_of d1) ∙ tidied ∙ ap (λ l. l ++ spaced vs) (sym (prod_text-Prod a b))
text_of (add_rests-plus {a = a} {b = b} {ts = ts} {us = us} {vs = vs} d0 d1) =
    let tidied : ((spelling (t.symbol m.Plus) ++ codes " ") ++ ((prod_text a) ++ ((all_text (map add_rest_text b)) ++ spaced vs))) ≡
    ((codes "+ " ++ prod_text a) ++ all_text (map add_rest_text b)) ++ spaced vs = simp append_assoc refl in
    ap (λ l. (spelling (t.symbol m.Plus) ++ codes " ") ++ l) (text_of d0 ∙ ap (λ l. (prod_text a) ++ l) (text_of d1)) ∙ tidied ∙ ap
    (λ l. l ++ spaced vs) (sym (ap (λ l. l ++ all_text (map add_rest_text b)) (add_rest_text-Plus a)))
text_of (add_rests-minus {a = a} {b = b} {ts = ts} {us = us} {vs = vs} d0 d1) =
    let tidied : ((spelling (t.symbol m.Minus) ++ codes " ") ++ ((prod_text a) ++ ((all_text (map add_rest_text b)) ++ spaced vs))) ≡
    ((codes "- " ++ prod_text a) ++ all_text (map add_rest_text b)) ++ spaced vs = simp append_assoc refl in
    ap (λ l. (spelling (t.symbol m.Minus) ++ codes " ") ++ l) (text_of d0 ∙ ap (λ l. (prod_text a) ++ l) (text_of d1)) ∙ tidied ∙ ap
    (λ l. l ++ spaced vs) (sym (ap (λ l. l ++ all_text (map add_rest_text b)) (add_rest_text-Minus a)))
text_of (add_rests-none {ts = ts}) = refl
text_of (add-whole {a = a} {b = b} {ts = ts} {us = us} {vs = vs} d0 d1) =
    let tidied : ((prod_text a) ++ ((all_text (map add_rest_text b)) ++ spaced vs)) ≡ (prod_text a ++ all_text
    (map add_rest_text b)) ++ spaced vs = simp append_assoc refl in
    text_of d0 ∙ ap (λ l. (prod_text a) ++ l) (text_of d1) ∙ tidied ∙ ap (λ l. l ++ spaced vs) (sym (add_text-Add a b))
text_of (comparison-equal {a = a} {ts = ts} {us = us} d0) =
    let tidied : ((spelling (t.symbol m.Equal) ++ codes " ") ++ ((add_text a) ++ spaced us)) ≡ (comparison_text (Some
    (operators.Equal, a))) ++ spaced us = refl in
    ap (λ l. (spelling (t.symbol m.Equal) ++ codes " ") ++ l) (text_of d0) ∙ tidied
text_of (comparison-unequal {a = a} {ts = ts} {us = us} d0) =
    let tidied : ((spelling (t.symbol m.Unequal) ++ codes " ") ++ ((add_text a) ++ spaced us)) ≡ (comparison_text (Some
    (operators.Unequal, a))) ++ spaced us = refl in
    ap (λ l. (spelling (t.symbol m.Unequal) ++ codes " ") ++ l) (text_of d0) ∙ tidied
text_of (comparison-less {a = a} {ts = ts} {us = us} d0) =
    let tidied : ((spelling (t.symbol m.Less) ++ codes " ") ++ ((add_text a) ++ spaced us)) ≡ (comparison_text (Some
    (operators.Less, a))) ++ spaced us = refl in
    ap (λ l. (spelling (t.symbol m.Less) ++ codes " ") ++ l) (text_of d0) ∙ tidied
text_of (comparison-at_most {a = a} {ts = ts} {us = us} d0) =
    let tidied : ((spelling (t.symbol m.AtMost) ++ codes " ") ++ ((add_text a) ++ spaced us)) ≡ (comparison_text (Some
    (operators.AtMost, a))) ++ spaced us = refl in
    ap (λ l. (spelling (t.symbol m.AtMost) ++ codes " ") ++ l) (text_of d0) ∙ tidied
text_of (comparison-greater {a = a} {ts = ts} {us = us} d0) =
    let tidied : ((spelling (t.symbol m.Greater) ++ codes " ") ++ ((add_text a) ++ spaced us)) ≡ (comparison_text (Some
    (operators.Greater, a))) ++ spaced us = refl in
    ap (λ l. (spelling (t.symbol m.Greater) ++ codes " ") ++ l) (text_of d0) ∙ tidied
text_of (comparison-at_least {a = a} {ts = ts} {us = us} d0) =
    let tidied : ((spelling (t.symbol m.AtLeast) ++ codes " ") ++ ((add_text a) ++ spaced us)) ≡ (comparison_text (Some
    (operators.AtLeast, a))) ++ spaced us = refl in
    ap (λ l. (spelling (t.symbol m.AtLeast) ++ codes " ") ++ l) (text_of d0) ∙ tidied
text_of (comparison-none {ts = ts}) = refl
text_of (cmp-whole {a = a} {b = b} {ts = ts} {us = us} {vs = vs} d0 d1) =
    let tidied : ((add_text a) ++ ((comparison_text b) ++ spaced vs)) ≡ (add_text a ++ comparison_text b) ++ spaced vs = simp append_assoc refl in
    text_of d0 ∙ ap (λ l. (add_text a) ++ l) (text_of d1) ∙ tidied ∙ ap (λ l. l ++ spaced vs) (sym (compared_text a b))
text_of (neg-not {a = a} {ts = ts} {us = us} d0) =
    let tidied : ((spelling (t.keyword k.Not) ++ codes " ") ++ ((neg_text a) ++ spaced us)) ≡ (codes "not " ++ neg_text a) ++ spaced us = refl in
    ap (λ l. (spelling (t.keyword k.Not) ++ codes " ") ++ l) (text_of d0) ∙ tidied ∙ ap (λ l. l ++ spaced us) (sym (neg_text-Not a))
text_of (neg-plain {a = a} {ts = ts} {us = us} d0) =
    let tidied : ((cmp_text a) ++ spaced us) ≡ (cmp_text a) ++ spaced us = refl in
    text_of d0 ∙ tidied ∙ ap (λ l. l ++ spaced us) (sym (neg_text-Plain a))
text_of (conj_rests-and {a = a} {b = b} {ts = ts} {us = us} {vs = vs} d0 d1) =
    let tidied : ((spelling (t.keyword k.And) ++ codes " ") ++ ((neg_text a) ++ ((each_behind (codes "and ") (map neg_text b)) ++ spaced vs))) ≡
    (each_behind (codes "and ") (map neg_text (a ∷ b))) ++ spaced vs = simp append_assoc refl in
    ap (λ l. (spelling (t.keyword k.And) ++ codes " ") ++ l) (text_of d0 ∙ ap (λ l. (neg_text a) ++ l) (text_of d1)) ∙ tidied
text_of (conj_rests-none {ts = ts}) = refl
text_of (conj-whole {a = a} {b = b} {ts = ts} {us = us} {vs = vs} d0 d1) =
    let tidied : ((neg_text a) ++ ((each_behind (codes "and ") (map neg_text b)) ++ spaced vs)) ≡ (neg_text a ++ each_behind (codes "and ")
    (map neg_text b)) ++ spaced vs = simp append_assoc refl in
    text_of d0 ∙ ap (λ l. (neg_text a) ++ l) (text_of d1) ∙ tidied ∙ ap (λ l. l ++ spaced vs) (sym (conj_text-Conj a b))
text_of (disj_rests-or {a = a} {b = b} {ts = ts} {us = us} {vs = vs} d0 d1) =
    let tidied : ((spelling (t.keyword k.Or) ++ codes " ") ++ ((conj_text a) ++ ((each_behind (codes "or ") (map conj_text b)) ++ spaced vs))) ≡
    (each_behind (codes "or ") (map conj_text (a ∷ b))) ++ spaced vs = simp append_assoc refl in
    ap (λ l. (spelling (t.keyword k.Or) ++ codes " ") ++ l) (text_of d0 ∙ ap (λ l. (conj_text a) ++ l) (text_of d1)) ∙ tidied
text_of (disj_rests-none {ts = ts}) = refl
text_of (disj-whole {a = a} {b = b} {ts = ts} {us = us} {vs = vs} d0 d1) =
    let tidied : ((conj_text a) ++ ((each_behind (codes "or ") (map conj_text b)) ++ spaced vs)) ≡ (conj_text a ++ each_behind (codes "or ")
    (map conj_text b)) ++ spaced vs = simp append_assoc refl in
    text_of d0 ∙ ap (λ l. (conj_text a) ++ l) (text_of d1) ∙ tidied ∙ ap (λ l. l ++ spaced vs) (sym (disj_text-Disj a b))
text_of (expr-if {a = a} {b = b} {c = c} {d = d} {g = g} {ts = ts} {us = us} {vs = vs} {ws = ws} {xs = xs} {ys = ys} d0 d1 d2 d3 d4) =
    let tidied : ((spelling (t.keyword k.If) ++ codes " ") ++ ((expr_text a) ++ ((codes "then ") ++ ((expr_text c) ++ ((codes "else ") ++
    ((expr_text g) ++ spaced ys)))))) ≡ (codes "if " ++ (expr_text a ++ (codes "then " ++ (expr_text c ++
    (codes "else " ++ expr_text g))))) ++ spaced ys = simp append_assoc refl in
    ap (λ l. (spelling (t.keyword k.If) ++ codes " ") ++ l) (text_of d0 ∙ ap (λ l. (expr_text a) ++ l) (text_of d1 ∙ ap (λ l. (codes "then ") ++ l)
    (text_of d2 ∙ ap (λ l. (expr_text c) ++ l) (text_of d3 ∙ ap (λ l. (codes "else ") ++ l) (text_of d4))))) ∙ tidied ∙ ap (λ l. l ++ spaced ys)
    (sym (expr_text-If a c g))
text_of (expr-plain {a = a} {ts = ts} {us = us} d0) =
    let tidied : ((disj_text a) ++ spaced us) ≡ (disj_text a) ++ spaced us = refl in
    text_of d0 ∙ tidied ∙ ap (λ l. l ++ spaced us) (sym (expr_text-Plain a))
text_of (stage-map {a = a} {ts = ts} {us = us} d0) =
    let tidied : ((spelling (t.keyword k.Map) ++ codes " ") ++ ((expr_text a) ++ spaced us)) ≡ (stage_text (staged.Map a)) ++ spaced us = refl in
    ap (λ l. (spelling (t.keyword k.Map) ++ codes " ") ++ l) (text_of d0) ∙ tidied
text_of (stage-filter {a = a} {ts = ts} {us = us} d0) =
    let tidied : ((spelling (t.keyword k.Filter) ++ codes " ") ++ ((expr_text a) ++ spaced us)) ≡ (stage_text
    (staged.Filter a)) ++ spaced us = refl in
    ap (λ l. (spelling (t.keyword k.Filter) ++ codes " ") ++ l) (text_of d0) ∙ tidied
text_of (stage-flat_map {a = a} {ts = ts} {us = us} d0) =
    let tidied : ((spelling (t.keyword k.FlatMap) ++ codes " ") ++ ((expr_text a) ++ spaced us)) ≡ (stage_text
    (staged.FlatMap a)) ++ spaced us = refl in
    ap (λ l. (spelling (t.keyword k.FlatMap) ++ codes " ") ++ l) (text_of d0) ∙ tidied
text_of (stage-join {a = a} {ts = ts} {us = us} d0) =
    let tidied : ((spelling (t.keyword k.LeftJoin) ++ codes " ") ++ ((word_text a) ++ spaced us)) ≡ (stage_text
    (staged.LeftJoin a)) ++ spaced us = refl in
    ap (λ l. (spelling (t.keyword k.LeftJoin) ++ codes " ") ++ l) (text_of d0) ∙ tidied
text_of (stages-bar {a = a} {b = b} {ts = ts} {us = us} {vs = vs} d0 d1) =
    let tidied : ((spelling (t.symbol m.Bar) ++ codes " ") ++ ((stage_text a) ++ ((each_behind (codes "| ") (map stage_text b)) ++ spaced vs))) ≡
    (each_behind (codes "| ") (map stage_text (a ∷ b))) ++ spaced vs = simp append_assoc refl in
    ap (λ l. (spelling (t.symbol m.Bar) ++ codes " ") ++ l) (text_of d0 ∙ ap (λ l. (stage_text a) ++ l) (text_of d1)) ∙ tidied
text_of (stages-none {ts = ts}) = refl
text_of (head-name {n = n} {ts = ts}) =
    let tidied : ((spelling (t.name n) ++ codes " ") ++ spaced ts) ≡ (word_text n) ++ spaced ts = refl in
    tidied ∙ ap (λ l. l ++ spaced ts) (sym (head_text-Name n))
text_of (head-merge {a = a} {b = b} {c = c} {d = d} {g = g} {ts = ts} {us = us} {vs = vs} {ws = ws} {xs = xs} {ys = ys} d0 d1 d2 d3 d4) =
    let tidied : ((spelling (t.keyword k.Merge) ++ codes " ") ++ ((codes "( ") ++ ((stream_text b) ++ ((codes ", ") ++ ((stream_text d) ++
    ((codes ") ") ++ spaced ys)))))) ≡ (codes "merge ( " ++ (stream_text b ++ (codes ", " ++
    (stream_text d ++ codes ") ")))) ++ spaced ys = simp append_assoc refl in
    ap (λ l. (spelling (t.keyword k.Merge) ++ codes " ") ++ l) (text_of d0 ∙ ap (λ l. (codes "( ") ++ l) (text_of d1 ∙ ap (λ l.
    (stream_text b) ++ l) (text_of d2 ∙ ap (λ l. (codes ", ") ++ l) (text_of d3 ∙ ap (λ l. (stream_text d) ++ l) (text_of d4))))) ∙ tidied ∙ ap
    (λ l. l ++ spaced ys) (sym (head_text-Merge b d))
text_of (stream-whole {a = a} {b = b} {ts = ts} {us = us} {vs = vs} d0 d1) =
    let tidied : ((head_text a) ++ ((each_behind (codes "| ") (map stage_text b)) ++ spaced vs)) ≡ (head_text a ++ each_behind (codes "| ")
    (map stage_text b)) ++ spaced vs = simp append_assoc refl in
    text_of d0 ∙ ap (λ l. (head_text a) ++ l) (text_of d1) ∙ tidied ∙ ap (λ l. l ++ spaced vs) (sym (stream_text-Stream a b))
text_of (store_stages-whole {a = a} {ts = ts} {us = us} d0) = ap (λ l. (spelling (t.symbol m.Bar) ++ codes " ") ++ l) (text_of d0)
    ∙ store_bar a.0 a.1 (spaced us)
text_of (store_stage-map {a = a} {b = b} {ts = ts} {us = us} {vs = vs} d0 d1) =
    let tidied : ((spelling (t.keyword k.Map) ++ codes " ") ++ ((expr_text a) ++ ((each_behind (codes "| ") (map stage_text b.0) ++
    (codes "| sumByKey " ++ mono_text b.1)) ++ spaced vs))) ≡ (store_stage_text (staged.Map a ∷ b.0) b.1) ++ spaced vs = simp append_assoc refl in
    ap (λ l. (spelling (t.keyword k.Map) ++ codes " ") ++ l) (text_of d0 ∙ ap (λ l. (expr_text a) ++ l) (text_of d1)) ∙ tidied
text_of (store_stage-filter {a = a} {b = b} {ts = ts} {us = us} {vs = vs} d0 d1) =
    let tidied : ((spelling (t.keyword k.Filter) ++ codes " ") ++ ((expr_text a) ++ ((each_behind (codes "| ") (map stage_text b.0) ++
    (codes "| sumByKey " ++ mono_text b.1)) ++ spaced vs))) ≡ (store_stage_text
    (staged.Filter a ∷ b.0) b.1) ++ spaced vs = simp append_assoc refl in
    ap (λ l. (spelling (t.keyword k.Filter) ++ codes " ") ++ l) (text_of d0 ∙ ap (λ l. (expr_text a) ++ l) (text_of d1)) ∙ tidied
text_of (store_stage-flat_map {a = a} {b = b} {ts = ts} {us = us} {vs = vs} d0 d1) =
    let tidied : ((spelling (t.keyword k.FlatMap) ++ codes " ") ++ ((expr_text a) ++ ((each_behind (codes "| ") (map stage_text b.0) ++
    (codes "| sumByKey " ++ mono_text b.1)) ++ spaced vs))) ≡ (store_stage_text
    (staged.FlatMap a ∷ b.0) b.1) ++ spaced vs = simp append_assoc refl in
    ap (λ l. (spelling (t.keyword k.FlatMap) ++ codes " ") ++ l) (text_of d0 ∙ ap (λ l. (expr_text a) ++ l) (text_of d1)) ∙ tidied
text_of (store_stage-join {a = a} {b = b} {ts = ts} {us = us} {vs = vs} d0 d1) =
    let tidied : ((spelling (t.keyword k.LeftJoin) ++ codes " ") ++ ((word_text a) ++ ((each_behind (codes "| ") (map stage_text b.0) ++
    (codes "| sumByKey " ++ mono_text b.1)) ++ spaced vs))) ≡ (store_stage_text
    (staged.LeftJoin a ∷ b.0) b.1) ++ spaced vs = simp append_assoc refl in
    ap (λ l. (spelling (t.keyword k.LeftJoin) ++ codes " ") ++ l) (text_of d0 ∙ ap (λ l. (word_text a) ++ l) (text_of d1)) ∙ tidied
text_of (store_stage-sum {a = a} {ts = ts} {us = us} d0) =
    let tidied : ((spelling (t.keyword k.SumByKey) ++ codes " ") ++ ((mono_text a) ++ spaced us)) ≡ (store_stage_text [] a) ++ spaced us = refl in
    ap (λ l. (spelling (t.keyword k.SumByKey) ++ codes " ") ++ l) (text_of d0) ∙ tidied
text_of (statement-source {a = a} {b = b} {c = c} {ts = ts} {us = us} {vs = vs} {ws = ws} d0 d1 d2) =
    let tidied : ((spelling (t.keyword k.Source) ++ codes " ") ++ ((word_text a) ++ ((codes "( ") ++ ((listed
    (map field_text c) ++ codes ") ") ++ spaced ws)))) ≡ (statement_text (statements.Source a c)) ++ spaced ws = simp append_assoc refl in
    ap (λ l. (spelling (t.keyword k.Source) ++ codes " ") ++ l) (text_of d0 ∙ ap (λ l. (word_text a) ++ l) (text_of d1 ∙ ap (λ l. (codes "( ") ++ l)
    (text_of d2))) ∙ tidied
text_of (statement-service {a = a} {b = b} {c = c} {d = d} {g = g} {h = h} {ts = ts} {us = us} {vs = vs} {ws = ws} {xs = xs} {ys = ys} {zs = zs} d0 d1 d2 d3 d4 d5) =
    let tidied : ((spelling (t.keyword k.Service) ++ codes " ") ++ ((word_text a) ++ ((codes "( ") ++ ((scalar_text c) ++ ((codes "-> ") ++
    ((scalar_text g) ++ ((codes ") ") ++ spaced zs))))))) ≡ (statement_text (statements.Service a c g)) ++ spaced zs = simp append_assoc refl in
    ap (λ l. (spelling (t.keyword k.Service) ++ codes " ") ++ l) (text_of d0 ∙ ap (λ l. (word_text a) ++ l) (text_of d1 ∙ ap (λ l.
    (codes "( ") ++ l) (text_of d2 ∙ ap (λ l. (scalar_text c) ++ l) (text_of d3 ∙ ap (λ l. (codes "-> ") ++ l) (text_of d4 ∙ ap (λ l.
    (scalar_text g) ++ l) (text_of d5)))))) ∙ tidied
text_of (statement-let {a = a} {b = b} {c = c} {ts = ts} {us = us} {vs = vs} {ws = ws} d0 d1 d2) =
    let tidied : ((spelling (t.keyword k.Let) ++ codes " ") ++ ((word_text a) ++ ((codes "= ") ++ ((stream_text c) ++ spaced ws)))) ≡
    (statement_text (statements.Let a c)) ++ spaced ws = simp append_assoc refl in
    ap (λ l. (spelling (t.keyword k.Let) ++ codes " ") ++ l) (text_of d0 ∙ ap (λ l. (word_text a) ++ l) (text_of d1 ∙ ap (λ l. (codes "= ") ++ l)
    (text_of d2))) ∙ tidied
text_of (statement-store {a = a} {b = b} {c = c} {d = d} {ts = ts} {us = us} {vs = vs} {ws = ws} {xs = xs} d0 d1 d2 d3) =
    let tidied : ((spelling (t.keyword k.Store) ++ codes " ") ++ ((word_text a) ++ ((codes "= ") ++ ((head_text c) ++ ((each_behind (codes "| ")
    (map stage_text d.0) ++ (codes "| sumByKey " ++ mono_text d.1)) ++ spaced xs))))) ≡ (codes "store " ++ (word_text a ++ (codes "= " ++
    ((head_text c ++ each_behind (codes "| ") (map stage_text d.0)) ++
    (codes "| sumByKey " ++ mono_text d.1))))) ++ spaced xs = simp append_assoc refl in
    ap (λ l. (spelling (t.keyword k.Store) ++ codes " ") ++ l) (text_of d0 ∙ ap (λ l. (word_text a) ++ l) (text_of d1 ∙ ap (λ l. (codes "= ") ++ l)
    (text_of d2 ∙ ap (λ l. (head_text c) ++ l) (text_of d3)))) ∙ tidied ∙ ap (λ l. l ++ spaced xs) (sym (ap (λ l. codes "store " ++
    (word_text a ++ (codes "= " ++ (l ++ (codes "| sumByKey " ++ mono_text d.1))))) (stream_text-Stream c d.0)))
