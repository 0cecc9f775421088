-- What a rule gives can stand in front of anything.
use Rattle.std.proofs.Common.{◌≡◌, zero, suc, List, [], ◌∷◌, ◌++◌, refl, ap, sym, ◌∙◌}
use Rattle.std.proofs.Common.{append_assoc}
use Rattle.sb_tokens.specs.declared.keyword.Keyword.TheVariants as k
use Rattle.sb_tokens.specs.declared.symbol.Symbol.TheVariants as m
use Rattle.sb_tokens.specs.Token.{Token}
use Rattle.sb_tokens.specs.Token as t
use Rattle.sb_grammar.specs.Grammar.{Rule, Tree, Derives}
use Rattle.sb_grammar.specs.Grammar.{from_word-it, then_word-it, else_word-it, open_paren-it, close_paren-it, comma-it, colon-it, arrow-it, assign-it}
use Rattle.sb_grammar.specs.Grammar.{number-it, positive-it, a_name-it, scalar-int, scalar-text, scalar-bool, batch-whole, start-minus, start-number}
use Rattle.sb_grammar.specs.Grammar.{field-name, field-keyword, fields-none, fields-some, more_fields-none, more_fields-some, mono-sum, mono-min}
use Rattle.sb_grammar.specs.Grammar.{mono-max, mono-first, mono-last, mono-concat, mono-set, mono-top, mono-cms, mono-hll, mono-pair, mono-map}
use Rattle.sb_grammar.specs.Grammar.{a_type-pair, a_type-opt, a_type-list, a_type-scalar, atom-int, atom-text, atom-true, atom-false, atom-it}
use Rattle.sb_grammar.specs.Grammar.{atom-group, atom-list, atom-empty, atom-none, atom-some, atom-orelse, atom-has, atom-lower, atom-words, atom-len}
use Rattle.sb_grammar.specs.Grammar.{atom-starts, group_end-close, group_end-second, list_end-close, list_end-more, post_step-name, post_step-keyword}
use Rattle.sb_grammar.specs.Grammar.{post_step-first, post_step-second, post_steps-dot, post_steps-none, post-whole, unary-minus, unary-plain}
use Rattle.sb_grammar.specs.Grammar.{prod_rests-times, prod_rests-over, prod_rests-modulo, prod_rests-none, prod-whole, add_rests-plus}
use Rattle.sb_grammar.specs.Grammar.{add_rests-minus, add_rests-none, add-whole, comparison-equal, comparison-unequal, comparison-less}
use Rattle.sb_grammar.specs.Grammar.{comparison-at_most, comparison-greater, comparison-at_least, comparison-none, cmp-whole, neg-not, neg-plain}
use Rattle.sb_grammar.specs.Grammar.{conj_rests-and, conj_rests-none, conj-whole, disj_rests-or, disj_rests-none, disj-whole, expr-if, expr-plain}
use Rattle.sb_grammar.specs.Grammar.{stage-map, stage-filter, stage-flat_map, stage-join, stages-bar, stages-none, head-name, head-merge}
use Rattle.sb_grammar.specs.Grammar.{stream-whole, store_stages-whole, store_stage-map, store_stage-filter, store_stage-flat_map, store_stage-join}
use Rattle.sb_grammar.specs.Grammar.{store_stage-sum, statement-source, statement-service, statement-let, statement-store}

-- puts a list of tokens in front
pub record PutsInFront (front : List Token → List Token) : Type 0 where
  pub puts : (ts : List Token) → front ts ≡ front [] ++ ts

puts_none : PutsInFront (λ ts. ts)
puts_none = record { puts = λ ts. refl }

puts_token : (x : Token) (f : List Token → List Token) → PutsInFront f → PutsInFront (λ ts. x ∷ f ts)
puts_token x f p = record { puts = λ ts. ap (λ l. x ∷ l) (p.puts ts) }

puts_both : (f g : List Token → List Token) → PutsInFront f → PutsInFront g → PutsInFront (λ ts. f (g ts))
puts_both f g p q = record {
  puts = λ ts. p.puts (g ts) ∙ ap (λ l. f [] ++ l) (q.puts ts) ∙ sym (append_assoc (f []) (g []) ts) ∙ ap (λ l. l ++ ts)
      (sym (p.puts (g [])));
}

-- the tokens of a tree of a rule, in front of anything
pub record Frame (r : Rule) (a : Tree r) (ts us : List Token) : Type 0 where
  pub front : List Token → List Token
  pub is : ts ≡ front us
  pub puts : PutsInFront front
  pub derived : (vs : List Token) → Derives r a (front vs) vs

pub frame : {r : Rule} {a : Tree r} {ts us : List Token} → Derives r a ts us → Frame r a ts us
frame (from_word-it) = record {
  front = λ ts. t.keyword k.From ∷ ts;
  is = refl;
  puts = puts_token (t.keyword k.From) (λ ts. ts)
      (puts_none);
  derived = λ vs. from_word-it;
}
frame (then_word-it) = record {
  front = λ ts. t.keyword k.Then ∷ ts;
  is = refl;
  puts = puts_token (t.keyword k.Then) (λ ts. ts)
      (puts_none);
  derived = λ vs. then_word-it;
}
frame (else_word-it) = record {
  front = λ ts. t.keyword k.Else ∷ ts;
  is = refl;
  puts = puts_token (t.keyword k.Else) (λ ts. ts)
      (puts_none);
  derived = λ vs. else_word-it;
}
frame (open_paren-it) = record {
  front = λ ts. t.symbol m.OpenParen ∷ ts;
  is = refl;
  puts = puts_token (t.symbol m.OpenParen) (λ ts. ts)
      (puts_none);
  derived = λ vs. open_paren-it;
}
frame (close_paren-it) = record {
  front = λ ts. t.symbol m.CloseParen ∷ ts;
  is = refl;
  puts = puts_token (t.symbol m.CloseParen) (λ ts. ts)
      (puts_none);
  derived = λ vs. close_paren-it;
}
frame (comma-it) = record {
  front = λ ts. t.symbol m.Comma ∷ ts;
  is = refl;
  puts = puts_token (t.symbol m.Comma) (λ ts. ts)
      (puts_none);
  derived = λ vs. comma-it;
}
frame (colon-it) = record {
  front = λ ts. t.symbol m.Colon ∷ ts;
  is = refl;
  puts = puts_token (t.symbol m.Colon) (λ ts. ts)
      (puts_none);
  derived = λ vs. colon-it;
}
frame (arrow-it) = record {
  front = λ ts. t.symbol m.Arrow ∷ ts;
  is = refl;
  puts = puts_token (t.symbol m.Arrow) (λ ts. ts)
      (puts_none);
  derived = λ vs. arrow-it;
}
frame (assign-it) = record {
  front = λ ts. t.symbol m.Assign ∷ ts;
  is = refl;
  puts = puts_token (t.symbol m.Assign) (λ ts. ts)
      (puts_none);
  derived = λ vs. assign-it;
}
frame (number-it {n = n}) = record {
  front = λ ts. t.int n ∷ ts;
  is = refl;
  puts = puts_token (t.int n) (λ ts. ts)
      (puts_none);
  derived = λ vs. number-it {n = n};
}
frame (positive-it {n = n}) = record {
  front = λ ts. t.int (suc n) ∷ ts;
  is = refl;
  puts = puts_token (t.int (suc n)) (λ ts. ts)
      (puts_none);
  derived = λ vs. positive-it {n = n};
}
frame (a_name-it {n = n}) = record {
  front = λ ts. t.name n ∷ ts;
  is = refl;
  puts = puts_token (t.name n) (λ ts. ts)
      (puts_none);
  derived = λ vs. a_name-it {n = n};
}
frame (scalar-int) = record {
  front = λ ts. t.keyword k.Int ∷ ts;
  is = refl;
  puts = puts_token (t.keyword k.Int) (λ ts. ts)
      (puts_none);
  derived = λ vs. scalar-int;
}
frame (scalar-text) = record {
  front = λ ts. t.keyword k.Text ∷ ts;
  is = refl;
  puts = puts_token (t.keyword k.Text) (λ ts. ts)
      (puts_none);
  derived = λ vs. scalar-text;
}
frame (scalar-bool) = record {
  front = λ ts. t.keyword k.Bool ∷ ts;
  is = refl;
  puts = puts_token (t.keyword k.Bool) (λ ts. ts)
      (puts_none);
  derived = λ vs. scalar-bool;
}
frame (batch-whole d0 d1 d2) = let f0 = frame d0 in let f1 = frame d1 in let f2 = frame d2 in record {
  front = λ ts. t.keyword k.Batch ∷ f0.front
      (f1.front (f2.front ts));
  is = ap (λ l. t.keyword k.Batch ∷ l) (f0.is ∙ ap f0.front (f1.is ∙ ap f1.front (f2.is)));
  puts = puts_token
      (t.keyword k.Batch) (λ ts. f0.front (f1.front (f2.front ts))) (puts_both f0.front (λ ts. f1.front (f2.front ts)) f0.puts (puts_both f1.front
      (f2.front) f1.puts (f2.puts)));
  derived = λ vs. batch-whole (f0.derived (f1.front (f2.front vs))) (f1.derived (f2.front vs)) (f2.derived vs);
}
frame (start-minus d0) = let f0 = frame d0 in record {
  front = λ ts. t.symbol m.Minus ∷ f0.front ts;
  is = ap (λ l. t.symbol m.Minus ∷ l)
      (f0.is);
  puts = puts_token (t.symbol m.Minus) (f0.front) (f0.puts);
  derived = λ vs. start-minus (f0.derived vs);
}
frame (start-number {n = n}) = record {
  front = λ ts. t.int n ∷ ts;
  is = refl;
  puts = puts_token (t.int n) (λ ts. ts)
      (puts_none);
  derived = λ vs. start-number {n = n};
}
frame (field-name {n = n} d0 d1) = let f0 = frame d0 in let f1 = frame d1 in record {
  front = λ ts. t.name n ∷ f0.front (f1.front ts);
  is = ap
      (λ l. t.name n ∷ l) (f0.is ∙ ap f0.front (f1.is));
  puts = puts_token (t.name n) (λ ts. f0.front (f1.front ts)) (puts_both f0.front
      (f1.front) f0.puts (f1.puts));
  derived = λ vs. field-name {n = n} (f0.derived (f1.front vs)) (f1.derived vs);
}
frame (field-keyword {w = w} d0 d1) = let f0 = frame d0 in let f1 = frame d1 in record {
  front = λ ts. t.keyword w ∷ f0.front (f1.front ts);
  is = ap
      (λ l. t.keyword w ∷ l) (f0.is ∙ ap f0.front (f1.is));
  puts = puts_token (t.keyword w) (λ ts. f0.front (f1.front ts)) (puts_both f0.front
      (f1.front) f0.puts (f1.puts));
  derived = λ vs. field-keyword {w = w} (f0.derived (f1.front vs)) (f1.derived vs);
}
frame (fields-none) = record {
  front = λ ts. t.symbol m.CloseParen ∷ ts;
  is = refl;
  puts = puts_token (t.symbol m.CloseParen) (λ ts. ts)
      (puts_none);
  derived = λ vs. fields-none;
}
frame (fields-some d0 d1) = let f0 = frame d0 in let f1 = frame d1 in record {
  front = λ ts. f0.front (f1.front ts);
  is = f0.is ∙ ap f0.front
      (f1.is);
  puts = puts_both f0.front (f1.front) f0.puts (f1.puts);
  derived = λ vs. fields-some (f0.derived (f1.front vs)) (f1.derived vs);
}
frame (more_fields-none) = record {
  front = λ ts. t.symbol m.CloseParen ∷ ts;
  is = refl;
  puts = puts_token (t.symbol m.CloseParen) (λ ts. ts)
      (puts_none);
  derived = λ vs. more_fields-none;
}
frame (more_fields-some d0 d1) = let f0 = frame d0 in let f1 = frame d1 in record {
  front = λ ts. t.symbol m.Comma ∷ f0.front (f1.front ts);
  is = ap
      (λ l. t.symbol m.Comma ∷ l) (f0.is ∙ ap f0.front (f1.is));
  puts = puts_token (t.symbol m.Comma) (λ ts. f0.front (f1.front ts))
      (puts_both f0.front (f1.front) f0.puts (f1.puts));
  derived = λ vs. more_fields-some (f0.derived (f1.front vs)) (f1.derived vs);
}
frame (mono-sum) = record {
  front = λ ts. t.keyword k.Sum ∷ ts;
  is = refl;
  puts = puts_token (t.keyword k.Sum) (λ ts. ts)
      (puts_none);
  derived = λ vs. mono-sum;
}
frame (mono-min) = record {
  front = λ ts. t.keyword k.Min ∷ ts;
  is = refl;
  puts = puts_token (t.keyword k.Min) (λ ts. ts)
      (puts_none);
  derived = λ vs. mono-min;
}
frame (mono-max) = record {
  front = λ ts. t.keyword k.Max ∷ ts;
  is = refl;
  puts = puts_token (t.keyword k.Max) (λ ts. ts)
      (puts_none);
  derived = λ vs. mono-max;
}
frame (mono-first) = record {
  front = λ ts. t.keyword k.First ∷ ts;
  is = refl;
  puts = puts_token (t.keyword k.First) (λ ts. ts)
      (puts_none);
  derived = λ vs. mono-first;
}
frame (mono-last) = record {
  front = λ ts. t.keyword k.Last ∷ ts;
  is = refl;
  puts = puts_token (t.keyword k.Last) (λ ts. ts)
      (puts_none);
  derived = λ vs. mono-last;
}
frame (mono-concat) = record {
  front = λ ts. t.keyword k.Concat ∷ ts;
  is = refl;
  puts = puts_token (t.keyword k.Concat) (λ ts. ts)
      (puts_none);
  derived = λ vs. mono-concat;
}
frame (mono-set) = record {
  front = λ ts. t.keyword k.Set ∷ ts;
  is = refl;
  puts = puts_token (t.keyword k.Set) (λ ts. ts)
      (puts_none);
  derived = λ vs. mono-set;
}
frame (mono-top d0 d1 d2) = let f0 = frame d0 in let f1 = frame d1 in let f2 = frame d2 in record {
  front = λ ts. t.keyword k.Top ∷ f0.front
      (f1.front (f2.front ts));
  is = ap (λ l. t.keyword k.Top ∷ l) (f0.is ∙ ap f0.front (f1.is ∙ ap f1.front (f2.is)));
  puts = puts_token
      (t.keyword k.Top) (λ ts. f0.front (f1.front (f2.front ts))) (puts_both f0.front (λ ts. f1.front (f2.front ts)) f0.puts (puts_both f1.front
      (f2.front) f1.puts (f2.puts)));
  derived = λ vs. mono-top (f0.derived (f1.front (f2.front vs))) (f1.derived (f2.front vs)) (f2.derived vs);
}
frame (mono-cms d0 d1 d2 d3 d4) = let f0 = frame d0 in let f1 = frame d1 in let f2 = frame d2 in let f3 = frame d3 in let f4 = frame d4 in record {
  front = λ ts. t.keyword k.Cms ∷ f0.front
      (f1.front (f2.front (f3.front (f4.front ts))));
  is = ap (λ l. t.keyword k.Cms ∷ l) (f0.is ∙ ap f0.front (f1.is ∙ ap f1.front (f2.is
      ∙ ap f2.front (f3.is ∙ ap f3.front (f4.is)))));
  puts = puts_token (t.keyword k.Cms) (λ ts. f0.front (f1.front (f2.front (f3.front
      (f4.front ts))))) (puts_both f0.front (λ ts. f1.front (f2.front (f3.front (f4.front ts)))) f0.puts (puts_both f1.front (λ ts. f2.front (f3.front
      (f4.front ts))) f1.puts (puts_both f2.front (λ ts. f3.front (f4.front ts)) f2.puts (puts_both f3.front (f4.front) f3.puts
      (f4.puts)))));
  derived = λ vs. mono-cms (f0.derived (f1.front (f2.front (f3.front (f4.front vs))))) (f1.derived (f2.front (f3.front
      (f4.front vs)))) (f2.derived (f3.front (f4.front vs))) (f3.derived (f4.front vs)) (f4.derived vs);
}
frame (mono-hll d0 d1 d2) = let f0 = frame d0 in let f1 = frame d1 in let f2 = frame d2 in record {
  front = λ ts. t.keyword k.Hll ∷ f0.front
      (f1.front (f2.front ts));
  is = ap (λ l. t.keyword k.Hll ∷ l) (f0.is ∙ ap f0.front (f1.is ∙ ap f1.front (f2.is)));
  puts = puts_token
      (t.keyword k.Hll) (λ ts. f0.front (f1.front (f2.front ts))) (puts_both f0.front (λ ts. f1.front (f2.front ts)) f0.puts (puts_both f1.front
      (f2.front) f1.puts (f2.puts)));
  derived = λ vs. mono-hll (f0.derived (f1.front (f2.front vs))) (f1.derived (f2.front vs)) (f2.derived vs);
}
frame (mono-pair d0 d1 d2 d3 d4) = let f0 = frame d0 in let f1 = frame d1 in let f2 = frame d2 in let f3 = frame d3 in let f4 = frame d4 in record {
  front = λ ts. t.keyword k.Pair ∷ f0.front
      (f1.front (f2.front (f3.front (f4.front ts))));
  is = ap (λ l. t.keyword k.Pair ∷ l) (f0.is ∙ ap f0.front (f1.is ∙ ap f1.front (f2.is
      ∙ ap f2.front (f3.is ∙ ap f3.front (f4.is)))));
  puts = puts_token (t.keyword k.Pair) (λ ts. f0.front (f1.front (f2.front (f3.front
      (f4.front ts))))) (puts_both f0.front (λ ts. f1.front (f2.front (f3.front (f4.front ts)))) f0.puts (puts_both f1.front (λ ts. f2.front (f3.front
      (f4.front ts))) f1.puts (puts_both f2.front (λ ts. f3.front (f4.front ts)) f2.puts (puts_both f3.front (f4.front) f3.puts
      (f4.puts)))));
  derived = λ vs. mono-pair (f0.derived (f1.front (f2.front (f3.front (f4.front vs))))) (f1.derived (f2.front (f3.front
      (f4.front vs)))) (f2.derived (f3.front (f4.front vs))) (f3.derived (f4.front vs)) (f4.derived vs);
}
frame (mono-map d0 d1 d2) = let f0 = frame d0 in let f1 = frame d1 in let f2 = frame d2 in record {
  front = λ ts. t.keyword k.Map ∷ f0.front
      (f1.front (f2.front ts));
  is = ap (λ l. t.keyword k.Map ∷ l) (f0.is ∙ ap f0.front (f1.is ∙ ap f1.front (f2.is)));
  puts = puts_token
      (t.keyword k.Map) (λ ts. f0.front (f1.front (f2.front ts))) (puts_both f0.front (λ ts. f1.front (f2.front ts)) f0.puts (puts_both f1.front
      (f2.front) f1.puts (f2.puts)));
  derived = λ vs. mono-map (f0.derived (f1.front (f2.front vs))) (f1.derived (f2.front vs)) (f2.derived vs);
}
frame (a_type-pair d0 d1 d2 d3 d4) = let f0 = frame d0 in let f1 = frame d1 in let f2 = frame d2 in let f3 = frame d3 in let f4 = frame d4 in record {
  front = λ ts. t.keyword k.Pair ∷ f0.front
      (f1.front (f2.front (f3.front (f4.front ts))));
  is = ap (λ l. t.keyword k.Pair ∷ l) (f0.is ∙ ap f0.front (f1.is ∙ ap f1.front (f2.is
      ∙ ap f2.front (f3.is ∙ ap f3.front (f4.is)))));
  puts = puts_token (t.keyword k.Pair) (λ ts. f0.front (f1.front (f2.front (f3.front
      (f4.front ts))))) (puts_both f0.front (λ ts. f1.front (f2.front (f3.front (f4.front ts)))) f0.puts (puts_both f1.front (λ ts. f2.front (f3.front
      (f4.front ts))) f1.puts (puts_both f2.front (λ ts. f3.front (f4.front ts)) f2.puts (puts_both f3.front (f4.front) f3.puts
      (f4.puts)))));
  derived = λ vs. a_type-pair (f0.derived (f1.front (f2.front (f3.front (f4.front vs))))) (f1.derived (f2.front (f3.front
      (f4.front vs)))) (f2.derived (f3.front (f4.front vs))) (f3.derived (f4.front vs)) (f4.derived vs);
}
frame (a_type-opt d0 d1 d2) = let f0 = frame d0 in let f1 = frame d1 in let f2 = frame d2 in record {
  front = λ ts. t.keyword k.Opt ∷ f0.front
      (f1.front (f2.front ts));
  is = ap (λ l. t.keyword k.Opt ∷ l) (f0.is ∙ ap f0.front (f1.is ∙ ap f1.front (f2.is)));
  puts = puts_token
      (t.keyword k.Opt) (λ ts. f0.front (f1.front (f2.front ts))) (puts_both f0.front (λ ts. f1.front (f2.front ts)) f0.puts (puts_both f1.front
      (f2.front) f1.puts (f2.puts)));
  derived = λ vs. a_type-opt (f0.derived (f1.front (f2.front vs))) (f1.derived (f2.front vs)) (f2.derived vs);
}
frame (a_type-list d0 d1 d2 d3 d4) = let f0 = frame d0 in let f1 = frame d1 in let f2 = frame d2 in let f3 = frame d3 in let f4 = frame d4 in record {
  front = λ ts. t.keyword k.List ∷ f0.front
      (f1.front (f2.front (f3.front (f4.front ts))));
  is = ap (λ l. t.keyword k.List ∷ l) (f0.is ∙ ap f0.front (f1.is ∙ ap f1.front (f2.is
      ∙ ap f2.front (f3.is ∙ ap f3.front (f4.is)))));
  puts = puts_token (t.keyword k.List) (λ ts. f0.front (f1.front (f2.front (f3.front
      (f4.front ts))))) (puts_both f0.front (λ ts. f1.front (f2.front (f3.front (f4.front ts)))) f0.puts (puts_both f1.front (λ ts. f2.front (f3.front
      (f4.front ts))) f1.puts (puts_both f2.front (λ ts. f3.front (f4.front ts)) f2.puts (puts_both f3.front (f4.front) f3.puts
      (f4.puts)))));
  derived = λ vs. a_type-list (f0.derived (f1.front (f2.front (f3.front (f4.front vs))))) (f1.derived (f2.front (f3.front
      (f4.front vs)))) (f2.derived (f3.front (f4.front vs))) (f3.derived (f4.front vs)) (f4.derived vs);
}
frame (a_type-scalar d0) = let f0 = frame d0 in record {
  front = λ ts. f0.front ts;
  is = f0.is;
  puts = f0.puts;
  derived = λ vs. a_type-scalar
      (f0.derived vs);
}
frame (atom-int {n = n}) = record {
  front = λ ts. t.int n ∷ ts;
  is = refl;
  puts = puts_token (t.int n) (λ ts. ts)
      (puts_none);
  derived = λ vs. atom-int {n = n};
}
frame (atom-text {value = value}) = record {
  front = λ ts. t.text value ∷ ts;
  is = refl;
  puts = puts_token (t.text value) (λ ts. ts)
      (puts_none);
  derived = λ vs. atom-text {value = value};
}
frame (atom-true) = record {
  front = λ ts. t.keyword k.True ∷ ts;
  is = refl;
  puts = puts_token (t.keyword k.True) (λ ts. ts)
      (puts_none);
  derived = λ vs. atom-true;
}
frame (atom-false) = record {
  front = λ ts. t.keyword k.False ∷ ts;
  is = refl;
  puts = puts_token (t.keyword k.False) (λ ts. ts)
      (puts_none);
  derived = λ vs. atom-false;
}
frame (atom-it) = record {
  front = λ ts. t.keyword k.It ∷ ts;
  is = refl;
  puts = puts_token (t.keyword k.It) (λ ts. ts)
      (puts_none);
  derived = λ vs. atom-it;
}
frame (atom-group d0 d1) = let f0 = frame d0 in let f1 = frame d1 in record {
  front = λ ts. t.symbol m.OpenParen ∷ f0.front (f1.front ts);
  is = ap
      (λ l. t.symbol m.OpenParen ∷ l) (f0.is ∙ ap f0.front (f1.is));
  puts = puts_token (t.symbol m.OpenParen) (λ ts. f0.front (f1.front ts))
      (puts_both f0.front (f1.front) f0.puts (f1.puts));
  derived = λ vs. atom-group (f0.derived (f1.front vs)) (f1.derived vs);
}
frame (atom-list d0 d1) = let f0 = frame d0 in let f1 = frame d1 in record {
  front = λ ts. t.symbol m.OpenBracket ∷ f0.front (f1.front ts);
  is = ap
      (λ l. t.symbol m.OpenBracket ∷ l) (f0.is ∙ ap f0.front (f1.is));
  puts = puts_token (t.symbol m.OpenBracket) (λ ts. f0.front (f1.front ts))
      (puts_both f0.front (f1.front) f0.puts (f1.puts));
  derived = λ vs. atom-list (f0.derived (f1.front vs)) (f1.derived vs);
}
frame (atom-empty d0 d1 d2) = let f0 = frame d0 in let f1 = frame d1 in let f2 = frame d2 in record {
  front = λ ts. t.keyword k.Empty ∷ f0.front
      (f1.front (f2.front ts));
  is = ap (λ l. t.keyword k.Empty ∷ l) (f0.is ∙ ap f0.front (f1.is ∙ ap f1.front (f2.is)));
  puts = puts_token
      (t.keyword k.Empty) (λ ts. f0.front (f1.front (f2.front ts))) (puts_both f0.front (λ ts. f1.front (f2.front ts)) f0.puts (puts_both f1.front
      (f2.front) f1.puts (f2.puts)));
  derived = λ vs. atom-empty (f0.derived (f1.front (f2.front vs))) (f1.derived (f2.front vs)) (f2.derived vs);
}
frame (atom-none d0 d1 d2) = let f0 = frame d0 in let f1 = frame d1 in let f2 = frame d2 in record {
  front = λ ts. t.keyword k.NoneOf ∷ f0.front
      (f1.front (f2.front ts));
  is = ap (λ l. t.keyword k.NoneOf ∷ l) (f0.is ∙ ap f0.front (f1.is ∙ ap f1.front (f2.is)));
  puts = puts_token
      (t.keyword k.NoneOf) (λ ts. f0.front (f1.front (f2.front ts))) (puts_both f0.front (λ ts. f1.front (f2.front ts)) f0.puts (puts_both f1.front
      (f2.front) f1.puts (f2.puts)));
  derived = λ vs. atom-none (f0.derived (f1.front (f2.front vs))) (f1.derived (f2.front vs)) (f2.derived vs);
}
frame (atom-some d0 d1 d2) = let f0 = frame d0 in let f1 = frame d1 in let f2 = frame d2 in record {
  front = λ ts. t.keyword k.SomeOf ∷ f0.front
      (f1.front (f2.front ts));
  is = ap (λ l. t.keyword k.SomeOf ∷ l) (f0.is ∙ ap f0.front (f1.is ∙ ap f1.front (f2.is)));
  puts = puts_token
      (t.keyword k.SomeOf) (λ ts. f0.front (f1.front (f2.front ts))) (puts_both f0.front (λ ts. f1.front (f2.front ts)) f0.puts (puts_both f1.front
      (f2.front) f1.puts (f2.puts)));
  derived = λ vs. atom-some (f0.derived (f1.front (f2.front vs))) (f1.derived (f2.front vs)) (f2.derived vs);
}
frame (atom-orelse d0 d1 d2 d3 d4) = let f0 = frame d0 in let f1 = frame d1 in let f2 = frame d2 in let f3 = frame d3 in let f4 = frame d4 in record {
  front = λ ts. t.keyword k.Orelse ∷ f0.front
      (f1.front (f2.front (f3.front (f4.front ts))));
  is = ap (λ l. t.keyword k.Orelse ∷ l) (f0.is ∙ ap f0.front (f1.is ∙ ap f1.front (f2.is
      ∙ ap f2.front (f3.is ∙ ap f3.front (f4.is)))));
  puts = puts_token (t.keyword k.Orelse) (λ ts. f0.front (f1.front (f2.front (f3.front
      (f4.front ts))))) (puts_both f0.front (λ ts. f1.front (f2.front (f3.front (f4.front ts)))) f0.puts (puts_both f1.front (λ ts. f2.front (f3.front
      (f4.front ts))) f1.puts (puts_both f2.front (λ ts. f3.front (f4.front ts)) f2.puts (puts_both f3.front (f4.front) f3.puts
      (f4.puts)))));
  derived = λ vs. atom-orelse (f0.derived (f1.front (f2.front (f3.front (f4.front vs))))) (f1.derived (f2.front (f3.front
      (f4.front vs)))) (f2.derived (f3.front (f4.front vs))) (f3.derived (f4.front vs)) (f4.derived vs);
}
frame (atom-has d0 d1 d2) = let f0 = frame d0 in let f1 = frame d1 in let f2 = frame d2 in record {
  front = λ ts. t.keyword k.Has ∷ f0.front
      (f1.front (f2.front ts));
  is = ap (λ l. t.keyword k.Has ∷ l) (f0.is ∙ ap f0.front (f1.is ∙ ap f1.front (f2.is)));
  puts = puts_token
      (t.keyword k.Has) (λ ts. f0.front (f1.front (f2.front ts))) (puts_both f0.front (λ ts. f1.front (f2.front ts)) f0.puts (puts_both f1.front
      (f2.front) f1.puts (f2.puts)));
  derived = λ vs. atom-has (f0.derived (f1.front (f2.front vs))) (f1.derived (f2.front vs)) (f2.derived vs);
}
frame (atom-lower d0 d1 d2) = let f0 = frame d0 in let f1 = frame d1 in let f2 = frame d2 in record {
  front = λ ts. t.keyword k.Lower ∷ f0.front
      (f1.front (f2.front ts));
  is = ap (λ l. t.keyword k.Lower ∷ l) (f0.is ∙ ap f0.front (f1.is ∙ ap f1.front (f2.is)));
  puts = puts_token
      (t.keyword k.Lower) (λ ts. f0.front (f1.front (f2.front ts))) (puts_both f0.front (λ ts. f1.front (f2.front ts)) f0.puts (puts_both f1.front
      (f2.front) f1.puts (f2.puts)));
  derived = λ vs. atom-lower (f0.derived (f1.front (f2.front vs))) (f1.derived (f2.front vs)) (f2.derived vs);
}
frame (atom-words d0 d1 d2 d3 d4) = let f0 = frame d0 in let f1 = frame d1 in let f2 = frame d2 in let f3 = frame d3 in let f4 = frame d4 in record {
  front = λ ts. t.keyword k.Words ∷ f0.front
      (f1.front (f2.front (f3.front (f4.front ts))));
  is = ap (λ l. t.keyword k.Words ∷ l) (f0.is ∙ ap f0.front (f1.is ∙ ap f1.front (f2.is
      ∙ ap f2.front (f3.is ∙ ap f3.front (f4.is)))));
  puts = puts_token (t.keyword k.Words) (λ ts. f0.front (f1.front (f2.front (f3.front
      (f4.front ts))))) (puts_both f0.front (λ ts. f1.front (f2.front (f3.front (f4.front ts)))) f0.puts (puts_both f1.front (λ ts. f2.front (f3.front
      (f4.front ts))) f1.puts (puts_both f2.front (λ ts. f3.front (f4.front ts)) f2.puts (puts_both f3.front (f4.front) f3.puts
      (f4.puts)))));
  derived = λ vs. atom-words (f0.derived (f1.front (f2.front (f3.front (f4.front vs))))) (f1.derived (f2.front (f3.front
      (f4.front vs)))) (f2.derived (f3.front (f4.front vs))) (f3.derived (f4.front vs)) (f4.derived vs);
}
frame (atom-len d0 d1 d2) = let f0 = frame d0 in let f1 = frame d1 in let f2 = frame d2 in record {
  front = λ ts. t.keyword k.Len ∷ f0.front
      (f1.front (f2.front ts));
  is = ap (λ l. t.keyword k.Len ∷ l) (f0.is ∙ ap f0.front (f1.is ∙ ap f1.front (f2.is)));
  puts = puts_token
      (t.keyword k.Len) (λ ts. f0.front (f1.front (f2.front ts))) (puts_both f0.front (λ ts. f1.front (f2.front ts)) f0.puts (puts_both f1.front
      (f2.front) f1.puts (f2.puts)));
  derived = λ vs. atom-len (f0.derived (f1.front (f2.front vs))) (f1.derived (f2.front vs)) (f2.derived vs);
}
frame (atom-starts d0 d1 d2 d3 d4) = let f0 = frame d0 in let f1 = frame d1 in let f2 = frame d2 in let f3 = frame d3 in let f4 = frame d4 in record {
  front = λ ts. t.keyword k.Starts ∷ f0.front
      (f1.front (f2.front (f3.front (f4.front ts))));
  is = ap (λ l. t.keyword k.Starts ∷ l) (f0.is ∙ ap f0.front (f1.is ∙ ap f1.front (f2.is
      ∙ ap f2.front (f3.is ∙ ap f3.front (f4.is)))));
  puts = puts_token (t.keyword k.Starts) (λ ts. f0.front (f1.front (f2.front (f3.front
      (f4.front ts))))) (puts_both f0.front (λ ts. f1.front (f2.front (f3.front (f4.front ts)))) f0.puts (puts_both f1.front (λ ts. f2.front (f3.front
      (f4.front ts))) f1.puts (puts_both f2.front (λ ts. f3.front (f4.front ts)) f2.puts (puts_both f3.front (f4.front) f3.puts
      (f4.puts)))));
  derived = λ vs. atom-starts (f0.derived (f1.front (f2.front (f3.front (f4.front vs))))) (f1.derived (f2.front (f3.front
      (f4.front vs)))) (f2.derived (f3.front (f4.front vs))) (f3.derived (f4.front vs)) (f4.derived vs);
}
frame (group_end-close) = record {
  front = λ ts. t.symbol m.CloseParen ∷ ts;
  is = refl;
  puts = puts_token (t.symbol m.CloseParen) (λ ts. ts)
      (puts_none);
  derived = λ vs. group_end-close;
}
frame (group_end-second d0 d1) = let f0 = frame d0 in let f1 = frame d1 in record {
  front = λ ts. t.symbol m.Comma ∷ f0.front (f1.front ts);
  is = ap
      (λ l. t.symbol m.Comma ∷ l) (f0.is ∙ ap f0.front (f1.is));
  puts = puts_token (t.symbol m.Comma) (λ ts. f0.front (f1.front ts))
      (puts_both f0.front (f1.front) f0.puts (f1.puts));
  derived = λ vs. group_end-second (f0.derived (f1.front vs)) (f1.derived vs);
}
frame (list_end-close) = record {
  front = λ ts. t.symbol m.CloseBracket ∷ ts;
  is = refl;
  puts = puts_token (t.symbol m.CloseBracket) (λ ts. ts)
      (puts_none);
  derived = λ vs. list_end-close;
}
frame (list_end-more d0 d1) = let f0 = frame d0 in let f1 = frame d1 in record {
  front = λ ts. t.symbol m.Comma ∷ f0.front (f1.front ts);
  is = ap
      (λ l. t.symbol m.Comma ∷ l) (f0.is ∙ ap f0.front (f1.is));
  puts = puts_token (t.symbol m.Comma) (λ ts. f0.front (f1.front ts))
      (puts_both f0.front (f1.front) f0.puts (f1.puts));
  derived = λ vs. list_end-more (f0.derived (f1.front vs)) (f1.derived vs);
}
frame (post_step-name {n = n}) = record {
  front = λ ts. t.name n ∷ ts;
  is = refl;
  puts = puts_token (t.name n) (λ ts. ts)
      (puts_none);
  derived = λ vs. post_step-name {n = n};
}
frame (post_step-keyword {w = w}) = record {
  front = λ ts. t.keyword w ∷ ts;
  is = refl;
  puts = puts_token (t.keyword w) (λ ts. ts)
      (puts_none);
  derived = λ vs. post_step-keyword {w = w};
}
frame (post_step-first) = record {
  front = λ ts. t.int (suc zero) ∷ ts;
  is = refl;
  puts = puts_token (t.int (suc zero)) (λ ts. ts)
      (puts_none);
  derived = λ vs. post_step-first;
}
frame (post_step-second) = record {
  front = λ ts. t.int (suc (suc zero)) ∷ ts;
  is = refl;
  puts = puts_token (t.int (suc (suc zero))) (λ ts. ts)
      (puts_none);
  derived = λ vs. post_step-second;
}
frame (post_steps-dot d0 d1) = let f0 = frame d0 in let f1 = frame d1 in record {
  front = λ ts. t.symbol m.Dot ∷ f0.front (f1.front ts);
  is = ap
      (λ l. t.symbol m.Dot ∷ l) (f0.is ∙ ap f0.front (f1.is));
  puts = puts_token (t.symbol m.Dot) (λ ts. f0.front (f1.front ts)) (puts_both f0.front
      (f1.front) f0.puts (f1.puts));
  derived = λ vs. post_steps-dot (f0.derived (f1.front vs)) (f1.derived vs);
}
frame (post_steps-none) = record { front = λ ts. ts; is = refl; puts = puts_none; derived = λ vs. post_steps-none }
frame (post-whole d0 d1) = let f0 = frame d0 in let f1 = frame d1 in record {
  front = λ ts. f0.front (f1.front ts);
  is = f0.is ∙ ap f0.front
      (f1.is);
  puts = puts_both f0.front (f1.front) f0.puts (f1.puts);
  derived = λ vs. post-whole (f0.derived (f1.front vs)) (f1.derived vs);
}
frame (unary-minus d0) = let f0 = frame d0 in record {
  front = λ ts. t.symbol m.Minus ∷ f0.front ts;
  is = ap (λ l. t.symbol m.Minus ∷ l)
      (f0.is);
  puts = puts_token (t.symbol m.Minus) (f0.front) (f0.puts);
  derived = λ vs. unary-minus (f0.derived vs);
}
frame (unary-plain d0) = let f0 = frame d0 in record {
  front = λ ts. f0.front ts;
  is = f0.is;
  puts = f0.puts;
  derived = λ vs. unary-plain
      (f0.derived vs);
}
frame (prod_rests-times d0 d1) = let f0 = frame d0 in let f1 = frame d1 in record {
  front = λ ts. t.symbol m.Star ∷ f0.front (f1.front ts);
  is = ap
      (λ l. t.symbol m.Star ∷ l) (f0.is ∙ ap f0.front (f1.is));
  puts = puts_token (t.symbol m.Star) (λ ts. f0.front (f1.front ts)) (puts_both f0.front
      (f1.front) f0.puts (f1.puts));
  derived = λ vs. prod_rests-times (f0.derived (f1.front vs)) (f1.derived vs);
}
frame (prod_rests-over d0 d1) = let f0 = frame d0 in let f1 = frame d1 in record {
  front = λ ts. t.symbol m.Slash ∷ f0.front (f1.front ts);
  is = ap
      (λ l. t.symbol m.Slash ∷ l) (f0.is ∙ ap f0.front (f1.is));
  puts = puts_token (t.symbol m.Slash) (λ ts. f0.front (f1.front ts))
      (puts_both f0.front (f1.front) f0.puts (f1.puts));
  derived = λ vs. prod_rests-over (f0.derived (f1.front vs)) (f1.derived vs);
}
frame (prod_rests-modulo d0 d1) = let f0 = frame d0 in let f1 = frame d1 in record {
  front = λ ts. t.symbol m.Percent ∷ f0.front
      (f1.front ts);
  is = ap (λ l. t.symbol m.Percent ∷ l) (f0.is ∙ ap f0.front (f1.is));
  puts = puts_token (t.symbol m.Percent) (λ ts. f0.front
      (f1.front ts)) (puts_both f0.front (f1.front) f0.puts (f1.puts));
  derived = λ vs. prod_rests-modulo (f0.derived (f1.front vs)) (f1.derived vs);
}
frame (prod_rests-none) = record { front = λ ts. ts; is = refl; puts = puts_none; derived = λ vs. prod_rests-none }
frame (prod-whole d0 d1) = let f0 = frame d0 in let f1 = frame d1 in record {
  front = λ ts. f0.front (f1.front ts);
  is = f0.is ∙ ap f0.front
      (f1.is);
  puts = puts_both f0.front (f1.front) f0.puts (f1.puts);
  derived = λ vs. prod-whole (f0.derived (f1.front vs)) (f1.derived vs);
}
frame (add_rests-plus d0 d1) = let f0 = frame d0 in let f1 = frame d1 in record {
  front = λ ts. t.symbol m.Plus ∷ f0.front (f1.front ts);
  is = ap
      (λ l. t.symbol m.Plus ∷ l) (f0.is ∙ ap f0.front (f1.is));
  puts = puts_token (t.symbol m.Plus) (λ ts. f0.front (f1.front ts)) (puts_both f0.front
      (f1.front) f0.puts (f1.puts));
  derived = λ vs. add_rests-plus (f0.derived (f1.front vs)) (f1.derived vs);
}
frame (add_rests-minus d0 d1) = let f0 = frame d0 in let f1 = frame d1 in record {
  front = λ ts. t.symbol m.Minus ∷ f0.front (f1.front ts);
  is = ap
      (λ l. t.symbol m.Minus ∷ l) (f0.is ∙ ap f0.front (f1.is));
  puts = puts_token (t.symbol m.Minus) (λ ts. f0.front (f1.front ts))
      (puts_both f0.front (f1.front) f0.puts (f1.puts));
  derived = λ vs. add_rests-minus (f0.derived (f1.front vs)) (f1.derived vs);
}
frame (add_rests-none) = record { front = λ ts. ts; is = refl; puts = puts_none; derived = λ vs. add_rests-none }
frame (add-whole d0 d1) = let f0 = frame d0 in let f1 = frame d1 in record {
  front = λ ts. f0.front (f1.front ts);
  is = f0.is ∙ ap f0.front
      (f1.is);
  puts = puts_both f0.front (f1.front) f0.puts (f1.puts);
  derived = λ vs. add-whole (f0.derived (f1.front vs)) (f1.derived vs);
}
frame (comparison-equal d0) = let f0 = frame d0 in record {
  front = λ ts. t.symbol m.Equal ∷ f0.front ts;
  is = ap (λ l. t.symbol m.Equal ∷ l)
      (f0.is);
  puts = puts_token (t.symbol m.Equal) (f0.front) (f0.puts);
  derived = λ vs. comparison-equal (f0.derived vs);
}
frame (comparison-unequal d0) = let f0 = frame d0 in record {
  front = λ ts. t.symbol m.Unequal ∷ f0.front ts;
  is = ap (λ l. t.symbol m.Unequal ∷ l)
      (f0.is);
  puts = puts_token (t.symbol m.Unequal) (f0.front) (f0.puts);
  derived = λ vs. comparison-unequal (f0.derived vs);
}
frame (comparison-less d0) = let f0 = frame d0 in record {
  front = λ ts. t.symbol m.Less ∷ f0.front ts;
  is = ap (λ l. t.symbol m.Less ∷ l)
      (f0.is);
  puts = puts_token (t.symbol m.Less) (f0.front) (f0.puts);
  derived = λ vs. comparison-less (f0.derived vs);
}
frame (comparison-at_most d0) = let f0 = frame d0 in record {
  front = λ ts. t.symbol m.AtMost ∷ f0.front ts;
  is = ap (λ l. t.symbol m.AtMost ∷ l)
      (f0.is);
  puts = puts_token (t.symbol m.AtMost) (f0.front) (f0.puts);
  derived = λ vs. comparison-at_most (f0.derived vs);
}
frame (comparison-greater d0) = let f0 = frame d0 in record {
  front = λ ts. t.symbol m.Greater ∷ f0.front ts;
  is = ap (λ l. t.symbol m.Greater ∷ l)
      (f0.is);
  puts = puts_token (t.symbol m.Greater) (f0.front) (f0.puts);
  derived = λ vs. comparison-greater (f0.derived vs);
}
frame (comparison-at_least d0) = let f0 = frame d0 in record {
  front = λ ts. t.symbol m.AtLeast ∷ f0.front ts;
  is = ap (λ l. t.symbol m.AtLeast ∷ l)
      (f0.is);
  puts = puts_token (t.symbol m.AtLeast) (f0.front) (f0.puts);
  derived = λ vs. comparison-at_least (f0.derived vs);
}
frame (comparison-none) = record { front = λ ts. ts; is = refl; puts = puts_none; derived = λ vs. comparison-none }
frame (cmp-whole d0 d1) = let f0 = frame d0 in let f1 = frame d1 in record {
  front = λ ts. f0.front (f1.front ts);
  is = f0.is ∙ ap f0.front
      (f1.is);
  puts = puts_both f0.front (f1.front) f0.puts (f1.puts);
  derived = λ vs. cmp-whole (f0.derived (f1.front vs)) (f1.derived vs);
}
frame (neg-not d0) = let f0 = frame d0 in record {
  front = λ ts. t.keyword k.Not ∷ f0.front ts;
  is = ap (λ l. t.keyword k.Not ∷ l)
      (f0.is);
  puts = puts_token (t.keyword k.Not) (f0.front) (f0.puts);
  derived = λ vs. neg-not (f0.derived vs);
}
frame (neg-plain d0) = let f0 = frame d0 in record {
  front = λ ts. f0.front ts;
  is = f0.is;
  puts = f0.puts;
  derived = λ vs. neg-plain
      (f0.derived vs);
}
frame (conj_rests-and d0 d1) = let f0 = frame d0 in let f1 = frame d1 in record {
  front = λ ts. t.keyword k.And ∷ f0.front (f1.front ts);
  is = ap
      (λ l. t.keyword k.And ∷ l) (f0.is ∙ ap f0.front (f1.is));
  puts = puts_token (t.keyword k.And) (λ ts. f0.front (f1.front ts)) (puts_both f0.front
      (f1.front) f0.puts (f1.puts));
  derived = λ vs. conj_rests-and (f0.derived (f1.front vs)) (f1.derived vs);
}
frame (conj_rests-none) = record { front = λ ts. ts; is = refl; puts = puts_none; derived = λ vs. conj_rests-none }
frame (conj-whole d0 d1) = let f0 = frame d0 in let f1 = frame d1 in record {
  front = λ ts. f0.front (f1.front ts);
  is = f0.is ∙ ap f0.front
      (f1.is);
  puts = puts_both f0.front (f1.front) f0.puts (f1.puts);
  derived = λ vs. conj-whole (f0.derived (f1.front vs)) (f1.derived vs);
}
frame (disj_rests-or d0 d1) = let f0 = frame d0 in let f1 = frame d1 in record {
  front = λ ts. t.keyword k.Or ∷ f0.front (f1.front ts);
  is = ap
      (λ l. t.keyword k.Or ∷ l) (f0.is ∙ ap f0.front (f1.is));
  puts = puts_token (t.keyword k.Or) (λ ts. f0.front (f1.front ts)) (puts_both f0.front
      (f1.front) f0.puts (f1.puts));
  derived = λ vs. disj_rests-or (f0.derived (f1.front vs)) (f1.derived vs);
}
frame (disj_rests-none) = record { front = λ ts. ts; is = refl; puts = puts_none; derived = λ vs. disj_rests-none }
frame (disj-whole d0 d1) = let f0 = frame d0 in let f1 = frame d1 in record {
  front = λ ts. f0.front (f1.front ts);
  is = f0.is ∙ ap f0.front
      (f1.is);
  puts = puts_both f0.front (f1.front) f0.puts (f1.puts);
  derived = λ vs. disj-whole (f0.derived (f1.front vs)) (f1.derived vs);
}
frame (expr-if d0 d1 d2 d3 d4) = let f0 = frame d0 in let f1 = frame d1 in let f2 = frame d2 in let f3 = frame d3 in let f4 = frame d4 in record {
  front = λ ts. t.keyword k.If ∷ f0.front
      (f1.front (f2.front (f3.front (f4.front ts))));
  is = ap (λ l. t.keyword k.If ∷ l) (f0.is ∙ ap f0.front (f1.is ∙ ap f1.front (f2.is ∙ ap f2.front
      (f3.is ∙ ap f3.front (f4.is)))));
  puts = puts_token (t.keyword k.If) (λ ts. f0.front (f1.front (f2.front (f3.front (f4.front ts)))))
      (puts_both f0.front (λ ts. f1.front (f2.front (f3.front (f4.front ts)))) f0.puts (puts_both f1.front (λ ts. f2.front (f3.front
      (f4.front ts))) f1.puts (puts_both f2.front (λ ts. f3.front (f4.front ts)) f2.puts (puts_both f3.front (f4.front) f3.puts
      (f4.puts)))));
  derived = λ vs. expr-if (f0.derived (f1.front (f2.front (f3.front (f4.front vs))))) (f1.derived (f2.front (f3.front
      (f4.front vs)))) (f2.derived (f3.front (f4.front vs))) (f3.derived (f4.front vs)) (f4.derived vs);
}
frame (expr-plain d0) = let f0 = frame d0 in record {
  front = λ ts. f0.front ts;
  is = f0.is;
  puts = f0.puts;
  derived = λ vs. expr-plain
      (f0.derived vs);
}
frame (stage-map d0) = let f0 = frame d0 in record {
  front = λ ts. t.keyword k.Map ∷ f0.front ts;
  is = ap (λ l. t.keyword k.Map ∷ l)
      (f0.is);
  puts = puts_token (t.keyword k.Map) (f0.front) (f0.puts);
  derived = λ vs. stage-map (f0.derived vs);
}
frame (stage-filter d0) = let f0 = frame d0 in record {
  front = λ ts. t.keyword k.Filter ∷ f0.front ts;
  is = ap (λ l. t.keyword k.Filter ∷ l)
      (f0.is);
  puts = puts_token (t.keyword k.Filter) (f0.front) (f0.puts);
  derived = λ vs. stage-filter (f0.derived vs);
}
frame (stage-flat_map d0) = let f0 = frame d0 in record {
  front = λ ts. t.keyword k.FlatMap ∷ f0.front ts;
  is = ap (λ l. t.keyword k.FlatMap ∷ l)
      (f0.is);
  puts = puts_token (t.keyword k.FlatMap) (f0.front) (f0.puts);
  derived = λ vs. stage-flat_map (f0.derived vs);
}
frame (stage-join d0) = let f0 = frame d0 in record {
  front = λ ts. t.keyword k.LeftJoin ∷ f0.front ts;
  is = ap (λ l. t.keyword k.LeftJoin ∷ l)
      (f0.is);
  puts = puts_token (t.keyword k.LeftJoin) (f0.front) (f0.puts);
  derived = λ vs. stage-join (f0.derived vs);
}
frame (stages-bar d0 d1) = let f0 = frame d0 in let f1 = frame d1 in record {
  front = λ ts. t.symbol m.Bar ∷ f0.front (f1.front ts);
  is = ap
      (λ l. t.symbol m.Bar ∷ l) (f0.is ∙ ap f0.front (f1.is));
  puts = puts_token (t.symbol m.Bar) (λ ts. f0.front (f1.front ts)) (puts_both f0.front
      (f1.front) f0.puts (f1.puts));
  derived = λ vs. stages-bar (f0.derived (f1.front vs)) (f1.derived vs);
}
frame (stages-none) = record { front = λ ts. ts; is = refl; puts = puts_none; derived = λ vs. stages-none }
frame (head-name {n = n}) = record {
  front = λ ts. t.name n ∷ ts;
  is = refl;
  puts = puts_token (t.name n) (λ ts. ts)
      (puts_none);
  derived = λ vs. head-name {n = n};
}
frame (head-merge d0 d1 d2 d3 d4) = let f0 = frame d0 in let f1 = frame d1 in let f2 = frame d2 in let f3 = frame d3 in let f4 = frame d4 in record {
  front = λ ts. t.keyword k.Merge ∷ f0.front
      (f1.front (f2.front (f3.front (f4.front ts))));
  is = ap (λ l. t.keyword k.Merge ∷ l) (f0.is ∙ ap f0.front (f1.is ∙ ap f1.front (f2.is
      ∙ ap f2.front (f3.is ∙ ap f3.front (f4.is)))));
  puts = puts_token (t.keyword k.Merge) (λ ts. f0.front (f1.front (f2.front (f3.front
      (f4.front ts))))) (puts_both f0.front (λ ts. f1.front (f2.front (f3.front (f4.front ts)))) f0.puts (puts_both f1.front (λ ts. f2.front (f3.front
      (f4.front ts))) f1.puts (puts_both f2.front (λ ts. f3.front (f4.front ts)) f2.puts (puts_both f3.front (f4.front) f3.puts
      (f4.puts)))));
  derived = λ vs. head-merge (f0.derived (f1.front (f2.front (f3.front (f4.front vs))))) (f1.derived (f2.front (f3.front
      (f4.front vs)))) (f2.derived (f3.front (f4.front vs))) (f3.derived (f4.front vs)) (f4.derived vs);
}
frame (stream-whole d0 d1) = let f0 = frame d0 in let f1 = frame d1 in record {
  front = λ ts. f0.front (f1.front ts);
  is = f0.is ∙ ap f0.front
      (f1.is);
  puts = puts_both f0.front (f1.front) f0.puts (f1.puts);
  derived = λ vs. stream-whole (f0.derived (f1.front vs)) (f1.derived vs);
}
frame (store_stages-whole d0) = let f0 = frame d0 in record {
  front = λ ts. t.symbol m.Bar ∷ f0.front ts;
  is = ap (λ l. t.symbol m.Bar ∷ l)
      (f0.is);
  puts = puts_token (t.symbol m.Bar) (f0.front) (f0.puts);
  derived = λ vs. store_stages-whole (f0.derived vs);
}
frame (store_stage-map d0 d1) = let f0 = frame d0 in let f1 = frame d1 in record {
  front = λ ts. t.keyword k.Map ∷ f0.front (f1.front ts);
  is = ap
      (λ l. t.keyword k.Map ∷ l) (f0.is ∙ ap f0.front (f1.is));
  puts = puts_token (t.keyword k.Map) (λ ts. f0.front (f1.front ts)) (puts_both f0.front
      (f1.front) f0.puts (f1.puts));
  derived = λ vs. store_stage-map (f0.derived (f1.front vs)) (f1.derived vs);
}
frame (store_stage-filter d0 d1) = let f0 = frame d0 in let f1 = frame d1 in record {
  front = λ ts. t.keyword k.Filter ∷ f0.front
      (f1.front ts);
  is = ap (λ l. t.keyword k.Filter ∷ l) (f0.is ∙ ap f0.front (f1.is));
  puts = puts_token (t.keyword k.Filter) (λ ts. f0.front
      (f1.front ts)) (puts_both f0.front (f1.front) f0.puts (f1.puts));
  derived = λ vs. store_stage-filter (f0.derived (f1.front vs)) (f1.derived vs);
}
frame (store_stage-flat_map d0 d1) = let f0 = frame d0 in let f1 = frame d1 in record {
  front = λ ts. t.keyword k.FlatMap ∷ f0.front
      (f1.front ts);
  is = ap (λ l. t.keyword k.FlatMap ∷ l) (f0.is ∙ ap f0.front (f1.is));
  puts = puts_token (t.keyword k.FlatMap) (λ ts. f0.front
      (f1.front ts)) (puts_both f0.front (f1.front) f0.puts (f1.puts));
  derived = λ vs. store_stage-flat_map (f0.derived (f1.front vs))
      (f1.derived vs);
}
frame (store_stage-join d0 d1) = let f0 = frame d0 in let f1 = frame d1 in record {
  front = λ ts. t.keyword k.LeftJoin ∷ f0.front
      (f1.front ts);
  is = ap (λ l. t.keyword k.LeftJoin ∷ l) (f0.is ∙ ap f0.front (f1.is));
  puts = puts_token (t.keyword k.LeftJoin) (λ ts. f0.front
      (f1.front ts)) (puts_both f0.front (f1.front) f0.puts (f1.puts));
  derived = λ vs. store_stage-join (f0.derived (f1.front vs)) (f1.derived vs);
}
frame (store_stage-sum d0) = let f0 = frame d0 in record {
  front = λ ts. t.keyword k.SumByKey ∷ f0.front ts;
  is = ap (λ l. t.keyword k.SumByKey ∷ l)
      (f0.is);
  puts = puts_token (t.keyword k.SumByKey) (f0.front) (f0.puts);
  derived = λ vs. store_stage-sum (f0.derived vs);
}
frame (statement-source d0 d1 d2) = let f0 = frame d0 in let f1 = frame d1 in let f2 = frame d2 in record {
  front = λ ts. t.keyword k.Source ∷ f0.front
      (f1.front (f2.front ts));
  is = ap (λ l. t.keyword k.Source ∷ l) (f0.is ∙ ap f0.front (f1.is ∙ ap f1.front (f2.is)));
  puts = puts_token
      (t.keyword k.Source) (λ ts. f0.front (f1.front (f2.front ts))) (puts_both f0.front (λ ts. f1.front (f2.front ts)) f0.puts (puts_both f1.front
      (f2.front) f1.puts (f2.puts)));
  derived = λ vs. statement-source (f0.derived (f1.front (f2.front vs))) (f1.derived (f2.front vs))
      (f2.derived vs);
}
frame (statement-service d0 d1 d2 d3 d4 d5) = let f0 = frame d0 in let f1 = frame d1 in let f2 = frame d2 in let f3 = frame d3 in let f4 = frame d4 in let f5 = frame d5 in record {
  front = λ ts. t.keyword k.Service ∷ f0.front
      (f1.front (f2.front (f3.front (f4.front (f5.front ts)))));
  is = ap (λ l. t.keyword k.Service ∷ l) (f0.is ∙ ap f0.front (f1.is ∙ ap f1.front
      (f2.is ∙ ap f2.front (f3.is ∙ ap f3.front (f4.is ∙ ap f4.front (f5.is))))));
  puts = puts_token (t.keyword k.Service) (λ ts. f0.front (f1.front
      (f2.front (f3.front (f4.front (f5.front ts)))))) (puts_both f0.front (λ ts. f1.front (f2.front (f3.front (f4.front (f5.front ts))))) f0.puts
      (puts_both f1.front (λ ts. f2.front (f3.front (f4.front (f5.front ts)))) f1.puts (puts_both f2.front (λ ts. f3.front (f4.front
      (f5.front ts))) f2.puts (puts_both f3.front (λ ts. f4.front (f5.front ts)) f3.puts (puts_both f4.front (f5.front) f4.puts
      (f5.puts))))));
  derived = λ vs. statement-service (f0.derived (f1.front (f2.front (f3.front (f4.front (f5.front vs)))))) (f1.derived (f2.front
      (f3.front (f4.front (f5.front vs))))) (f2.derived (f3.front (f4.front (f5.front vs)))) (f3.derived (f4.front (f5.front vs))) (f4.derived
      (f5.front vs)) (f5.derived vs);
}
frame (statement-let d0 d1 d2) = let f0 = frame d0 in let f1 = frame d1 in let f2 = frame d2 in record {
  front = λ ts. t.keyword k.Let ∷ f0.front
      (f1.front (f2.front ts));
  is = ap (λ l. t.keyword k.Let ∷ l) (f0.is ∙ ap f0.front (f1.is ∙ ap f1.front (f2.is)));
  puts = puts_token
      (t.keyword k.Let) (λ ts. f0.front (f1.front (f2.front ts))) (puts_both f0.front (λ ts. f1.front (f2.front ts)) f0.puts (puts_both f1.front
      (f2.front) f1.puts (f2.puts)));
  derived = λ vs. statement-let (f0.derived (f1.front (f2.front vs))) (f1.derived (f2.front vs)) (f2.derived vs);
}
frame (statement-store d0 d1 d2 d3) = let f0 = frame d0 in let f1 = frame d1 in let f2 = frame d2 in let f3 = frame d3 in record {
  front = λ ts. t.keyword k.Store ∷ f0.front
      (f1.front (f2.front (f3.front ts)));
  is = ap (λ l. t.keyword k.Store ∷ l) (f0.is ∙ ap f0.front (f1.is ∙ ap f1.front (f2.is ∙ ap f2.front
      (f3.is))));
  puts = puts_token (t.keyword k.Store) (λ ts. f0.front (f1.front (f2.front (f3.front ts)))) (puts_both f0.front (λ ts. f1.front
      (f2.front (f3.front ts))) f0.puts (puts_both f1.front (λ ts. f2.front (f3.front ts)) f1.puts (puts_both f2.front (f3.front) f2.puts
      (f3.puts))));
  derived = λ vs. statement-store (f0.derived (f1.front (f2.front (f3.front vs)))) (f1.derived (f2.front (f3.front vs))) (f2.derived
      (f3.front vs)) (f3.derived vs);
}
