-- Where the parts of a rule begin and end: which token goes on at which level.
use Rattle.std.proofs.Common.{◌≡◌, ℕ, zero, suc, true, false, nat_lt, nat_le, List, [], ◌∷◌, refl}
use Rattle.std.proofs.Common.{arith}
use Rattle.std.proofs.lemmas.Bool.Decides.{nat_tests}
use Rattle.sb_tokens.specs.declared.keyword.Keyword.{Keyword}
use Rattle.sb_tokens.specs.declared.keyword.Keyword.TheVariants as k
use Rattle.sb_tokens.specs.declared.symbol.Symbol.TheVariants as m
use Rattle.sb_tokens.specs.Token.{Token}
use Rattle.sb_tokens.specs.Token as t
use Rattle.sb_grammar.specs.Grammar.{Rule, Tree, Derives}
use Rattle.sb_grammar.specs.Grammar.{then_word, else_word, close_paren, comma, scalar}
use Rattle.sb_grammar.specs.Grammar.{field, atom, group_end, list_end, post_steps, post, unary, prod_rests, prod}
use Rattle.sb_grammar.specs.Grammar.{add_rests, add, comparison, cmp, neg, conj_rests, conj, disj_rests, disj, expr, stage, stages, stream}
use Rattle.sb_grammar.specs.Grammar.{store_stages, statement}
use Rattle.sb_grammar.specs.Grammar.{from_word-it, then_word-it, else_word-it, open_paren-it, close_paren-it, comma-it, colon-it, arrow-it, assign-it}
use Rattle.sb_grammar.specs.Grammar.{number-it, positive-it, a_name-it, scalar-int, scalar-text, scalar-bool, batch-whole, start-minus, start-number}
use Rattle.sb_grammar.specs.Grammar.{field-name, field-keyword, fields-none, fields-some, more_fields-none, more_fields-some, mono-sum, mono-min}
use Rattle.sb_grammar.specs.Grammar.{mono-max, mono-first, mono-last, mono-concat, mono-set, mono-top, mono-cms, mono-hll, mono-pair, mono-map}
use Rattle.sb_grammar.specs.Grammar.{a_type-pair, a_type-opt, a_type-list, a_type-scalar, atom-int, atom-text, atom-true, atom-false, atom-it}
use Rattle.sb_grammar.specs.Grammar.{atom-group, atom-list, atom-empty, atom-none, atom-some, atom-orelse, atom-has, atom-lower, atom-words, atom-len}
use Rattle.sb_grammar.specs.Grammar.{atom-starts, group_end-close, group_end-second, list_end-close, list_end-more, post_step-name, post_step-keyword}
use Rattle.sb_grammar.specs.Grammar.{post_step-first, post_step-second, post_steps-dot, post_steps-none, post-whole, unary-minus, unary-plain}
use Rattle.sb_grammar.specs.Grammar.{prod_rests-times, prod_rests-over, prod_rests-modulo, prod_rests-none, prod-whole, add_rests-plus}
use Rattle.sb_grammar.specs.Grammar.{add_rests-minus, add_rests-none, add-whole, comparison-equal, comparison-unequal, comparison-less}
use Rattle.sb_grammar.specs.Grammar.{comparison-at_most, comparison-greater, comparison-at_least, comparison-none, cmp-whole, neg-not, neg-plain}
use Rattle.sb_grammar.specs.Grammar.{conj_rests-and, conj_rests-none, conj-whole, disj_rests-or, disj_rests-none, disj-whole, expr-if, expr-plain}
use Rattle.sb_grammar.specs.Grammar.{stage-map, stage-filter, stage-flat_map, stage-join, stages-bar, stages-none, head-name, head-merge}
use Rattle.sb_grammar.specs.Grammar.{stream-whole, store_stages-whole, store_stage-map, store_stage-filter, store_stage-flat_map, store_stage-join}
use Rattle.sb_grammar.specs.Grammar.{store_stage-sum, statement-source, statement-service, statement-let, statement-store}

-- at which level the next token goes on, from a stream's stages at 1 to the steps behind an atom at 7; 0 for one that goes on nowhere
abbrev pub strength : List Token → ℕ
strength [] = 0
strength (t.symbol m.Bar ∷ _) = 1
strength (t.keyword k.Or ∷ _) = 2
strength (t.keyword k.And ∷ _) = 3
strength (t.symbol m.Equal ∷ _) = 4
strength (t.symbol m.Unequal ∷ _) = 4
strength (t.symbol m.Less ∷ _) = 4
strength (t.symbol m.AtMost ∷ _) = 4
strength (t.symbol m.Greater ∷ _) = 4
strength (t.symbol m.AtLeast ∷ _) = 4
strength (t.symbol m.Plus ∷ _) = 5
strength (t.symbol m.Minus ∷ _) = 5
strength (t.symbol m.Star ∷ _) = 6
strength (t.symbol m.Slash ∷ _) = 6
strength (t.symbol m.Percent ∷ _) = 6
strength (t.symbol m.Dot ∷ _) = 7
strength _ = 0

-- the next token doesn't go on at this level or above; at level 0 this says nothing
abbrev pub Fits : ℕ → List Token → Type 0
Fits zero ws = Unit {0}
Fits (suc n) ws = nat_lt (strength ws) (suc n) ≡ true

-- which of the tokens that begin a production of its own comes first
abbrev pub rank : List Token → ℕ
rank [] = 0
rank (t.symbol m.CloseParen ∷ _) = 10
rank (t.keyword k.Pair ∷ _) = 8
rank (t.keyword k.Opt ∷ _) = 8
rank (t.keyword k.List ∷ _) = 8
rank (t.keyword k.If ∷ _) = 3
rank (t.keyword k.Not ∷ _) = 2
rank (t.symbol m.Minus ∷ _) = 1
rank _ = 0

abbrev pub Begins : ℕ → List Token → Type 0
Begins zero ws = Unit {0}
Begins (suc n) ws = nat_lt (rank ws) (suc n) ≡ true

-- from which level on a rule takes what goes on
abbrev pub level : Rule → ℕ
level post_steps = 7
level post = 7
level unary = 7
level prod_rests = 6
level prod = 6
level add_rests = 5
level add = 5
level comparison = 4
level cmp = 4
level neg = 4
level conj_rests = 3
level conj = 3
level disj_rests = 2
level disj = 2
level expr = 2
level stage = 2
level stages = 1
level stream = 1
level statement = 1
level _ = 0

-- below which level its first token is
abbrev pub front : Rule → ℕ
front then_word = 2
front else_word = 2
front close_paren = 1
front comma = 1
front group_end = 2
front list_end = 2
front post_steps = 8
front prod_rests = 7
front add_rests = 6
front comparison = 5
front conj_rests = 4
front disj_rests = 3
front stages = 2
front store_stages = 2
front statement = 1
front _ = 0

-- below which rank its first token is
abbrev pub least : Rule → ℕ
least scalar = 8
least field = 10
least atom = 1
least post = 1
least unary = 2
least prod = 2
least add = 2
least cmp = 2
least neg = 3
least conj = 3
least disj = 3
least _ = 0

pub clash : {A : Type 0} → false ≡ true → A
clash h = cc

pub lifted : (m a b : ℕ) → nat_le a b ≡ true → nat_lt m a ≡ true → nat_lt m b ≡ true
lifted m a b h k = grind (arith, nat_tests)

pub weaker : (ws : List Token) (a b : ℕ) → nat_le (suc a) (suc b) ≡ true → Fits (suc a) ws → Fits (suc b) ws
weaker ws a b h fits = lifted (strength ws) (suc a) (suc b) h fits

pub looser : (ws : List Token) (a b : ℕ) → nat_le (suc a) (suc b) ≡ true → Begins (suc a) ws → Begins (suc b) ws
looser ws a b h fits = lifted (rank ws) (suc a) (suc b) h fits

-- what a rule lets stand in front of it
pub before : {r : Rule} {a : Tree r} {ts ws : List Token} → Derives r a ts ws → Fits (level r) ws → Fits (front r) ts
before (from_word-it {ts = ts}) fit = tt
before (then_word-it {ts = ts}) fit = refl
before (else_word-it {ts = ts}) fit = refl
before (open_paren-it {ts = ts}) fit = tt
before (close_paren-it {ts = ts}) fit = refl
before (comma-it {ts = ts}) fit = refl
before (colon-it {ts = ts}) fit = tt
before (arrow-it {ts = ts}) fit = tt
before (assign-it {ts = ts}) fit = tt
before (number-it {n = n} {ts = ts}) fit = tt
before (positive-it {n = n} {ts = ts}) fit = tt
before (a_name-it {n = n} {ts = ts}) fit = tt
before (scalar-int {ts = ts}) fit = tt
before (scalar-text {ts = ts}) fit = tt
before (scalar-bool {ts = ts}) fit = tt
before (batch-whole {a = a} {b = b} {c = c} {ts = ts} {us = us} {vs = vs} {ws = ws} d0 d1 d2) fit = tt
before (start-minus {a = a} {ts = ts} {us = us} d0) fit = tt
before (start-number {n = n} {ts = ts}) fit = tt
before (field-name {n = n} {a = a} {b = b} {ts = ts} {us = us} {vs = vs} d0 d1) fit = tt
before (field-keyword {w = w} {a = a} {b = b} {ts = ts} {us = us} {vs = vs} d0 d1) fit = tt
before (fields-none {ts = ts}) fit = tt
before (fields-some {a = a} {b = b} {ts = ts} {us = us} {vs = vs} d0 d1) fit = tt
before (more_fields-none {ts = ts}) fit = tt
before (more_fields-some {a = a} {b = b} {ts = ts} {us = us} {vs = vs} d0 d1) fit = tt
before (mono-sum {ts = ts}) fit = tt
before (mono-min {ts = ts}) fit = tt
before (mono-max {ts = ts}) fit = tt
before (mono-first {ts = ts}) fit = tt
before (mono-last {ts = ts}) fit = tt
before (mono-concat {ts = ts}) fit = tt
before (mono-set {ts = ts}) fit = tt
before (mono-top {a = a} {b = b} {c = c} {ts = ts} {us = us} {vs = vs} {ws = ws} d0 d1 d2) fit = tt
before (mono-cms {a = a} {b = b} {c = c} {d = d} {g = g} {ts = ts} {us = us} {vs = vs} {ws = ws} {xs = xs} {ys = ys} d0 d1 d2 d3 d4) fit = tt
before (mono-hll {a = a} {b = b} {c = c} {ts = ts} {us = us} {vs = vs} {ws = ws} d0 d1 d2) fit = tt
before (mono-pair {a = a} {b = b} {c = c} {d = d} {g = g} {ts = ts} {us = us} {vs = vs} {ws = ws} {xs = xs} {ys = ys} d0 d1 d2 d3 d4) fit = tt
before (mono-map {a = a} {b = b} {c = c} {ts = ts} {us = us} {vs = vs} {ws = ws} d0 d1 d2) fit = tt
before (a_type-pair {a = a} {b = b} {c = c} {d = d} {g = g} {ts = ts} {us = us} {vs = vs} {ws = ws} {xs = xs} {ys = ys} d0 d1 d2 d3 d4) fit = tt
before (a_type-opt {a = a} {b = b} {c = c} {ts = ts} {us = us} {vs = vs} {ws = ws} d0 d1 d2) fit = tt
before (a_type-list {a = a} {b = b} {c = c} {d = d} {g = g} {ts = ts} {us = us} {vs = vs} {ws = ws} {xs = xs} {ys = ys} d0 d1 d2 d3 d4) fit = tt
before (a_type-scalar {a = a} {ts = ts} {us = us} d0) fit = tt
before (atom-int {n = n} {ts = ts}) fit = tt
before (atom-text {value = value} {ts = ts}) fit = tt
before (atom-true {ts = ts}) fit = tt
before (atom-false {ts = ts}) fit = tt
before (atom-it {ts = ts}) fit = tt
before (atom-group {a = a} {b = b} {ts = ts} {us = us} {vs = vs} d0 d1) fit = tt
before (atom-list {a = a} {b = b} {ts = ts} {us = us} {vs = vs} d0 d1) fit = tt
before (atom-empty {a = a} {b = b} {c = c} {ts = ts} {us = us} {vs = vs} {ws = ws} d0 d1 d2) fit = tt
before (atom-none {a = a} {b = b} {c = c} {ts = ts} {us = us} {vs = vs} {ws = ws} d0 d1 d2) fit = tt
before (atom-some {a = a} {b = b} {c = c} {ts = ts} {us = us} {vs = vs} {ws = ws} d0 d1 d2) fit = tt
before (atom-orelse {a = a} {b = b} {c = c} {d = d} {g = g} {ts = ts} {us = us} {vs = vs} {ws = ws} {xs = xs} {ys = ys} d0 d1 d2 d3 d4) fit = tt
before (atom-has {a = a} {b = b} {c = c} {ts = ts} {us = us} {vs = vs} {ws = ws} d0 d1 d2) fit = tt
before (atom-lower {a = a} {b = b} {c = c} {ts = ts} {us = us} {vs = vs} {ws = ws} d0 d1 d2) fit = tt
before (atom-words {a = a} {b = b} {c = c} {d = d} {g = g} {ts = ts} {us = us} {vs = vs} {ws = ws} {xs = xs} {ys = ys} d0 d1 d2 d3 d4) fit = tt
before (atom-len {a = a} {b = b} {c = c} {ts = ts} {us = us} {vs = vs} {ws = ws} d0 d1 d2) fit = tt
before (atom-starts {a = a} {b = b} {c = c} {d = d} {g = g} {ts = ts} {us = us} {vs = vs} {ws = ws} {xs = xs} {ys = ys} d0 d1 d2 d3 d4) fit = tt
before (group_end-close {ts = ts}) fit = refl
before (group_end-second {a = a} {b = b} {ts = ts} {us = us} {vs = vs} d0 d1) fit = refl
before (list_end-close {ts = ts}) fit = refl
before (list_end-more {a = a} {b = b} {ts = ts} {us = us} {vs = vs} d0 d1) fit = refl
before (post_step-name {n = n} {ts = ts}) fit = tt
before (post_step-keyword {w = w} {ts = ts}) fit = tt
before (post_step-first {ts = ts}) fit = tt
before (post_step-second {ts = ts}) fit = tt
before (post_steps-dot {a = a} {b = b} {ts = ts} {us = us} {vs = vs} d0 d1) fit = refl
before (post_steps-none {ts = ts}) fit = (weaker ts 6 7 refl fit)
before (post-whole {a = a} {b = b} {ts = ts} {us = us} {vs = vs} d0 d1) fit = tt
before (unary-minus {a = a} {ts = ts} {us = us} d0) fit = tt
before (unary-plain {a = a} {ts = ts} {us = us} d0) fit = tt
before (prod_rests-times {a = a} {b = b} {ts = ts} {us = us} {vs = vs} d0 d1) fit = refl
before (prod_rests-over {a = a} {b = b} {ts = ts} {us = us} {vs = vs} d0 d1) fit = refl
before (prod_rests-modulo {a = a} {b = b} {ts = ts} {us = us} {vs = vs} d0 d1) fit = refl
before (prod_rests-none {ts = ts}) fit = (weaker ts 5 6 refl fit)
before (prod-whole {a = a} {b = b} {ts = ts} {us = us} {vs = vs} d0 d1) fit = tt
before (add_rests-plus {a = a} {b = b} {ts = ts} {us = us} {vs = vs} d0 d1) fit = refl
before (add_rests-minus {a = a} {b = b} {ts = ts} {us = us} {vs = vs} d0 d1) fit = refl
before (add_rests-none {ts = ts}) fit = (weaker ts 4 5 refl fit)
before (add-whole {a = a} {b = b} {ts = ts} {us = us} {vs = vs} d0 d1) fit = tt
before (comparison-equal {a = a} {ts = ts} {us = us} d0) fit = refl
before (comparison-unequal {a = a} {ts = ts} {us = us} d0) fit = refl
before (comparison-less {a = a} {ts = ts} {us = us} d0) fit = refl
before (comparison-at_most {a = a} {ts = ts} {us = us} d0) fit = refl
before (comparison-greater {a = a} {ts = ts} {us = us} d0) fit = refl
before (comparison-at_least {a = a} {ts = ts} {us = us} d0) fit = refl
before (comparison-none {ts = ts}) fit = (weaker ts 3 4 refl fit)
before (cmp-whole {a = a} {b = b} {ts = ts} {us = us} {vs = vs} d0 d1) fit = tt
before (neg-not {a = a} {ts = ts} {us = us} d0) fit = tt
before (neg-plain {a = a} {ts = ts} {us = us} d0) fit = tt
before (conj_rests-and {a = a} {b = b} {ts = ts} {us = us} {vs = vs} d0 d1) fit = refl
before (conj_rests-none {ts = ts}) fit = (weaker ts 2 3 refl fit)
before (conj-whole {a = a} {b = b} {ts = ts} {us = us} {vs = vs} d0 d1) fit = tt
before (disj_rests-or {a = a} {b = b} {ts = ts} {us = us} {vs = vs} d0 d1) fit = refl
before (disj_rests-none {ts = ts}) fit = (weaker ts 1 2 refl fit)
before (disj-whole {a = a} {b = b} {ts = ts} {us = us} {vs = vs} d0 d1) fit = tt
before (expr-if {a = a} {b = b} {c = c} {d = d} {g = g} {ts = ts} {us = us} {vs = vs} {ws = ws} {xs = xs} {ys = ys} d0 d1 d2 d3 d4) fit = tt
before (expr-plain {a = a} {ts = ts} {us = us} d0) fit = tt
before (stage-map {a = a} {ts = ts} {us = us} d0) fit = tt
before (stage-filter {a = a} {ts = ts} {us = us} d0) fit = tt
before (stage-flat_map {a = a} {ts = ts} {us = us} d0) fit = tt
before (stage-join {a = a} {ts = ts} {us = us} d0) fit = tt
before (stages-bar {a = a} {b = b} {ts = ts} {us = us} {vs = vs} d0 d1) fit = refl
before (stages-none {ts = ts}) fit = (weaker ts 0 1 refl fit)
before (head-name {n = n} {ts = ts}) fit = tt
before (head-merge {a = a} {b = b} {c = c} {d = d} {g = g} {ts = ts} {us = us} {vs = vs} {ws = ws} {xs = xs} {ys = ys} d0 d1 d2 d3 d4) fit = tt
before (stream-whole {a = a} {b = b} {ts = ts} {us = us} {vs = vs} d0 d1) fit = tt
before (store_stages-whole {a = a} {ts = ts} {us = us} d0) fit = refl
before (store_stage-map {a = a} {b = b} {ts = ts} {us = us} {vs = vs} d0 d1) fit = tt
before (store_stage-filter {a = a} {b = b} {ts = ts} {us = us} {vs = vs} d0 d1) fit = tt
before (store_stage-flat_map {a = a} {b = b} {ts = ts} {us = us} {vs = vs} d0 d1) fit = tt
before (store_stage-join {a = a} {b = b} {ts = ts} {us = us} {vs = vs} d0 d1) fit = tt
before (store_stage-sum {a = a} {ts = ts} {us = us} d0) fit = tt
before (statement-source {a = a} {b = b} {c = c} {ts = ts} {us = us} {vs = vs} {ws = ws} d0 d1 d2) fit = refl
before (statement-service {a = a} {b = b} {c = c} {d = d} {g = g} {h = h} {ts = ts} {us = us} {vs = vs} {ws = ws} {xs = xs} {ys = ys} {zs = zs} d0 d1 d2 d3 d4 d5) fit = refl
before (statement-let {a = a} {b = b} {c = c} {ts = ts} {us = us} {vs = vs} {ws = ws} d0 d1 d2) fit = refl
before (statement-store {a = a} {b = b} {c = c} {d = d} {ts = ts} {us = us} {vs = vs} {ws = ws} {xs = xs} d0 d1 d2 d3) fit = refl

pub low : (w : Keyword) (ts : List Token) → nat_lt (rank (t.keyword w ∷ ts)) 10 ≡ true
low k.Pair ts = refl
low k.Opt ts = refl
low k.List ts = refl
low k.If ts = refl
low k.Not ts = refl
low _ ts = refl

-- how a rule begins
pub starts : {r : Rule} {a : Tree r} {ts ws : List Token} → Derives r a ts ws → Begins (least r) ts
starts (from_word-it {ts = ts}) = tt
starts (then_word-it {ts = ts}) = tt
starts (else_word-it {ts = ts}) = tt
starts (open_paren-it {ts = ts}) = tt
starts (close_paren-it {ts = ts}) = tt
starts (comma-it {ts = ts}) = tt
starts (colon-it {ts = ts}) = tt
starts (arrow-it {ts = ts}) = tt
starts (assign-it {ts = ts}) = tt
starts (number-it {n = n} {ts = ts}) = tt
starts (positive-it {n = n} {ts = ts}) = tt
starts (a_name-it {n = n} {ts = ts}) = tt
starts (scalar-int {ts = ts}) = refl
starts (scalar-text {ts = ts}) = refl
starts (scalar-bool {ts = ts}) = refl
starts (batch-whole {a = a} {b = b} {c = c} {ts = ts} {us = us} {vs = vs} {ws = ws} d0 d1 d2) = tt
starts (start-minus {a = a} {ts = ts} {us = us} d0) = tt
starts (start-number {n = n} {ts = ts}) = tt
starts (field-name {n = n} {a = a} {b = b} {ts = ts} {us = us} {vs = vs} d0 d1) = refl
starts (field-keyword {w = w} {a = a} {b = b} {ts = ts} {us = us} {vs = vs} d0 d1) = low w ts
starts (fields-none {ts = ts}) = tt
starts (fields-some {a = a} {b = b} {ts = ts} {us = us} {vs = vs} d0 d1) = tt
starts (more_fields-none {ts = ts}) = tt
starts (more_fields-some {a = a} {b = b} {ts = ts} {us = us} {vs = vs} d0 d1) = tt
starts (mono-sum {ts = ts}) = tt
starts (mono-min {ts = ts}) = tt
starts (mono-max {ts = ts}) = tt
starts (mono-first {ts = ts}) = tt
starts (mono-last {ts = ts}) = tt
starts (mono-concat {ts = ts}) = tt
starts (mono-set {ts = ts}) = tt
starts (mono-top {a = a} {b = b} {c = c} {ts = ts} {us = us} {vs = vs} {ws = ws} d0 d1 d2) = tt
starts (mono-cms {a = a} {b = b} {c = c} {d = d} {g = g} {ts = ts} {us = us} {vs = vs} {ws = ws} {xs = xs} {ys = ys} d0 d1 d2 d3 d4) = tt
starts (mono-hll {a = a} {b = b} {c = c} {ts = ts} {us = us} {vs = vs} {ws = ws} d0 d1 d2) = tt
starts (mono-pair {a = a} {b = b} {c = c} {d = d} {g = g} {ts = ts} {us = us} {vs = vs} {ws = ws} {xs = xs} {ys = ys} d0 d1 d2 d3 d4) = tt
starts (mono-map {a = a} {b = b} {c = c} {ts = ts} {us = us} {vs = vs} {ws = ws} d0 d1 d2) = tt
starts (a_type-pair {a = a} {b = b} {c = c} {d = d} {g = g} {ts = ts} {us = us} {vs = vs} {ws = ws} {xs = xs} {ys = ys} d0 d1 d2 d3 d4) = tt
starts (a_type-opt {a = a} {b = b} {c = c} {ts = ts} {us = us} {vs = vs} {ws = ws} d0 d1 d2) = tt
starts (a_type-list {a = a} {b = b} {c = c} {d = d} {g = g} {ts = ts} {us = us} {vs = vs} {ws = ws} {xs = xs} {ys = ys} d0 d1 d2 d3 d4) = tt
starts (a_type-scalar {a = a} {ts = ts} {us = us} d0) = tt
starts (atom-int {n = n} {ts = ts}) = refl
starts (atom-text {value = value} {ts = ts}) = refl
starts (atom-true {ts = ts}) = refl
starts (atom-false {ts = ts}) = refl
starts (atom-it {ts = ts}) = refl
starts (atom-group {a = a} {b = b} {ts = ts} {us = us} {vs = vs} d0 d1) = refl
starts (atom-list {a = a} {b = b} {ts = ts} {us = us} {vs = vs} d0 d1) = refl
starts (atom-empty {a = a} {b = b} {c = c} {ts = ts} {us = us} {vs = vs} {ws = ws} d0 d1 d2) = refl
starts (atom-none {a = a} {b = b} {c = c} {ts = ts} {us = us} {vs = vs} {ws = ws} d0 d1 d2) = refl
starts (atom-some {a = a} {b = b} {c = c} {ts = ts} {us = us} {vs = vs} {ws = ws} d0 d1 d2) = refl
starts (atom-orelse {a = a} {b = b} {c = c} {d = d} {g = g} {ts = ts} {us = us} {vs = vs} {ws = ws} {xs = xs} {ys = ys} d0 d1 d2 d3 d4) = refl
starts (atom-has {a = a} {b = b} {c = c} {ts = ts} {us = us} {vs = vs} {ws = ws} d0 d1 d2) = refl
starts (atom-lower {a = a} {b = b} {c = c} {ts = ts} {us = us} {vs = vs} {ws = ws} d0 d1 d2) = refl
starts (atom-words {a = a} {b = b} {c = c} {d = d} {g = g} {ts = ts} {us = us} {vs = vs} {ws = ws} {xs = xs} {ys = ys} d0 d1 d2 d3 d4) = refl
starts (atom-len {a = a} {b = b} {c = c} {ts = ts} {us = us} {vs = vs} {ws = ws} d0 d1 d2) = refl
starts (atom-starts {a = a} {b = b} {c = c} {d = d} {g = g} {ts = ts} {us = us} {vs = vs} {ws = ws} {xs = xs} {ys = ys} d0 d1 d2 d3 d4) = refl
starts (group_end-close {ts = ts}) = tt
starts (group_end-second {a = a} {b = b} {ts = ts} {us = us} {vs = vs} d0 d1) = tt
starts (list_end-close {ts = ts}) = tt
starts (list_end-more {a = a} {b = b} {ts = ts} {us = us} {vs = vs} d0 d1) = tt
starts (post_step-name {n = n} {ts = ts}) = tt
starts (post_step-keyword {w = w} {ts = ts}) = tt
starts (post_step-first {ts = ts}) = tt
starts (post_step-second {ts = ts}) = tt
starts (post_steps-dot {a = a} {b = b} {ts = ts} {us = us} {vs = vs} d0 d1) = tt
starts (post_steps-none {ts = ts}) = tt
starts (post-whole {a = a} {b = b} {ts = ts} {us = us} {vs = vs} d0 d1) = (starts d0)
starts (unary-minus {a = a} {ts = ts} {us = us} d0) = refl
starts (unary-plain {a = a} {ts = ts} {us = us} d0) = (looser ts 0 1 refl (starts d0))
starts (prod_rests-times {a = a} {b = b} {ts = ts} {us = us} {vs = vs} d0 d1) = tt
starts (prod_rests-over {a = a} {b = b} {ts = ts} {us = us} {vs = vs} d0 d1) = tt
starts (prod_rests-modulo {a = a} {b = b} {ts = ts} {us = us} {vs = vs} d0 d1) = tt
starts (prod_rests-none {ts = ts}) = tt
starts (prod-whole {a = a} {b = b} {ts = ts} {us = us} {vs = vs} d0 d1) = (starts d0)
starts (add_rests-plus {a = a} {b = b} {ts = ts} {us = us} {vs = vs} d0 d1) = tt
starts (add_rests-minus {a = a} {b = b} {ts = ts} {us = us} {vs = vs} d0 d1) = tt
starts (add_rests-none {ts = ts}) = tt
starts (add-whole {a = a} {b = b} {ts = ts} {us = us} {vs = vs} d0 d1) = (starts d0)
starts (comparison-equal {a = a} {ts = ts} {us = us} d0) = tt
starts (comparison-unequal {a = a} {ts = ts} {us = us} d0) = tt
starts (comparison-less {a = a} {ts = ts} {us = us} d0) = tt
starts (comparison-at_most {a = a} {ts = ts} {us = us} d0) = tt
starts (comparison-greater {a = a} {ts = ts} {us = us} d0) = tt
starts (comparison-at_least {a = a} {ts = ts} {us = us} d0) = tt
starts (comparison-none {ts = ts}) = tt
starts (cmp-whole {a = a} {b = b} {ts = ts} {us = us} {vs = vs} d0 d1) = (starts d0)
starts (neg-not {a = a} {ts = ts} {us = us} d0) = refl
starts (neg-plain {a = a} {ts = ts} {us = us} d0) = (looser ts 1 2 refl (starts d0))
starts (conj_rests-and {a = a} {b = b} {ts = ts} {us = us} {vs = vs} d0 d1) = tt
starts (conj_rests-none {ts = ts}) = tt
starts (conj-whole {a = a} {b = b} {ts = ts} {us = us} {vs = vs} d0 d1) = (starts d0)
starts (disj_rests-or {a = a} {b = b} {ts = ts} {us = us} {vs = vs} d0 d1) = tt
starts (disj_rests-none {ts = ts}) = tt
starts (disj-whole {a = a} {b = b} {ts = ts} {us = us} {vs = vs} d0 d1) = (starts d0)
starts (expr-if {a = a} {b = b} {c = c} {d = d} {g = g} {ts = ts} {us = us} {vs = vs} {ws = ws} {xs = xs} {ys = ys} d0 d1 d2 d3 d4) = tt
starts (expr-plain {a = a} {ts = ts} {us = us} d0) = tt
starts (stage-map {a = a} {ts = ts} {us = us} d0) = tt
starts (stage-filter {a = a} {ts = ts} {us = us} d0) = tt
starts (stage-flat_map {a = a} {ts = ts} {us = us} d0) = tt
starts (stage-join {a = a} {ts = ts} {us = us} d0) = tt
starts (stages-bar {a = a} {b = b} {ts = ts} {us = us} {vs = vs} d0 d1) = tt
starts (stages-none {ts = ts}) = tt
starts (head-name {n = n} {ts = ts}) = tt
starts (head-merge {a = a} {b = b} {c = c} {d = d} {g = g} {ts = ts} {us = us} {vs = vs} {ws = ws} {xs = xs} {ys = ys} d0 d1 d2 d3 d4) = tt
starts (stream-whole {a = a} {b = b} {ts = ts} {us = us} {vs = vs} d0 d1) = tt
starts (store_stages-whole {a = a} {ts = ts} {us = us} d0) = tt
starts (store_stage-map {a = a} {b = b} {ts = ts} {us = us} {vs = vs} d0 d1) = tt
starts (store_stage-filter {a = a} {b = b} {ts = ts} {us = us} {vs = vs} d0 d1) = tt
starts (store_stage-flat_map {a = a} {b = b} {ts = ts} {us = us} {vs = vs} d0 d1) = tt
starts (store_stage-join {a = a} {b = b} {ts = ts} {us = us} {vs = vs} d0 d1) = tt
starts (store_stage-sum {a = a} {ts = ts} {us = us} d0) = tt
starts (statement-source {a = a} {b = b} {c = c} {ts = ts} {us = us} {vs = vs} {ws = ws} d0 d1 d2) = tt
starts (statement-service {a = a} {b = b} {c = c} {d = d} {g = g} {h = h} {ts = ts} {us = us} {vs = vs} {ws = ws} {xs = xs} {ys = ys} {zs = zs} d0 d1 d2 d3 d4 d5) = tt
starts (statement-let {a = a} {b = b} {c = c} {ts = ts} {us = us} {vs = vs} {ws = ws} d0 d1 d2) = tt
starts (statement-store {a = a} {b = b} {c = c} {d = d} {ts = ts} {us = us} {vs = vs} {ws = ws} {xs = xs} d0 d1 d2 d3) = tt
