-- A text has at most one first wrong token, and a text of a program has none.
use Rattle.std.proofs.Common.{◌≡◌, ◌≤◌, ◌⊎◌, inl, inr, ℕ, ◌+◌, List, [], ◌∷◌, ◌++◌, length, Ok, refl, ap, sym, subst, ◌∙◌}
use Rattle.std.proofs.Common.{append_assoc, append-nil, length-append, arith}
use Rattle.std.specs.List.{AllByRecursion}
use Rattle.std.proofs.lemmas.List.{append_cancel_left, append_cancel_right}
use Rattle.sb_tokens.specs.Token.{Token}
use Rattle.sb_tokens.specs.Lexed.{Lexed, Ending, ends, bad}
use Rattle.sb_grammar.specs.declared.code.Code.{Code}
use Rattle.sb_grammar.specs.declared.code.Code.TheVariants as code
use Rattle.sb_grammar.specs.declared.programs.Program.{Program}
use Rattle.sb_grammar.specs.declared.programs.Statement.{Statement}
use Rattle.sb_grammar.specs.Grammar.{Rule, Tree, batch, statement}
use Rattle.sb_grammar.specs.Program.{joined, StatementsAre, IsProgram, IsShort, IsWhole, tokens_at, IsTextIn, begun, Begins, BeginNone, IsFault, FaultIn}
use Rattle.sb_grammar.proofs.Whole.{all_alone}
use Rattle.sb_grammar.proofs.Unique.{fits, both}
use Rattle.sb_grammar.proofs.Fronts.{Front, cut_at, SameNext, same_next, rule_of, reads_on}

-- ---- where statements end

-- lists of tokens that are read one behind the other: the first by this rule, the others as statements
abbrev Divides : Rule → List (List Token) → Type 0
Divides r [] = Unit {0}
Divides r (ts ∷ tss) = (a : Tree r) × (rule_of r (ts ++ joined tss) ≡ Ok (a, joined tss, tt)) × Divides statement tss

divided_statements : (list : List Statement) (tss : List (List Token)) → StatementsAre list tss → Divides statement tss
divided_statements [] [] are = tt
divided_statements [] (ts ∷ tss) are = absurd are
divided_statements (a ∷ list) [] are = absurd are
divided_statements (a ∷ list) (ts ∷ tss) are = (a, all_alone are.0 (fits list tss are.1), divided_statements list tss are.1)

divided : (p : Program) (tss : List (List Token)) → IsProgram p tss → Divides batch tss
divided p [] is = absurd is
divided p (ts ∷ tss) is = ((p.length, (p.minus, p.from)), all_alone is.0 tt, divided_statements p.statements tss is.1)

joined_cut : (whole : List (List Token)) (part others : List Token) (behind : List (List Token)) → joined (whole ++ (part ++ others) ∷ behind)
    ≡ (joined whole ++ part) ++ (others ++ joined behind)
joined_cut [] part others behind = append_assoc part others (joined behind)
joined_cut (ts ∷ whole) part others behind =
    let rest = others ++ joined behind in
    ap (λ l. ts ++ l) (joined_cut whole part others behind) ∙ sym (append_assoc ts (joined whole ++ part) rest) ∙ ap (λ l. l ++ rest)
    (sym (append_assoc ts (joined whole) part))

three : (s w p v : List Token) → ((s ++ w) ++ p) ++ v ≡ s ++ ((w ++ p) ++ v)
three s w p v = ap (λ l. l ++ v) (append_assoc s w p) ∙ append_assoc s (w ++ p) v

-- the first part ends at the same token, where the next one is the same
same_first : (r : Rule) (s : List Token) (whole : List (List Token)) (part : List Token) (x : Token) (after : List Token)
    (behind : List (List Token)) (a : Tree r) → rule_of r (s ++ joined (whole ++ (part ++ x ∷ after) ∷ behind)) ≡ Ok
    (a, joined (whole ++ (part ++ x ∷ after) ∷ behind), tt)
    → (us w : List Token) (b : Tree r) → rule_of r (us ++ w) ≡ Ok (b, w, tt) → (more : List Token) → us ++ w ≡ ((s ++ joined whole) ++ part)
    ++ x ∷ more → us ≡ s
same_first r s whole part x after behind a e us w b f more same =
    let v = joined (whole ++ (part ++ x ∷ after) ∷ behind) in
    let m = (joined whole ++ part) ++ x ∷ more in
    let next : SameNext v m = subst (λ l. SameNext l m) (sym (joined_cut whole part (x ∷ after) behind)) (same_next (joined whole ++ part) x
    (after ++ joined behind) more) in
    let lists : us ++ w ≡ s ++ m = same ∙ three s (joined whole) part (x ∷ more) in
    let reads = both (rule_of r (us ++ w)) (b, w, tt) (a, m, tt) f (ap (rule_of r) lists ∙ reads_on r a s v m e next) in
    append_cancel_right us s w (lists ∙ ap (λ l. s ++ l) (sym (ap (λ y. y.1) reads)))

too_long : {C : Type 0} (v xs : List Token) (x : Token) (after : List Token) → v ≡ xs ++ x ∷ (after ++ v) → C
too_long v xs x after h =
    let e = ap length h in
    let l = length-append xs (x ∷ (after ++ v)) in
    let k = length-append after v in
    absurd (omega (arith, e, l, k))

-- the first part goes on with x, where it does so with the same tokens before
goes_on : (r : Rule) (part : List Token) (x : Token) (after v : List Token) (a : Tree r) → rule_of r ((part ++ x ∷ after) ++ v) ≡ Ok (a, v, tt)
    → (us w : List Token) (b : Tree r) → rule_of r (us ++ w) ≡ Ok (b, w, tt) → (more : List Token) → us ++ w ≡ part ++ x ∷ more
    → Front us part ⊎ Front (part ++ x ∷ []) us → Front (part ++ x ∷ []) us
goes_on r part x after v a e us w b f more same (inr g) = g
goes_on r part x after v a e us w b f more same (inl g) =
    let behind : w ≡ g.more ++ x ∷ more = append_cancel_left us w (g.more ++ x ∷ more) (same ∙ ap (λ l. l ++ x ∷ more) g.is
    ∙ append_assoc us g.more (x ∷ more)) in
    let m = g.more ++ x ∷ (after ++ v) in
    let next : SameNext w m = subst (λ l. SameNext l m) (sym behind) (same_next g.more x more (after ++ v)) in
    let lists : (part ++ x ∷ after) ++ v ≡ us ++ m = append_assoc part (x ∷ after) v ∙ ap (λ l. l ++ x ∷ (after ++ v)) g.is
    ∙ append_assoc us g.more (x ∷ (after ++ v)) in
    let reads = both (rule_of r ((part ++ x ∷ after) ++ v)) (a, v, tt) (b, m, tt) e (ap (rule_of r) lists ∙ reads_on r b us w m f next) in
    too_long v g.more x after (ap (λ y. y.1) reads)

-- the part with x, and more, is one of the whole ones
record Within (whole : List (List Token)) (part : List Token) (x : Token) (others : List (List Token)) : Type 0 where
  rest : List Token
  later : List (List Token)
  is : others ≡ whole ++ ((part ++ x ∷ []) ++ rest) ∷ later

-- x goes on with the part behind the whole ones
record Last (whole : List (List Token)) (part : List Token) (x : Token) (more : List Token) (others : List (List Token)) (last : List Token)
    : Type 0 where
  same : others ≡ whole
  is : last ≡ part ++ x ∷ more

abbrev Holds : List (List Token) → List Token → Token → List Token → List (List Token) → List Token → Type 0
Holds whole part x more others last = Within whole part x others ⊎ Last whole part x more others last

behind_one : (s u : List Token) (whole : List (List Token)) (part : List Token) (x : Token) (more : List Token) (others : List (List Token))
    (last : List Token) → u ≡ s → Holds whole part x more others last → Holds (s ∷ whole) part x more (u ∷ others) last
behind_one s u whole part x more others last same (inl h) = inl (record {
  rest = h.rest;
  later = h.later;
  is = ap (λ l. l ∷ others) same ∙ ap (λ l. s ∷ l) h.is;
})
behind_one s u whole part x more others last same (inr h) = inr (record { same = ap (λ l. l ∷ others) same ∙ ap (λ l. s ∷ l) h.same; is = h.is })

-- The parts of one list are told by its tokens up to x: where x goes on with a part of one list, it does so in another
-- with the same tokens.
holds : (r : Rule) (whole : List (List Token)) (part : List Token) (x : Token) (after : List Token) (behind : List (List Token)) → Divides r
    (whole ++ (part ++ x ∷ after) ∷ behind)
    → (others : List (List Token)) (last after' : List Token) (behind' : List (List Token)) → Divides r (others ++ (last ++ after') ∷ behind')
    → (more : List Token) → (joined whole ++ part) ++ x ∷ more ≡ joined others ++ last → Holds whole part x more others last
holds r [] part x after behind p [] last after' behind' q more same = inr (record { same = refl; is = sym same })
holds r [] part x after behind p (u ∷ others) last after' behind' q more same =
    let w = joined (others ++ (last ++ after') ∷ behind') in
    let rest = after' ++ joined behind' in
    let lists : u ++ w ≡ part ++ x ∷ (more ++ rest) = joined_cut (u ∷ others) last after' behind' ∙ ap (λ l. l ++ rest) (sym same)
    ∙ append_assoc part (x ∷ more) rest in
    let f = goes_on r part x after (joined behind) p.0 p.1 u w q.0 q.1 (more ++ rest) lists (cut_at u part w (more ++ rest) x lists) in
    inl (record { rest = f.more; later = others; is = ap (λ l. l ∷ others) f.is })
holds r (s ∷ whole) part x after behind p [] last after' behind' q more same =
    let front = (s ++ joined whole) ++ part in
    let rest = after' ++ joined behind' in
    let lists : (last ++ after') ++ joined behind' ≡ front ++ x ∷ (more ++ rest) = append_assoc last after' (joined behind')
    ∙ ap (λ l. l ++ rest) (sym same) ∙ append_assoc front (x ∷ more) rest in
    let first = ap length (same_first r s whole part x after behind p.0 p.1 (last ++ after') (joined behind') q.0 q.1 (more ++ rest) lists) in
    let size = ap length same in
    let a = length-append last after' in
    let b = length-append front (x ∷ more) in
    let c = length-append (s ++ joined whole) part in
    let d = length-append s (joined whole) in
    absurd (omega (arith, first, size, a, b, c, d))
holds r (s ∷ whole) part x after behind p (u ∷ others) last after' behind' q more same =
    let front = (s ++ joined whole) ++ part in
    let w = joined (others ++ (last ++ after') ∷ behind') in
    let rest = after' ++ joined behind' in
    let lists : u ++ w ≡ front ++ x ∷ (more ++ rest) = joined_cut (u ∷ others) last after' behind' ∙ ap (λ l. l ++ rest) (sym same)
    ∙ append_assoc front (x ∷ more) rest in
    let first : u ≡ s = same_first r s whole part x after behind p.0 p.1 u w q.0 q.1 (more ++ rest) lists in
    let tail : (joined whole ++ part) ++ x ∷ more ≡ joined others ++ last = append_cancel_left s ((joined whole ++ part) ++ x ∷ more)
    (joined others ++ last) (sym (three s (joined whole) part (x ∷ more)) ∙ same ∙ append_assoc u (joined others) last
    ∙ ap (λ l. l ++ (joined others ++ last)) first) in
    behind_one s u whole part x more others last first (holds statement whole part x after behind p.2 others last after' behind' q.2 more tail)

-- ---- limits

all_at : (xs : List (List Token)) (ys : List Token) (zs : List (List Token)) → AllByRecursion IsShort (xs ++ ys ∷ zs) → IsShort ys
all_at [] ys zs h = h.0
all_at (x ∷ xs) ys zs h = all_at xs ys zs h.1

all_before : (xs : List (List Token)) (ys : List Token) (zs : List (List Token)) → AllByRecursion IsShort (xs ++ ys ∷ zs) → AllByRecursion IsShort xs
all_before [] ys zs h = tt
all_before (x ∷ xs) ys zs h = (h.0, all_before xs ys zs h.1)

begun_least : (whole : List (List Token)) (part : List Token) → length whole ≤ begun whole part
begun_least whole [] = omega arith
begun_least whole (x ∷ part) = omega arith

begun_most : (whole : List (List Token)) (part : List Token) → begun whole part ≤ length whole + 1
begun_most whole [] = omega arith
begun_most whole (x ∷ part) = omega arith

begun_with : (whole : List (List Token)) (part : List Token) (ts : List Token) (x : Token) (more : List Token) → part ≡ ts ++ x ∷ more → begun whole
    part ≡ length whole + 1
begun_with whole [] [] x more h = cc
begun_with whole [] (y ∷ ts) x more h = cc
begun_with whole (z ∷ part) ts x more h = refl

-- no statement goes on with a 257th token
none_long : {C : Type 0} (whole : List (List Token)) (part : List Token) (x : Token) (more : List Token) (others : List (List Token)) (last : List Token)
    → length part ≡ 256 → AllByRecursion IsShort others → IsShort last → Holds whole part x more others last → C
none_long whole part x more others last full short short_last (inl h) =
    let one = all_at whole ((part ++ x ∷ []) ++ h.rest) h.later (subst (AllByRecursion IsShort) h.is short) in
    let a = length-append (part ++ x ∷ []) h.rest in
    let b = length-append part (x ∷ []) in
    absurd (omega (arith, full, one, a, b))
none_long whole part x more others last full short short_last (inr h) =
    let one = subst IsShort h.is short_last in
    let a = length-append part (x ∷ more) in
    absurd (omega (arith, full, one, a))

-- nothing begins statement 257
none_many : {C : Type 0} (whole : List (List Token)) (part : List Token) (x : Token) (more : List Token) (others : List (List Token)) (last : List Token)
    → length whole ≡ 256 → begun others last ≤ 256 → Holds whole part x more others last → C
none_many whole part x more others last full few (inl h) =
    let a = length-append whole (((part ++ x ∷ []) ++ h.rest) ∷ h.later) in
    let b = ap length h.is in
    let c = begun_least others last in
    absurd (omega (arith, full, few, a, b, c))
none_many whole part x more others last full few (inr h) =
    let a = ap length h.same in
    let b = begun_with others last part x more h.is in
    absurd (omega (arith, full, few, a, b))

-- ---- the first wrong token

abbrev parts_of : {ts others : List Token} → Begins ts others → List (List Token)
parts_of {others = others} b = b.whole ++ (b.part ++ others) ∷ b.behind

all_tokens : (ts others : List Token) (b : Begins ts others) → joined (parts_of b) ≡ ts ++ (others ++ joined b.behind)
all_tokens ts others b = joined_cut b.whole b.part others b.behind ∙ ap (λ l. l ++ (others ++ joined b.behind)) (sym b.tokens)

-- where x is next in a program, it holds in the same part as in another that goes on with it
next_holds : (ts others : List Token) (b : Begins ts others) (x : Token) (after : List Token) → others ≡ x ∷ after
    → (more others' : List Token) (c : Begins (ts ++ x ∷ more) others') → Holds b.whole b.part x more c.whole c.part
next_holds ts others b x after same more others' c =
    holds batch b.whole b.part x after b.behind (subst (λ l. Divides batch (b.whole ++ (b.part ++ l) ∷ b.behind)) same (divided b.program
    (parts_of b) b.is_program)) c.whole c.part others' c.behind (divided c.program (parts_of c) c.is_program) more
    (ap (λ l. l ++ x ∷ more) (sym b.tokens) ∙ c.tokens)

-- no program within the limits goes on with a wrong token
is_wrong : {C : Type 0} (why : Code) (size offset : ℕ) (ts others : List Token) (b : Begins ts others) (place : ℕ × Token)
    (rest : List (ℕ × Token)) (ending : Ending) → IsFault why size offset ts others b (place ∷ rest) ending
    → (more others' : List Token) → Begins (ts ++ place.1 ∷ more) others' → C
is_wrong code.BadToken size offset ts others b place rest ending h more others' c = absurd h
is_wrong code.End size offset ts others b place rest ending h more others' c = absurd h
is_wrong code.Unexpected size offset ts others b place rest ending h more others' c =
    let behind = others' ++ joined c.behind in
    absurd (h.1 c.program (parts_of c) (more ++ behind) c.is_program (all_tokens (ts ++ place.1 ∷ more) others' c
    ∙ append_assoc ts (place.1 ∷ more) behind ∙ sym (append_assoc ts (place.1 ∷ []) (more ++ behind))))
is_wrong code.Long size offset ts others b place rest ending h more others' c =
    none_long b.whole b.part place.1 more c.whole c.part h.1 c.short c.short_part (next_holds ts others b place.1 h.2 h.3 more others' c)
is_wrong code.Many size offset ts others b place rest ending h more others' c =
    none_many b.whole b.part place.1 more c.whole c.part h.2 c.few (next_holds ts others b place.1 h.3 h.4 more others' c)

-- a token with which no program goes on is next in none
not_next : {C : Type 0} (ts others : List Token) (b : Begins ts others) (x : Token) (after : List Token) → others ≡ x ∷ after → BeginNone
    (ts ++ x ∷ []) → C
not_next ts others b x after same none =
    let behind = joined b.behind in
    absurd (none b.program (parts_of b) (after ++ behind) b.is_program (all_tokens ts others b ∙ ap (λ l. ts ++ (l ++ behind)) same
    ∙ sym (append_assoc ts (x ∷ []) (after ++ behind))))

-- a token of a statement that is full begins none
not_both : {C : Type 0} (ts others others' : List Token) (b : Begins ts others) (c : Begins ts others') (x : Token) (after after' : List Token)
    → others ≡ x ∷ after → others' ≡ x ∷ after' → length b.part ≡ 256 → c.part ≡ [] → C
not_both ts others others' b c x after after' same same' full begins =
    let one : length (c.part ++ x ∷ []) ≡ 1 = ap (λ l. length (l ++ x ∷ [])) begins in
    let parts : others' ≡ x ∷ after' → Divides batch (c.whole ++ ((c.part ++ x ∷ []) ++ after') ∷ c.behind) = λ e. subst (λ l. Divides batch
    (c.whole ++ l ∷ c.behind)) (ap (λ l. c.part ++ l) e ∙ sym (append_assoc c.part (x ∷ []) after')) (divided c.program
    (parts_of c) c.is_program) in
    let tokens : (joined b.whole ++ b.part) ++ x ∷ [] ≡ joined c.whole ++ (c.part ++ x ∷ []) = ap (λ l. l ++ x ∷ []) (sym b.tokens ∙ c.tokens)
    ∙ append_assoc (joined c.whole) c.part (x ∷ []) in
    none_long b.whole b.part x [] c.whole (c.part ++ x ∷ []) full c.short (omega (arith, one))
    (holds batch b.whole b.part x after b.behind (subst (λ l. Divides batch (b.whole ++ (b.part ++ l) ∷ b.behind)) same (divided b.program
    (parts_of b) b.is_program)) c.whole (c.part ++ x ∷ []) after' c.behind (parts same') [] tokens)

offset_of : (why : Code) (size offset : ℕ) (ts others : List Token) (b : Begins ts others) (place : ℕ × Token) (rest : List (ℕ × Token))
    (ending : Ending) → IsFault why size offset ts others b (place ∷ rest) ending → offset ≡ place.0
offset_of code.BadToken size offset ts others b place rest ending h = absurd h
offset_of code.End size offset ts others b place rest ending h = absurd h
offset_of code.Unexpected size offset ts others b place rest ending h = h.0
offset_of code.Long size offset ts others b place rest ending h = h.0
offset_of code.Many size offset ts others b place rest ending h = h.0

one_code : (why why' : Code) (size offset offset' : ℕ) (ts others others' : List Token) (b : Begins ts others) (c : Begins ts others')
    (place : ℕ × Token) (rest : List (ℕ × Token)) (ending : Ending) → IsFault why size offset ts others b (place ∷ rest) ending
    → IsFault why' size offset' ts others' c (place ∷ rest) ending → why ≡ why'
one_code code.BadToken w size o o' ts us us' b c place rest ending h k = absurd h
one_code code.End w size o o' ts us us' b c place rest ending h k = absurd h
one_code code.Unexpected code.BadToken size o o' ts us us' b c place rest ending h k = absurd k
one_code code.Unexpected code.End size o o' ts us us' b c place rest ending h k = absurd k
one_code code.Unexpected code.Unexpected size o o' ts us us' b c place rest ending h k = refl
one_code code.Unexpected code.Long size o o' ts us us' b c place rest ending h k = not_next ts us' c place.1 k.2 k.3 h.1
one_code code.Unexpected code.Many size o o' ts us us' b c place rest ending h k = not_next ts us' c place.1 k.3 k.4 h.1
one_code code.Long code.BadToken size o o' ts us us' b c place rest ending h k = absurd k
one_code code.Long code.End size o o' ts us us' b c place rest ending h k = absurd k
one_code code.Long code.Unexpected size o o' ts us us' b c place rest ending h k = not_next ts us b place.1 h.2 h.3 k.1
one_code code.Long code.Long size o o' ts us us' b c place rest ending h k = refl
one_code code.Long code.Many size o o' ts us us' b c place rest ending h k = not_both ts us us' b c place.1 h.2 k.3 h.3 k.4 h.1 k.1
one_code code.Many code.BadToken size o o' ts us us' b c place rest ending h k = absurd k
one_code code.Many code.End size o o' ts us us' b c place rest ending h k = absurd k
one_code code.Many code.Unexpected size o o' ts us us' b c place rest ending h k = not_next ts us b place.1 h.3 h.4 k.1
one_code code.Many code.Long size o o' ts us us' b c place rest ending h k = not_both ts us' us c b place.1 k.2 h.3 k.3 h.4 k.1 h.1
one_code code.Many code.Many size o o' ts us us' b c place rest ending h k = refl

-- what is wrong where no token is left
abbrev why_at : Ending → Code
why_at (ends _) = code.End
why_at (bad _) = code.BadToken

abbrev where_at : Ending → ℕ → ℕ
where_at (ends _) size = size
where_at (bad offset) size = offset

same_offset : (o o' : ℕ) → bad o ≡ bad o' → o' ≡ o
same_offset o o' h = cc

not_bad : {C : Type 0} (o o' : ℕ) → ends o ≡ bad o' → C
not_bad o o' h = cc

at_end : (why : Code) (size offset : ℕ) (ts others : List Token) (b : Begins ts others) (ending : Ending) → IsFault why size offset ts others b []
    ending → (offset ≡ where_at ending size) × (why ≡ why_at ending)
at_end code.BadToken size offset ts others b (ends o) h = not_bad o offset h
at_end code.BadToken size offset ts others b (bad o) h = (same_offset o offset h, refl)
at_end code.End size offset ts others b (ends o) h = (h.1, refl)
at_end code.End size offset ts others b (bad o) h = absurd h.0
at_end code.Unexpected size offset ts others b ending h = absurd h
at_end code.Long size offset ts others b ending h = absurd h
at_end code.Many size offset ts others b ending h = absurd h

-- ---- two of them in one text

-- two cuts of a list: in one place, or one before the other
data Cuts (A : Type 0) (xs v ys w : List A) : Type 0 where
  one : xs ≡ ys → v ≡ w → Cuts A xs v ys w
  first : (x : A) (more : List A) → v ≡ x ∷ (more ++ w) → ys ≡ xs ++ x ∷ more → Cuts A xs v ys w
  second : (x : A) (more : List A) → w ≡ x ∷ (more ++ v) → xs ≡ ys ++ x ∷ more → Cuts A xs v ys w

cuts_behind : {A : Type 0} (x y : A) (xs v ys w : List A) → x ≡ y → Cuts A xs v ys w → Cuts A (x ∷ xs) v (y ∷ ys) w
cuts_behind x y xs v ys w same (one e f) = one (ap (λ z. z ∷ xs) same ∙ ap (λ l. y ∷ l) e) f
cuts_behind x y xs v ys w same (first z more e f) = first z more e (ap (λ z. z ∷ ys) (sym same) ∙ ap (λ l. x ∷ l) f)
cuts_behind x y xs v ys w same (second z more e f) = second z more e (ap (λ z. z ∷ xs) same ∙ ap (λ l. y ∷ l) f)

cuts : {A : Type 0} (xs v ys w : List A) → xs ++ v ≡ ys ++ w → Cuts A xs v ys w
cuts [] v [] w same = one refl same
cuts [] v (y ∷ ys) w same = first y ys same refl
cuts (x ∷ xs) v [] w same = second x xs (sym same) refl
cuts (x ∷ xs) v (y ∷ ys) w same =
    let head : x ≡ y = cc in
    let tail : xs ++ v ≡ ys ++ w = cc in
    cuts_behind x y xs v ys w head (cuts xs v ys w tail)

abbrev Started : List (ℕ × Token) → Type 0
Started places = (others : List Token) × Begins (tokens_at places) others

tokens-append : (xs : List (ℕ × Token)) (y : ℕ × Token) (ys : List (ℕ × Token)) → tokens_at (xs ++ y ∷ ys) ≡ tokens_at xs ++ y.1 ∷ tokens_at ys
tokens-append [] y ys = refl
tokens-append (x ∷ xs) y ys = ap (λ l. x.1 ∷ l) (tokens-append xs y ys)

-- no program within the limits has the tokens up to the wrong one
none_further : {C : Type 0} (text : Lexed) (size offset : ℕ) (why : Code) (f : FaultIn text size offset why) (x : ℕ × Token)
    (rest more : List (ℕ × Token)) → f.rest ≡ x ∷ rest → Started (f.before ++ x ∷ more) → C
none_further text size offset why f x rest more same b =
    is_wrong why size offset (tokens_at f.before) f.others f.begins x rest text.ending
    (subst (λ l. IsFault why size offset (tokens_at f.before) f.others f.begins l text.ending) same f.here) (tokens_at more) b.0
    (subst (λ l. Begins l b.0) (tokens-append f.before x more) b.1)

abbrev AreSame : ℕ → ℕ → Code → Code → Type 0
AreSame o o' why why' = (o ≡ o') × (why ≡ why')

one_here : (size o o' : ℕ) (why why' : Code) (ts others others' : List Token) (b : Begins ts others) (c : Begins ts others')
    (rest : List (ℕ × Token)) (ending : Ending) → IsFault why size o ts others b rest ending → IsFault why' size o' ts others' c rest ending
    → AreSame o o' why why'
one_here size o o' why why' ts others others' b c [] ending h k =
    let x = at_end why size o ts others b ending h in
    let y = at_end why' size o' ts others' c ending k in
    (x.0 ∙ sym y.0, x.1 ∙ sym y.1)
one_here size o o' why why' ts others others' b c (place ∷ rest) ending h k = (
  offset_of why size o ts others b place rest ending h ∙ sym (offset_of why' size o' ts others' c place rest ending k),
  one_code why why' size o o' ts others others' b c place rest ending h k,
)

abbrev Fault : Code → (size offset : ℕ) → (before rest : List (ℕ × Token)) → Ending → Type 0
Fault why size offset before rest ending = (others : List Token) × (b : Begins (tokens_at before) others) × IsFault why size offset
    (tokens_at before) others b rest ending

one_place : (size o o' : ℕ) (why why' : Code) (before rest : List (ℕ × Token)) (ending : Ending) → Fault why size o before rest ending
    → Fault why' size o' before rest ending → AreSame o o' why why'
one_place size o o' why why' before rest ending f g =
    one_here size o o' why why' (tokens_at before) f.0 g.0 f.1 g.1 rest ending f.2 g.2

compared : (text : Lexed) (size o o' : ℕ) (why why' : Code) (f : FaultIn text size o why) (g : FaultIn text size o' why') → Cuts (ℕ × Token)
    f.before f.rest g.before g.rest → AreSame o o' why why'
compared text size o o' why why' f g (one e k) =
    one_place size o o' why why' g.before g.rest text.ending
    (subst (λ l. Fault why size o l g.rest text.ending) e (subst (λ l. Fault why size o f.before l text.ending) k
    (f.others, f.begins, f.here))) (g.others, g.begins, g.here)
compared text size o o' why why' f g (first x more e k) =
    none_further text size o why f x (more ++ g.rest) more e (subst Started k (g.others, g.begins))
compared text size o o' why why' f g (second x more e k) =
    none_further text size o' why' g x (more ++ f.rest) more e (subst Started k (f.others, f.begins))

pub one_fault : (text : Lexed) (size o o' : ℕ) (why why' : Code) → FaultIn text size o why → FaultIn text size o' why' → AreSame o o' why why'
one_fault text size o o' why why' f g = compared text size o o' why why' f g (cuts f.before f.rest g.before g.rest (sym f.split ∙ g.split))

-- ---- a program's text

record LastOf (tss : List (List Token)) : Type 0 where
  front : List (List Token)
  last : List Token
  is : tss ≡ front ++ (last ++ []) ∷ []

last_of : (ts : List Token) (tss : List (List Token)) → LastOf (ts ∷ tss)
last_of ts [] = record { front = []; last = ts; is = ap (λ l. l ∷ []) (sym (append-nil ts)) }
last_of ts (us ∷ tss) =
    let l = last_of us tss in
    record { front = ts ∷ l.front; last = l.last; is = ap (λ x. ts ∷ x) l.is }

last_part : (p : Program) (tss : List (List Token)) → IsProgram p tss → LastOf tss
last_part p [] is = absurd is
last_part p (ts ∷ tss) is = last_of ts tss

text_begins : (p : Program) (text : Lexed) → IsTextIn p text → Begins (tokens_at text.tokens) []
text_begins p text t =
    let l = last_part p t.statements t.is_program in
    let short = subst (AllByRecursion IsShort) l.is t.short in
    let size = ap length l.is in
    let parts = length-append l.front ((l.last ++ []) ∷ []) in
    let most = begun_most l.front l.last in
    let few = t.few in
    record {
      program = p;
      whole = l.front;
      part = l.last;
      behind = [];
      is_program = subst (IsProgram p) l.is t.is_program;
      tokens = t.tokens ∙ ap joined l.is ∙ joined_cut l.front l.last [] [] ∙ append-nil (joined l.front ++ l.last);
      short = all_before l.front (l.last ++ []) [] short;
      short_part = subst IsShort (append-nil l.last) (all_at l.front (l.last ++ []) [] short);
      few = omega (arith, few, size, parts, most);
    }

none_at_end : (p : Program) (text : Lexed) → IsTextIn p text → (why : Code) (size offset : ℕ) (ts others : List Token) (b : Begins ts others)
    → tokens_at text.tokens ≡ ts → IsFault why size offset ts others b [] text.ending → ⊥
none_at_end p text t code.BadToken size offset ts others b same h = subst IsWhole h t.is_whole
none_at_end p text t code.End size offset ts others b same h = h.2 p t.statements t.is_program (sym t.tokens ∙ same)
none_at_end p text t code.Unexpected size offset ts others b same h = h
none_at_end p text t code.Long size offset ts others b same h = h
none_at_end p text t code.Many size offset ts others b same h = h

none_in : (p : Program) (text : Lexed) → IsTextIn p text → (size offset : ℕ) (why : Code) (f : FaultIn text size offset why)
    (rest : List (ℕ × Token)) → f.rest ≡ rest → ⊥
none_in p text t size offset why f [] same =
    none_at_end p text t why size offset (tokens_at f.before) f.others f.begins (ap tokens_at (f.split ∙ ap (λ l. f.before ++ l) same
    ∙ append-nil f.before)) (subst (λ l. IsFault why size offset (tokens_at f.before) f.others f.begins l text.ending) same f.here)
none_in p text t size offset why f (x ∷ rest) same =
    none_further text size offset why f x rest rest same (subst Started (f.split ∙ ap (λ l. f.before ++ l) same) ([], text_begins p text t))

pub no_fault : (p : Program) (text : Lexed) (size offset : ℕ) (why : Code) → IsTextIn p text → FaultIn text size offset why → ⊥
no_fault p text size offset why t f = none_in p text t size offset why f f.rest refl
