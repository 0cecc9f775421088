-- Statements up to the first fault.
use Rattle.std.proofs.Common.{◌≡◌, ◌≢◌, ◌+◌, ◌≤◌, ℕ, zero, suc, Bool, true, false, if◌then◌else◌, List, [], ◌∷◌, ◌++◌, length, Option, Some, None}
use Rattle.std.proofs.Common.{Ok, Err, refl, ap, sym, subst, ◌∙◌, append_assoc, append-nil, arith}
use Rattle.std.specs.List.{AllByRecursion}
use Rattle.std.proofs.lemmas.List.{append_cancel_right, map-append, length-map}
use Rattle.sb_tokens.specs.declared.keyword.Keyword.TheVariants as k
use Rattle.sb_tokens.specs.Token.{Token}
use Rattle.sb_tokens.specs.Token as t
use Rattle.sb_tokens.specs.Lexed.{Ending, ends, bad}
use Rattle.sb_grammar.specs.declared.code.Code.{Code}
use Rattle.sb_grammar.specs.declared.code.Code.TheVariants as code
use Rattle.sb_grammar.specs.declared.programs.Statement.{Statement}
use Rattle.sb_grammar.specs.Grammar.{Rule, Tree, Derives, statement, statement-source, statement-service, statement-let, statement-store}
use Rattle.sb_grammar.specs.Program.{joined, StatementsAre, IsShort, IsWhole, tokens_at, begun}
use Rattle.sb_grammar.proofs.Machine.{Forest, Next, step, ended, misfit}
use Rattle.sb_grammar.proofs.Instances.{some_forest, some_tokens, some_derived}
use Rattle.sb_grammar.proofs.Sound.{All, IsStep, is_step}
use Rattle.sb_grammar.proofs.Whole.{run, all_alone}
use Rattle.sb_grammar.proofs.Place as place
use Rattle.sb_grammar.proofs.Frames.{frame}
use Rattle.sb_grammar.proofs.Unique.{both, neither, fits, statement_of}
use Rattle.sb_syntax.specs.declared.fault.Fault.{Fault}
use Rattle.sb_syntax.specs.declared.fault.Fault.TheVariants.{NoMemory, Deep, Ended, Misfit, Spent}
use Rattle.sb_syntax.specs.Reading.{Input, Budget, Outcome, spend, ahead, refusal}
use Rattle.sb_syntax.specs.Statements as p
use Rattle.sb_syntax.specs.Programs.{Ends, code_at, code_of, stopped, is_done_at, is_done, begins_statement, fresh, one_more, statements}
use Rattle.sb_syntax.proofs.FollowStatements.{follows_statement}
use Rattle.sb_syntax.proofs.Says.{Took, Place, Says, SaysOf, says, no_room, spends}

-- ---- tokens of places

abbrev pub toks : List (ℕ × Token) → List Token
toks = tokens_at

pub toks-append : (xs ys : List (ℕ × Token)) → toks (xs ++ ys) ≡ toks xs ++ toks ys
toks-append xs ys = map-append (λ p. p.1) xs ys

pub toks-length : (xs : List (ℕ × Token)) → length (toks xs) ≡ length xs
toks-length xs = length-map xs (λ p. p.1)

-- ---- how statements begin

abbrev pub begins_of : List Token → Bool
begins_of [] = false
begins_of (x ∷ _) = begins_statement (Some x)

abbrev Opens : Rule → List Token → Type 0
Opens statement ts = begins_of ts ≡ true
Opens _ ts = Unit {0}

opens_any : {r : Rule} {a : Tree r} {ts us : List Token} → Derives r a ts us → Opens r ts
opens_any (statement-source d0 d1 d2) = refl
opens_any (statement-service d0 d1 d2 d3 d4 d5) = refl
opens_any (statement-let d0 d1 d2) = refl
opens_any (statement-store d0 d1 d2 d3) = refl
opens_any _ = tt

pub opens : (a : Statement) (ts us : List Token) → Derives statement a ts us → begins_of ts ≡ true
opens a ts us d = opens_any d

clash : {A : Type 0} (b : Bool) → b ≡ true → b ≡ false → A
clash b h k = cc

pub none_empty : {C : Type 0} (x : Token) (xs ts us : List Token) → [] ≡ xs ++ x ∷ ts → C
none_empty x [] ts us h = cc
none_empty x (y ∷ xs) ts us h = cc

-- ---- a statement that begins with a token

pub record Beginning (x : Token) : Type 0 where
  pub tree : Statement
  pub after : List Token
  pub derived : Derives statement tree (x ∷ after) []

from_step : (x : Token) (n : Next Statement) → step Statement (statement ∷ []) (λ f. f.0) x ≡ Some n → Beginning x
from_step x n e =
    let is = subst (IsStep Statement (statement ∷ []) (λ f. f.0) x) e (is_step Statement (statement ∷ []) (λ f. f.0) x) in
    let b = is (some_forest n.stack) (some_tokens n.stack []) [] (some_derived n.stack []) in
    record {
      tree = b.forest.0;
      after = some_tokens n.stack [];
      derived = subst (λ us. Derives statement b.forest.0
          (x ∷ some_tokens n.stack []) us) b.derived.2 b.derived.1;
    }

pub beginning : (x : Token) → begins_statement (Some x) ≡ true → Beginning x
beginning (t.keyword k.Source) h = from_step (t.keyword k.Source) _ refl
beginning (t.keyword k.Service) h = from_step (t.keyword k.Service) _ refl
beginning (t.keyword k.Let) h = from_step (t.keyword k.Let) _ refl
beginning (t.keyword k.Store) h = from_step (t.keyword k.Store) _ refl
beginning _ h = clash false h refl

abbrev some_beginning : Beginning (t.keyword k.Let)
some_beginning = beginning (t.keyword k.Let) refl

-- ---- what statements have to say

pub record Done (n : ℕ) (i : Input) (found all : List Statement) : Type 0 where
  pub added : List Statement
  pub parts : List (List Token)
  pub same : all ≡ found ++ added
  pub are : StatementsAre added parts
  pub tokens : toks i.places ≡ joined parts
  pub short : AllByRecursion IsShort parts
  pub few : length parts ≤ n
  pub is_whole : IsWhole i.budget.ending

-- no statements have these tokens, or begin with them
abbrev pub AreNone : List Token → Type 0
AreNone ts = (list : List Statement) (parts : List (List Token)) → StatementsAre list parts → joined parts ≢ ts

abbrev pub BeginNone : List Token → Type 0
BeginNone ts = (list : List Statement) (parts : List (List Token)) (after : List Token) → StatementsAre list parts → joined parts ≢ ts ++ after

abbrev pub Here : Code → (n : ℕ) (ts : List Token) (whole : List (List Token)) (part others : List Token) → List (ℕ × Token) → Ending → Type 0
Here code.BadToken n ts whole part others [] ending = (o : ℕ) × (ending ≡ bad o)
Here code.End n ts whole part others [] ending = IsWhole ending × AreNone ts
Here code.Unexpected n ts whole part others (place ∷ _) ending = BeginNone (ts ++ place.1 ∷ [])
Here code.Long n ts whole part others (place ∷ _) ending = (length part ≡ 256) × (after : List Token) × (others ≡ place.1 ∷ after)
Here code.Many n ts whole part others (place ∷ _) ending = (part ≡ []) × (length whole ≡ n) × (after : List Token) × (others ≡ place.1 ∷ after)
Here _ n ts whole part others _ ending = ⊥

pub record Stopped (n : ℕ) (i j : Input) (why : Code) : Type 0 where
  pub used : List (ℕ × Token)
  pub split : i.places ≡ used ++ j.places
  pub ending : j.budget.ending ≡ i.budget.ending
  pub list : List Statement
  pub whole : List (List Token)
  pub part : List Token
  pub others : List Token
  pub behind : List (List Token)
  pub are : StatementsAre list (whole ++ (part ++ others) ∷ behind)
  pub tokens : toks used ≡ joined whole ++ part
  pub short : AllByRecursion IsShort whole
  pub short_part : IsShort part
  pub few : begun whole part ≤ n
  pub here : Here why n (toks used) whole part others j.places j.budget.ending

abbrev pub SaysWhy : ℕ → Input → Option Code → Input → Type 0
SaysWhy n i None j = Unit {0}
SaysWhy n i (Some why) j = Stopped n i j why

abbrev pub SayAll : ℕ → List Statement → Input → Ends (List Statement) → Type 0
SayAll n found i (Ok p) = Done n i found p.0
SayAll n found i (Err e) = SaysWhy n i e.0 e.1

-- ---- no statement begins here

alone_are : (a : Statement) (ts : List Token) → Derives statement a ts [] → StatementsAre (a ∷ []) (ts ∷ [])
alone_are a ts d = (subst (λ l. Derives statement a l []) (sym (append-nil ts)) d, tt)

none_begin : (x : Token) → begins_statement (Some x) ≡ false → BeginNone (x ∷ [])
none_begin x h [] [] after are same = none_empty x [] after [] same
none_begin x h [] (ts ∷ parts) after are same = absurd are
none_begin x h (a ∷ list) [] after are same = absurd are
none_begin x h (a ∷ list) (ts ∷ parts) after are same = clash (begins_statement (Some x)) (subst (λ l. begins_of l ≡ true) same (opens a
    (ts ++ joined parts) (joined parts) are.0)) h

ended_at : (n : ℕ) (found : List Statement) (b : Budget) (e : Ending) → b.ending ≡ e → is_done_at [] e ≡ false → Stopped n
    (record { places = []; budget = b }) (record { places = []; budget = b }) (code_at [] e)
ended_at n found b (ends o) e done = clash true refl done
ended_at n found b (bad o) e done = record {
  used = [];
  split = refl;
  ending = refl;
  list = some_beginning.tree ∷ [];
  whole = [];
  part = [];
  others = t.keyword k.Let ∷ some_beginning.after;
  behind = [];
  are = alone_are some_beginning.tree (t.keyword k.Let ∷ some_beginning.after) some_beginning.derived;
  tokens = refl;
  short = tt;
  short_part = omega arith;
  few = omega arith;
  here = (o, e);
}

no_statement : (n : ℕ) (found : List Statement) (places : List (ℕ × Token)) (b : Budget) → is_done_at places b.ending ≡ false
    → begins_statement (ahead (record { places = places; budget = b })) ≡ false → SayAll n found (record { places = places; budget = b }) (stopped
    (refusal (record { places = places; budget = b })) (record { places = places; budget = b }))
unfolding ahead refusal code_of
no_statement n found [] b done begins = ended_at n found b b.ending refl done
no_statement n found (place ∷ places) b done begins = record {
  used = [];
  split = refl;
  ending = refl;
  list = some_beginning.tree ∷ [];
  whole = [];
  part = [];
  others = t.keyword k.Let ∷ some_beginning.after;
  behind = [];
  are = alone_are some_beginning.tree (t.keyword k.Let ∷ some_beginning.after) some_beginning.derived;
  tokens = refl;
  short = tt;
  short_part = omega arith;
  few = omega arith;
  here = none_begin place.1 begins;
}

-- ---- a statement that was read

abbrev SameNext : List (ℕ × Token) → List Token → Type 0
SameNext = place.SameNext (ℕ × Token) (λ p. p.1) Budget spend Statement

pub record Step (i : Input) (a : Statement) (j : Input) : Type 0 where
  pub used : List (ℕ × Token)
  pub split : i.places ≡ used ++ j.places
  pub ending : j.budget.ending ≡ i.budget.ending
  pub short : IsShort (toks used)
  pub derived : (vs : List Token) → Derives statement a (toks used ++ vs) vs
  pub again : (vs : List Token) → SameNext j.places vs → statement_of (toks used ++ vs) ≡ Ok (a, vs, tt)

step_of : (i : Input) (a : Statement) (j : Input) → Took statement (fresh i) a j → Step i a j
step_of i a j took =
    let all = took.behind.derived in
    let first : Derives statement a (toks i.places) all.0 = subst (λ x. Derives statement x (toks i.places) all.0) took.behind.makes all.1 in
    let whole : Derives statement a (toks i.places) (toks j.places) = subst (λ us. Derives statement a (toks i.places) us) all.2 first in
    let f = frame whole in
    let both_ways : toks took.used ++ toks j.places ≡ f.front [] ++ toks j.places = sym (toks-append took.used j.places) ∙ ap toks (sym took.split)
    ∙ f.is ∙ f.puts.puts (toks j.places) in
    let part : f.front [] ≡ toks took.used = sym (append_cancel_right (toks took.used) (f.front []) (toks j.places) both_ways) in
    let room = spends took.used (fresh i).budget j.budget took.spends in
    let size = toks-length took.used in
    record {
      used = took.used;
      split = took.split;
      ending = room.1;
      short = omega (arith, room.0, size);
      derived = λ vs. subst (λ l. Derives statement a l vs) (f.puts.puts vs ∙ ap (λ l. l ++ vs) part) (f.derived vs);
      again = took.again;
    }

-- ---- statements behind one that was read

pub record Rest (vs : List Token) : Type 0 where
  pub list : List Statement
  pub parts : List (List Token)
  pub are : StatementsAre list parts
  pub tokens : joined parts ≡ vs

rest_of : (i : Input) (a : Statement) (j : Input) (s : Step i a j) (vs : List Token) → SameNext j.places vs → (list : List Statement) (parts : List
    (List Token)) → StatementsAre list parts → joined parts ≡ toks s.used ++ vs → Rest vs
rest_of i a j s vs next [] [] are same = neither (statement_of []) (a, vs, tt) (ended, [], tt) (ap statement_of same ∙ s.again vs next) refl
rest_of i a j s vs next [] (ts ∷ parts) are same = absurd are
rest_of i a j s vs next (b ∷ list) [] are same = absurd are
rest_of i a j s vs next (b ∷ list) (ts ∷ parts) are same =
    let e = both (statement_of (ts ++ joined parts)) (b, joined parts, tt) (a, vs, tt) (all_alone are.0 (fits list parts are.1))
    (ap statement_of same ∙ s.again vs next) in
    record { list = list; parts = parts; are = are.1; tokens = ap (λ x. x.1) e }

same_end : (used : List (ℕ × Token)) → SameNext (used ++ []) (toks used)
same_end [] = tt
same_end (x ∷ used) = refl

same_next : (used : List (ℕ × Token)) (x : ℕ × Token) (rest : List (ℕ × Token)) (after : List Token) → SameNext (used ++ x ∷ rest)
    ((toks used ++ x.1 ∷ []) ++ after)
same_next [] x rest after = refl
same_next (y ∷ used) x rest after = refl

none_more : (i : Input) (a : Statement) (j : Input) (s : Step i a j) (used : List (ℕ × Token)) → j.places ≡ used ++ [] → AreNone (toks used)
    → AreNone (toks (s.used ++ used))
none_more i a j s used split none = λ list parts are same.
    let r = rest_of i a j s (toks used) (subst (λ l. SameNext l (toks used)) (sym split) (same_end used)) list parts are (same
    ∙ toks-append s.used used) in
    none r.list r.parts r.are r.tokens

front_of : (xs ys : List Token) (x : Token) (after : List Token) → ((xs ++ ys) ++ x ∷ []) ++ after ≡ xs ++ ((ys ++ x ∷ []) ++ after)
front_of xs ys x after = ap (λ l. l ++ after) (append_assoc xs ys (x ∷ [])) ∙ append_assoc xs (ys ++ x ∷ []) after

begin_more : (i : Input) (a : Statement) (j : Input) (s : Step i a j) (used : List (ℕ × Token)) (x : ℕ × Token) (rest : List (ℕ × Token))
    → j.places ≡ used ++ x ∷ rest → BeginNone (toks used ++ x.1 ∷ []) → BeginNone (toks (s.used ++ used) ++ x.1 ∷ [])
begin_more i a j s used x rest split none = λ list parts after are same.
    let vs = (toks used ++ x.1 ∷ []) ++ after in
    let r = rest_of i a j s vs (subst (λ l. SameNext l vs) (sym split) (same_next used x rest after)) list parts are
    (same ∙ ap (λ l. (l ++ x.1 ∷ []) ++ after) (toks-append s.used used) ∙ front_of (toks s.used) (toks used) x.1 after) in
    none r.list r.parts after r.are r.tokens

here_more : (n : ℕ) (i : Input) (a : Statement) (j : Input) (s : Step i a j) (why : Code) (used rest : List (ℕ × Token)) → j.places ≡ used ++ rest
    → (whole : List (List Token)) (part others : List Token) (ending : Ending) → Here why n (toks used) whole part others rest ending → Here why
    (suc n) (toks (s.used ++ used)) (toks s.used ∷ whole) part others rest ending
here_more n i a j s code.BadToken used [] split whole part others ending h = h
here_more n i a j s code.BadToken used (x ∷ rest) split whole part others ending h = absurd h
here_more n i a j s code.End used [] split whole part others ending h = (h.0, none_more i a j s used split h.1)
here_more n i a j s code.End used (x ∷ rest) split whole part others ending h = absurd h
here_more n i a j s code.Unexpected used [] split whole part others ending h = absurd h
here_more n i a j s code.Unexpected used (x ∷ rest) split whole part others ending h = begin_more i a j s used x rest split h
here_more n i a j s code.Long used [] split whole part others ending h = absurd h
here_more n i a j s code.Long used (x ∷ rest) split whole part others ending h = h
here_more n i a j s code.Many used [] split whole part others ending h = absurd h
here_more n i a j s code.Many used (x ∷ rest) split whole part others ending h = (h.0, ap suc h.1, h.2, h.3)

begun_more : (n : ℕ) (ts : List Token) (whole : List (List Token)) (part : List Token) → begun whole part ≤ n → begun (ts ∷ whole) part ≤ suc n
begun_more n ts whole [] h = omega (arith, h)
begun_more n ts whole (x ∷ part) h = omega (arith, h)

stopped_more : (n : ℕ) (i : Input) (a : Statement) (j k' : Input) (why : Code) → Step i a j → Stopped n j k' why → Stopped (suc n) i k' why
stopped_more n i a j k' why s st = record {
  used = s.used ++ st.used;
  split = s.split ∙ ap (λ l. s.used ++ l) st.split ∙ sym (append_assoc s.used st.used k'.places);
  ending = st.ending ∙ s.ending;
  list = a ∷ st.list;
  whole = toks s.used ∷ st.whole;
  part = st.part;
  others = st.others;
  behind = st.behind;
  are = (s.derived (joined (st.whole ++ (st.part ++ st.others) ∷ st.behind)), st.are);
  tokens = toks-append s.used st.used ∙ ap (λ l. toks s.used ++ l) st.tokens ∙ sym (append_assoc (toks s.used) (joined st.whole) st.part);
  short = (s.short, st.short);
  short_part = st.short_part;
  few = begun_more n (toks s.used) st.whole st.part st.few;
  here = here_more n i a j s why st.used k'.places st.split st.whole st.part st.others k'.budget.ending st.here;
}

done_more : (n : ℕ) (found : List Statement) (i : Input) (a : Statement) (j : Input) (all : List Statement) → Step i a j → Done n j
    (found ++ a ∷ []) all → Done (suc n) i found all
done_more n found i a j all s d = record {
  added = a ∷ d.added;
  parts = toks s.used ∷ d.parts;
  same = d.same ∙ append_assoc found (a ∷ []) d.added;
  are = (s.derived (joined d.parts), d.are);
  tokens = ap toks s.split ∙ toks-append s.used j.places ∙ ap (λ l. toks s.used ++ l) d.tokens;
  short = (s.short, d.short);
  few = omega (arith, d.few);
  is_whole = subst IsWhole s.ending d.is_whole;
}

why_more : (n : ℕ) (i : Input) (a : Statement) (j k' : Input) (why : Option Code) → Step i a j → SaysWhy n j why k' → SaysWhy (suc n) i why k'
why_more n i a j k' None s st = tt
why_more n i a j k' (Some why) s st = stopped_more n i a j k' why s st

say_more : (n : ℕ) (found : List Statement) (i : Input) (a : Statement) (j : Input) (o : Ends (List Statement)) → Step i a j → SayAll n
    (found ++ a ∷ []) j o → SayAll (suc n) found i o
say_more n found i a j (Ok p) s d = done_more n found i a j p.0 s d
say_more n found i a j (Err e) s st = why_more n i a j e.1 e.0 s st

-- ---- a statement in which reading stops

begun_one : (n : ℕ) (part : List Token) → begun [] part ≤ suc n
begun_one n [] = omega arith
begun_one n (x ∷ part) = omega arith

short_used : (used : List (ℕ × Token)) (m n : ℕ) → n + length used ≡ 256 → IsShort (toks used)
short_used used m n h = let size = toks-length used in omega (arith, h, size)

empty_used : (used : List (ℕ × Token)) → [] ≡ toks used → used ≡ []
empty_used [] h = refl
empty_used (x ∷ used) h = cc

completed : (ts after : List Token) (f : Forest (statement ∷ [])) → All (statement ∷ []) f (ts ++ after) [] → StatementsAre (f.0 ∷ [])
    ((ts ++ after) ∷ [])
completed ts after f all = alone_are f.0 (ts ++ after) (subst (λ us. Derives statement f.0 (ts ++ after) us) all.2 all.1)

no_list_end : (i : Input) → (i.places ≡ [] → ⊥) → (used : List (ℕ × Token)) → i.places ≡ used ++ [] → run Statement (toks used) (statement ∷ [])
    (λ f. f.0) ≡ Err (ended, [], tt) → AreNone (toks used)
no_list_end i some used split h [] [] are same = absurd (some (split ∙ append-nil used ∙ empty_used used same))
no_list_end i some used split h [] (ts ∷ parts) are same = absurd are
no_list_end i some used split h (a ∷ list) [] are same = absurd are
no_list_end i some used split h (a ∷ list) (ts ∷ parts) are same = neither (statement_of (ts ++ joined parts)) (a, joined parts, tt) (ended, [], tt)
    (all_alone are.0 (fits list parts are.1)) (ap statement_of same ∙ h)

no_list_next : (used : List (ℕ × Token)) (x : Token) → ((more : List Token) → run Statement (toks used ++ x ∷ more) (statement ∷ [])
    (λ f. f.0) ≡ Err (misfit, x ∷ more, tt)) → BeginNone (toks used ++ x ∷ [])
no_list_next used x h [] [] after are same = none_empty x (toks used) after [] (same ∙ append_assoc (toks used) (x ∷ []) after)
no_list_next used x h [] (ts ∷ parts) after are same = absurd are
no_list_next used x h (a ∷ list) [] after are same = absurd are
no_list_next used x h (a ∷ list) (ts ∷ parts) after are same = neither (statement_of (ts ++ joined parts)) (a, joined parts, tt)
    (misfit, x ∷ after, tt) (all_alone are.0 (fits list parts are.1)) (ap statement_of (same ∙ append_assoc (toks used) (x ∷ []) after) ∙ h after)

stop_at_end : (n : ℕ) (i : Input) → (i.places ≡ [] → ⊥) → (b : Budget) (e : Ending) → b.ending ≡ e → Place statement (fresh i) ended
    (record { places = []; budget = b }) → Stopped (suc n) i (record { places = []; budget = b }) (code_at [] e)
stop_at_end n i some b (ends o) e pl =
    let room = spends pl.used (fresh i).budget b pl.spends in
    let c = pl.here.0 in
    record {
      used = pl.used;
      split = pl.split;
      ending = room.1;
      list = c.0.0 ∷ [];
      whole = [];
      part = toks pl.used;
      others = c.1;
      behind = [];
      are = completed (toks pl.used) c.1 c.0 c.2;
      tokens = refl;
      short = tt;
      short_part = short_used pl.used 0 b.room room.0;
      few = begun_one n (toks pl.used);
      here = (subst IsWhole (sym e) tt, no_list_end i some pl.used pl.split pl.here.1);
    }
stop_at_end n i some b (bad o) e pl =
    let room = spends pl.used (fresh i).budget b pl.spends in
    let c = pl.here.0 in
    record {
      used = pl.used;
      split = pl.split;
      ending = room.1;
      list = c.0.0 ∷ [];
      whole = [];
      part = toks pl.used;
      others = c.1;
      behind = [];
      are = completed (toks pl.used) c.1 c.0 c.2;
      tokens = refl;
      short = tt;
      short_part = short_used pl.used 0 b.room room.0;
      few = begun_one n (toks pl.used);
      here = (o, e);
    }

stop_inside : (n : ℕ) (i : Input) → (i.places ≡ [] → ⊥) → (fault : Fault) (places : List (ℕ × Token)) (b : Budget) → SaysOf statement
    (fresh i) fault (record { places = places; budget = b })
    → SaysWhy (suc n) i (code_of fault (record { places = places; budget = b })) (record { places = places; budget = b })
unfolding code_of
stop_inside n i some Ended [] b pl = stop_at_end n i some b b.ending refl pl
stop_inside n i some Ended (x ∷ places) b pl = absurd pl.here
stop_inside n i some Misfit [] b pl = absurd pl.here
stop_inside n i some Misfit (x ∷ places) b pl =
    let room = spends pl.used (fresh i).budget b pl.spends in
    let c = pl.here.0 in
    record {
      used = pl.used;
      split = pl.split;
      ending = room.1;
      list = c.0.0 ∷ [];
      whole = [];
      part = toks pl.used;
      others = c.1;
      behind = [];
      are = completed (toks pl.used) c.1 c.0 c.2;
      tokens = refl;
      short = tt;
      short_part = short_used pl.used 0 b.room room.0;
      few = begun_one n (toks pl.used);
      here = no_list_next pl.used x.1 pl.here.1;
    }
stop_inside n i some Spent [] b pl = absurd pl.here
stop_inside n i some Spent (x ∷ places) b pl =
    let room = spends pl.used (fresh i).budget b pl.spends in
    let c = pl.here.0 in
    let none = no_room b pl.here.1 in
    let size = toks-length pl.used in
    record {
      used = pl.used;
      split = pl.split;
      ending = room.1;
      list = c.0.0 ∷ [];
      whole = [];
      part = toks pl.used;
      others = x.1 ∷ c.1;
      behind = [];
      are = subst (λ l. StatementsAre (c.0.0 ∷ []) (l ∷ [])) (append_assoc (toks pl.used) (x.1 ∷ []) c.1) (completed
          (toks pl.used ++ x.1 ∷ []) c.1 c.0 c.2);
      tokens = refl;
      short = tt;
      short_part = short_used pl.used 0 b.room room.0;
      few = begun_one n (toks pl.used);
      here = (omega (arith, none, room.0, size), c.1, refl);
    }
stop_inside n i some Deep places b pl = tt
stop_inside n i some NoMemory places b pl = tt

say_one : (n : ℕ) (found : List Statement) (i : Input) → (i.places ≡ [] → ⊥) → (q : Outcome Statement) → Says statement (fresh i) q
    → ((more : List Statement) (j : Input) → SayAll n more j (statements n more j)) → SayAll (suc n) found i (one_more (statements n) found q)
say_one n found i some (Ok q) says_it on = say_more n found i q.0 q.1 (statements n (found ++ q.0 ∷ []) q.1) (step_of i q.0 q.1 says_it) (on
    (found ++ q.0 ∷ []) q.1)
say_one n found i some (Err e) says_it on = stop_inside n i some e.0 e.1.places e.1.budget says_it

-- ---- all statements

is_done_here : (n : ℕ) (found : List Statement) (places : List (ℕ × Token)) (b : Budget) (e : Ending) → b.ending ≡ e → is_done_at places e ≡ true
    → Done n (record { places = places; budget = b }) found found
is_done_here n found [] b (ends o) e done = record {
  added = [];
  parts = [];
  same = sym
      (append-nil found);
  are = tt;
  tokens = refl;
  short = tt;
  few = omega arith;
  is_whole = subst IsWhole (sym e) tt;
}
is_done_here n found [] b (bad o) e done = clash false done refl
is_done_here n found (x ∷ places) b e is done = clash false done refl

many : (found : List Statement) (places : List (ℕ × Token)) (b : Budget) → begins_statement (ahead (record { places = places; budget = b })) ≡ true
    → Stopped 0 (record { places = places; budget = b }) (record { places = places; budget = b }) code.Many
unfolding ahead
many found [] b begins = clash false begins refl
many found (x ∷ places) b begins =
    let g = beginning x.1 begins in
    record {
      used = [];
      split = refl;
      ending = refl;
      list = g.tree ∷ [];
      whole = [];
      part = [];
      others = x.1 ∷ g.after;
      behind = [];
      are = alone_are g.tree (x.1 ∷ g.after) g.derived;
      tokens = refl;
      short = tt;
      short_part = omega arith;
      few = omega arith;
      here = (refl, refl, g.after, refl);
    }

some_places : (places : List (ℕ × Token)) (b : Budget) → begins_statement (ahead (record { places = places; budget = b })) ≡ true → places ≡ [] → ⊥
unfolding ahead
some_places [] b begins none = clash false begins refl
some_places (x ∷ places) b begins none = cc

say_last : (found : List Statement) (i : Input) (d g : Bool) → is_done_at i.places i.budget.ending ≡ d → begins_statement (ahead i) ≡ g
    → SayAll 0 found i (if d then Ok (found, i) else (if g then Err (Some code.Many, i) else stopped (refusal i) i))
say_last found i true g done begins = is_done_here 0 found i.places i.budget i.budget.ending refl done
say_last found i false true done begins = many found i.places i.budget begins
say_last found i false false done begins = no_statement 0 found i.places i.budget done begins

say_next : (n : ℕ) (found : List Statement) (i : Input) → ((more : List Statement) (j : Input) → SayAll n more j (statements n more j)) →
    (d g : Bool) → is_done_at i.places i.budget.ending ≡ d → begins_statement (ahead i) ≡ g
    → SayAll (suc n) found i (if d then Ok (found, i) else (if g then one_more (statements n) found (p.statement (fresh i)) else stopped
    (refusal i) i))
say_next n found i on true g done begins = is_done_here (suc n) found i.places i.budget i.budget.ending refl done
say_next n found i on false true done begins = say_one n found i (some_places i.places i.budget begins) (p.statement (fresh i))
    (says statement p.statement (follows_statement Statement) (fresh i)) on
say_next n found i on false false done begins = no_statement (suc n) found i.places i.budget done begins

pub statements_say : (n : ℕ) (found : List Statement) (i : Input) → SayAll n found i (statements n found i)
unfolding statements is_done
statements_say zero found i = say_last found i (is_done_at i.places i.budget.ending) (begins_statement (ahead i)) refl refl
statements_say (suc n) found i = say_next n found i (statements_say n) (is_done_at i.places i.budget.ending) (begins_statement (ahead i)) refl refl
