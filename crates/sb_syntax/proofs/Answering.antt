-- What `program` answers is what the grammar says of the text.
use Rattle.std.proofs.Common.{◌≡◌, ◌≤◌, ℕ, suc, List, [], ◌∷◌, ◌++◌, length, Option, Some, None, Ok, Err, refl, ap, sym, subst, ◌∙◌}
use Rattle.std.proofs.Common.{append_assoc, append-nil, arith}
use Rattle.std.proofs.lemmas.List.{append_cancel_right}
use Rattle.sb_tokens.specs.Token.{Token}
use Rattle.sb_tokens.specs.Lexed.{Lexed, Ending, ends, bad}
use Rattle.sb_grammar.specs.declared.code.Code.{Code}
use Rattle.sb_grammar.specs.declared.code.Code.TheVariants as code
use Rattle.sb_grammar.specs.declared.programs.Program.{Program}
use Rattle.sb_grammar.specs.declared.programs.Statement.{Statement}
use Rattle.sb_grammar.specs.Grammar.{Tree, Derives, batch}
use Rattle.sb_grammar.specs.Program as g
use Rattle.sb_grammar.specs.Program.{joined, StatementsAre, IsProgram, IsShort, IsWhole, IsTextIn, Begins, FaultIn, tokens_at, begun}
use Rattle.sb_grammar.proofs.Machine.{Forest, ended, misfit}
use Rattle.sb_grammar.proofs.Sound.{All}
use Rattle.sb_grammar.proofs.Whole.{run, all_alone}
use Rattle.sb_grammar.proofs.Place as place
use Rattle.sb_grammar.proofs.Frames.{frame}
use Rattle.sb_grammar.proofs.Unique.{both, neither, batch_of, program_of}
use Rattle.sb_syntax.specs.declared.fault.Fault.{Fault}
use Rattle.sb_syntax.specs.declared.fault.Fault.TheVariants.{NoMemory, Deep, Ended, Misfit, Spent}
use Rattle.sb_syntax.specs.Reading.{Input, Budget, Outcome, spend}
use Rattle.sb_syntax.specs.Statements as p
use Rattle.sb_syntax.specs.Programs.{Ends, code_at, code_of, start_of, statements, with_head, behind_head, program, offset_at}
use Rattle.sb_syntax.proofs.FollowStatements.{follows_batch}
use Rattle.sb_syntax.proofs.Says.{Took, Place, Says, SaysOf, says, no_room, spends}
use Rattle.sb_syntax.proofs.Texts.{toks, toks-append, toks-length, Done, Stopped, SaysWhy, SayAll, AreNone, BeginNone, Here, statements_say}

abbrev SameNext : List (ℕ × Token) → List Token → Type 0
SameNext = place.SameNext (ℕ × Token) (λ p. p.1) Budget spend (Tree batch)

-- ---- a batch head that was read

pub record Headed (i : Input) (a : Tree batch) (j : Input) : Type 0 where
  pub used : List (ℕ × Token)
  pub split : i.places ≡ used ++ j.places
  pub ending : j.budget.ending ≡ i.budget.ending
  pub short : IsShort (toks used)
  pub derived : (vs : List Token) → Derives batch a (toks used ++ vs) vs
  pub again : (vs : List Token) → SameNext j.places vs → batch_of (toks used ++ vs) ≡ Ok (a, vs, tt)

headed : (i : Input) → i.budget.room ≡ 256 → (a : Tree batch) (j : Input) → Took batch i a j → Headed i a j
headed i full a j took =
    let all = took.behind.derived in
    let first : Derives batch a (toks i.places) all.0 = subst (λ x. Derives batch x (toks i.places) all.0) took.behind.makes all.1 in
    let whole : Derives batch a (toks i.places) (toks j.places) = subst (λ us. Derives batch a (toks i.places) us) all.2 first in
    let f = frame whole in
    let both_ways : toks took.used ++ toks j.places ≡ f.front [] ++ toks j.places = sym (toks-append took.used j.places) ∙ ap toks (sym took.split)
    ∙ f.is ∙ f.puts.puts (toks j.places) in
    let part : f.front [] ≡ toks took.used = sym (append_cancel_right (toks took.used) (f.front []) (toks j.places) both_ways) in
    let room = spends took.used i.budget j.budget took.spends in
    let size = toks-length took.used in
    record {
      used = took.used;
      split = took.split;
      ending = room.1;
      short = omega (arith, full, room.0, size);
      derived = λ vs. subst (λ l. Derives batch a l vs) (f.puts.puts vs ∙ ap (λ l. l ++ vs) part) (f.derived vs);
      again = took.again;
    }

pub record Rest (vs : List Token) : Type 0 where
  pub list : List Statement
  pub parts : List (List Token)
  pub are : StatementsAre list parts
  pub tokens : joined parts ≡ vs

rest_of : (i : Input) (a : Tree batch) (j : Input) (s : Headed i a j) (vs : List Token) → SameNext j.places vs → (q : Program) (parts : List
    (List Token)) → IsProgram q parts → joined parts ≡ toks s.used ++ vs → Rest vs
rest_of i a j s vs next q [] are same = absurd are
rest_of i a j s vs next q (ts ∷ parts) are same =
    let e = both (batch_of (ts ++ joined parts)) ((q.length, (q.minus, q.from)), joined parts, tt) (a, vs, tt) (all_alone are.0 tt)
    (ap batch_of same ∙ s.again vs next) in
    record { list = q.statements; parts = parts; are = are.1; tokens = ap (λ x. x.1) e }

same_end : (used : List (ℕ × Token)) → SameNext (used ++ []) (toks used)
same_end [] = tt
same_end (x ∷ used) = refl

same_next : (used : List (ℕ × Token)) (x : ℕ × Token) (rest : List (ℕ × Token)) (after : List Token) → SameNext (used ++ x ∷ rest)
    ((toks used ++ x.1 ∷ []) ++ after)
same_next [] x rest after = refl
same_next (y ∷ used) x rest after = refl

front_of : (xs ys : List Token) (x : Token) (after : List Token) → ((xs ++ ys) ++ x ∷ []) ++ after ≡ xs ++ ((ys ++ x ∷ []) ++ after)
front_of xs ys x after = ap (λ l. l ++ after) (append_assoc xs ys (x ∷ [])) ∙ append_assoc xs (ys ++ x ∷ []) after

none_more : (i : Input) (a : Tree batch) (j : Input) (s : Headed i a j) (used : List (ℕ × Token)) → j.places ≡ used ++ [] → AreNone (toks used)
    → g.AreNone (toks (s.used ++ used))
none_more i a j s used split none = λ q parts are same.
    let r = rest_of i a j s (toks used) (subst (λ l. SameNext l (toks used)) (sym split) (same_end used)) q parts are (same
    ∙ toks-append s.used used) in
    none r.list r.parts r.are r.tokens

begin_more : (i : Input) (a : Tree batch) (j : Input) (s : Headed i a j) (used : List (ℕ × Token)) (x : ℕ × Token) (rest : List (ℕ × Token))
    → j.places ≡ used ++ x ∷ rest → BeginNone (toks used ++ x.1 ∷ []) → g.BeginNone (toks (s.used ++ used) ++ x.1 ∷ [])
begin_more i a j s used x rest split none = λ q parts after are same.
    let vs = (toks used ++ x.1 ∷ []) ++ after in
    let r = rest_of i a j s vs (subst (λ l. SameNext l vs) (sym split) (same_next used x rest after)) q parts are
    (same ∙ ap (λ l. (l ++ x.1 ∷ []) ++ after) (toks-append s.used used) ∙ front_of (toks s.used) (toks used) x.1 after) in
    none r.list r.parts after r.are r.tokens

-- ---- from statements to programs

abbrev Says' : Lexed → ℕ → Option Code → Input → Type 0
Says' text size None j = Unit {0}
Says' text size (Some why) j = FaultIn text size (offset_at j.places j.budget.ending size) why

abbrev pub Answers : Lexed → ℕ → Ends Program → Type 0
Answers text size (Ok p) = IsTextIn p.0 text
Answers text size (Err e) = Says' text size e.0 e.1

whole_offset : (e : Ending) (size : ℕ) → IsWhole e → offset_at [] e size ≡ size
whole_offset (ends o) size h = refl
whole_offset (bad o) size h = absurd h

fault_here : (size : ℕ) (i : Input) (a : Tree batch) (j : Input) (s : Headed i a j) (why : Code) (used rest : List (ℕ × Token))
    → j.places ≡ used ++ rest
    → (whole : List (List Token)) (part others : List Token) (ending : Ending) (b : Begins (toks (s.used ++ used)) others) → b.part ≡ part
    → length b.whole ≡ suc (length whole)
    → Here why 255 (toks used) whole part others rest ending → g.IsFault why size (offset_at rest ending size) (toks
    (s.used ++ used)) others b rest ending
fault_here size i a j s code.BadToken used [] split whole part others ending b pe we h = subst (λ e. e ≡ bad (offset_at [] e size)) (sym h.1) refl
fault_here size i a j s code.BadToken used (x ∷ rest) split whole part others ending b pe we h = absurd h
fault_here size i a j s code.End used [] split whole part others ending b pe we h =
    (h.0, whole_offset ending size h.0, none_more i a j s used split h.1)
fault_here size i a j s code.End used (x ∷ rest) split whole part others ending b pe we h = absurd h
fault_here size i a j s code.Unexpected used [] split whole part others ending b pe we h = absurd h
fault_here size i a j s code.Unexpected used (x ∷ rest) split whole part others ending b pe we h = (refl, begin_more i a j s used x rest split h)
fault_here size i a j s code.Long used [] split whole part others ending b pe we h = absurd h
fault_here size i a j s code.Long used (x ∷ rest) split whole part others ending b pe we h = (refl, ap length pe ∙ h.0, h.1, h.2)
fault_here size i a j s code.Many used [] split whole part others ending b pe we h = absurd h
fault_here size i a j s code.Many used (x ∷ rest) split whole part others ending b pe we h = (refl, pe ∙ h.0, omega (arith, we, h.1), h.2, h.3)

begun_more : (ts : List Token) (whole : List (List Token)) (part : List Token) → begun whole part ≤ 255 → begun (ts ∷ whole) part ≤ 256
begun_more ts whole [] h = omega (arith, h)
begun_more ts whole (x ∷ part) h = omega (arith, h)

fault_of : (text : Lexed) (size : ℕ) (a : Tree batch) (j k : Input) (why : Code) → Headed (start_of text) a j → Stopped 255 j k why
    → FaultIn text size (offset_at k.places k.budget.ending size) why
fault_of text size a j k why s st =
    let same : k.budget.ending ≡ text.ending = st.ending ∙ s.ending in
    let here : Here why 255 (toks st.used) st.whole st.part st.others k.places text.ending = subst (λ e. Here why 255
    (toks st.used) st.whole st.part st.others k.places e) same st.here in
    let b : Begins (toks (s.used ++ st.used)) st.others = record {
      program = program_of a st.list;
      whole = toks s.used ∷ st.whole;
      part = st.part;
      behind = st.behind;
      is_program = (s.derived (joined (st.whole ++ (st.part ++ st.others) ∷ st.behind)), st.are);
      tokens = toks-append s.used st.used ∙ ap (λ l. toks s.used ++ l) st.tokens ∙ sym (append_assoc (toks s.used) (joined st.whole) st.part);
      short = (s.short, st.short);
      short_part = st.short_part;
      few = begun_more (toks s.used) st.whole st.part st.few;
    } in
    subst (λ e. FaultIn text size (offset_at k.places e size) why) (sym same) (record {
      before = s.used ++ st.used;
      rest = k.places;
      split = s.split ∙ ap (λ l. s.used ++ l) st.split ∙ sym (append_assoc s.used st.used k.places);
      others = st.others;
      begins = b;
      here = fault_here size (start_of text) a j s why st.used k.places st.split st.whole st.part st.others text.ending b refl refl here;
    })

text_of : (text : Lexed) (a : Tree batch) (j : Input) (all : List Statement) → Headed (start_of text) a j → Done 255 j [] all → IsTextIn
    (program_of a all) text
text_of text a j all s d = record {
  statements = toks s.used ∷ d.parts;
  is_program = (s.derived (joined d.parts), subst (λ l. StatementsAre l d.parts) (sym d.same) d.are);
  tokens = ap toks s.split ∙ toks-append s.used j.places ∙ ap (λ l. toks s.used ++ l) d.tokens;
  is_whole = subst IsWhole s.ending d.is_whole;
  short = (s.short, d.short);
  few = omega (arith, d.few);
}

why_of : (text : Lexed) (size : ℕ) (a : Tree batch) (j k : Input) (why : Option Code) → Headed (start_of text) a j → SaysWhy 255 j why k
    → Says' text size why k
why_of text size a j k None s st = tt
why_of text size a j k (Some why) s st = fault_of text size a j k why s st

with_says : (text : Lexed) (size : ℕ) (a : Tree batch) (j : Input) (o : Ends (List Statement)) → Headed (start_of text) a j → SayAll 255 [] j o
    → Answers text size (with_head a o)
with_says text size a j (Ok q) s d = text_of text a j q.0 s d
with_says text size a j (Err e) s st = why_of text size a j e.1 e.0 s st

-- ---- a batch head in which reading stops

begun_one : (part : List Token) → begun [] part ≤ 256
begun_one [] = omega arith
begun_one (x ∷ part) = omega arith

completed : (front after : List Token) (f : Forest (batch ∷ [])) → All (batch ∷ []) f (front ++ after) [] → Derives batch f.0
    ((front ++ after) ++ []) []
completed front after f all = subst (λ l. Derives batch f.0 l []) (sym (append-nil (front ++ after))) (subst (λ us. Derives batch f.0
    (front ++ after) us) all.2 all.1)

opened : (used : List (ℕ × Token)) (after : List Token) (f : Forest (batch ∷ [])) → All (batch ∷ []) f (toks used ++ after) [] → length used ≤ 256
    → Begins (toks used) after
opened used after f all room =
    let size = toks-length used in
    record {
      program = program_of f.0 [];
      whole = [];
      part = toks used;
      behind = [];
      is_program = (completed (toks used) after f all, tt);
      tokens = refl;
      short = tt;
      short_part = omega (arith, room, size);
      few = begun_one (toks used);
    }

no_head_end : (used : List (ℕ × Token)) → run (Tree batch) (toks used) (batch ∷ []) (λ f. f.0) ≡ Err (ended, [], tt) → g.AreNone (toks used)
no_head_end used h q [] are same = absurd are
no_head_end used h q (ts ∷ parts) are same = neither (batch_of (ts ++ joined parts)) ((q.length, (q.minus, q.from)), joined parts, tt)
    (ended, [], tt) (all_alone are.0 tt) (ap batch_of same ∙ h)

no_head_next : (used : List (ℕ × Token)) (x : Token) → ((more : List Token) → run (Tree batch) (toks used ++ x ∷ more) (batch ∷ []) (λ f. f.0) ≡ Err
    (misfit, x ∷ more, tt)) → g.BeginNone (toks used ++ x ∷ [])
no_head_next used x h q [] after are same = absurd are
no_head_next used x h q (ts ∷ parts) after are same = neither (batch_of (ts ++ joined parts)) ((q.length, (q.minus, q.from)), joined parts, tt)
    (misfit, x ∷ after, tt) (all_alone are.0 tt) (ap batch_of (same ∙ append_assoc (toks used) (x ∷ []) after) ∙ h after)

head_end : (text : Lexed) (size : ℕ) (e : Ending) → text.ending ≡ e → (b : Budget) → Place batch (start_of text) ended
    (record { places = []; budget = b }) → FaultIn text size (offset_at [] e size) (code_at [] e)
head_end text size (ends o) same b pl =
    let room = spends pl.used (start_of text).budget b pl.spends in
    let c = pl.here.0 in
    record {
      before = pl.used;
      rest = [];
      split = pl.split;
      others = c.1;
      begins = opened pl.used c.1 c.0 c.2 (omega (arith, room.0));
      here = (subst IsWhole (sym same) tt, refl, no_head_end pl.used pl.here.1);
    }
head_end text size (bad o) same b pl =
    let room = spends pl.used (start_of text).budget b pl.spends in
    let c = pl.here.0 in
    record { before = pl.used; rest = []; split = pl.split; others = c.1; begins = opened pl.used c.1 c.0 c.2 (omega (arith, room.0)); here = same }

head_stop : (text : Lexed) (size : ℕ) (fault : Fault) (places : List (ℕ × Token)) (b : Budget) → SaysOf batch (start_of text) fault
    (record { places = places; budget = b })
    → Says' text size (code_of fault (record { places = places; budget = b })) (record { places = places; budget = b })
unfolding code_of
head_stop text size Ended [] b pl =
    let room = spends pl.used (start_of text).budget b pl.spends in
    subst (λ e. FaultIn text size (offset_at [] e size) (code_at [] e)) (sym room.1) (head_end text size text.ending refl b pl)
head_stop text size Ended (x ∷ places) b pl = absurd pl.here
head_stop text size Misfit [] b pl = absurd pl.here
head_stop text size Misfit (x ∷ places) b pl =
    let room = spends pl.used (start_of text).budget b pl.spends in
    let c = pl.here.0 in
    record {
      before = pl.used;
      rest = x ∷ places;
      split = pl.split;
      others = c.1;
      begins = opened pl.used c.1 c.0 c.2 (omega (arith, room.0));
      here = (refl, no_head_next pl.used x.1 pl.here.1);
    }
head_stop text size Spent [] b pl = absurd pl.here
head_stop text size Spent (x ∷ places) b pl =
    let room = spends pl.used (start_of text).budget b pl.spends in
    let c = pl.here.0 in
    let none = no_room b pl.here.1 in
    let long = toks-length pl.used in
    let begins : Begins (toks pl.used) (x.1 ∷ c.1) = record {
      program = program_of c.0.0 [];
      whole = [];
      part = toks pl.used;
      behind = [];
      is_program = (
        subst (λ l. Derives batch c.0.0 (l ++ []) []) (append_assoc (toks pl.used) (x.1 ∷ []) c.1) (completed
            (toks pl.used ++ x.1 ∷ []) c.1 c.0 c.2),
        tt,
      );
      tokens = refl;
      short = tt;
      short_part = omega (arith, room.0, long);
      few = begun_one (toks pl.used);
    } in
    record {
      before = pl.used;
      rest = x ∷ places;
      split = pl.split;
      others = x.1 ∷ c.1;
      begins = begins;
      here = (
        refl,
        omega
            (arith, none, room.0, long),
        c.1,
        refl,
      );
    }
head_stop text size Deep places b pl = tt
head_stop text size NoMemory places b pl = tt

head_says : (text : Lexed) (size : ℕ) (q : Outcome (Tree batch)) → Says batch (start_of text) q → Answers text size (behind_head q)
head_says text size (Ok q) took = with_says text size q.0 q.1 (statements 255 [] q.1) (headed (start_of text) refl q.0 q.1 took)
    (statements_say 255 [] q.1)
head_says text size (Err e) pl = head_stop text size e.0 e.1.places e.1.budget pl

-- the answer is what the grammar says
pub program_says : (text : Lexed) (size : ℕ) → Answers text size (program (start_of text))
unfolding program
program_says text size = head_says text size (p.batch (start_of text)) (says batch p.batch (follows_batch (Tree batch)) (start_of text))
