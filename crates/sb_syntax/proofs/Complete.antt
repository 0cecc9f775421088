-- A program's tokens, within the limits, are read as it, unless memory fails.
use Rattle.std.proofs.Common.{◌≡◌, ◌≤◌, ℕ, zero, suc, Bool, true, false, if◌then◌else◌, List, [], ◌∷◌, ◌++◌, length, None, Ok, Err}
use Rattle.std.proofs.Common.{refl, ap, sym, subst, ◌∙◌, append_assoc, append-nil, arith}
use Rattle.std.specs.List.{AllByRecursion}
use Rattle.std.proofs.lemmas.List.{append_cancel_left}
use Rattle.sb_tokens.specs.Token.{Token}
use Rattle.sb_tokens.specs.Lexed.{Lexed, Ending, ends, bad}
use Rattle.sb_grammar.specs.declared.programs.Program.{Program}
use Rattle.sb_grammar.specs.declared.programs.Statement.{Statement}
use Rattle.sb_grammar.specs.Grammar.{Rule, Tree, Derives, statement, batch}
use Rattle.sb_grammar.specs.Program.{joined, StatementsAre, IsProgram, IsShort, IsWhole, IsTextIn}
use Rattle.sb_grammar.proofs.Machine.{ended, misfit}
use Rattle.sb_grammar.proofs.Levels.{Fits, level}
use Rattle.sb_grammar.proofs.Whole.{all_alone}
use Rattle.sb_grammar.proofs.Place as place
use Rattle.sb_grammar.proofs.Unique.{fits, both, neither, program_of}
use Rattle.sb_grammar.proofs.Fronts.{Front, SameNext, same_next, rule_of, reads_on}
use Rattle.sb_syntax.specs.declared.fault.Fault.{Fault}
use Rattle.sb_syntax.specs.declared.fault.Fault.TheVariants.{NoMemory, Deep, Ended, Misfit, Spent}
use Rattle.sb_syntax.specs.Reading.{Input, Budget, Outcome, spend, ahead}
use Rattle.sb_syntax.specs.Statements as p
use Rattle.sb_syntax.specs.Programs.{Ends, code_of, start_of, is_done_at, is_done, begins_statement, fresh, one_more, statements, with_head, behind_head, program}
use Rattle.sb_syntax.proofs.FollowStatements.{follows_statement, follows_batch}
use Rattle.sb_syntax.proofs.Says.{Says, SaysOf, says, no_room, spends}
use Rattle.sb_syntax.proofs.Gives.{one_step}
use Rattle.sb_syntax.proofs.Texts.{toks, toks-append, toks-length, begins_of, opens}

clash : {A : Type 0} (b : Bool) → b ≡ true → b ≡ false → A
clash b h k = cc

-- ---- a list in front of another

-- of two fronts of one list the shorter is in front of the longer
fronts : (ts us v w : List Token) → ts ++ v ≡ us ++ w → length ts ≤ length us → Front ts us
fronts [] us v w same short = record { more = us; is = refl }
fronts (x ∷ ts) [] v w same short = absurd (omega (arith, short))
fronts (x ∷ ts) (y ∷ us) v w same short =
    let head : x ≡ y = cc in
    let tail : ts ++ v ≡ us ++ w = cc in
    let f = fronts ts us v w tail (omega (arith, short)) in
    record { more = f.more; is = ap (λ z. z ∷ us) (sym head) ∙ ap (λ l. x ∷ l) f.is }

not_empty : {C : Type 0} (xs ts : List Token) (x : Token) → [] ≡ xs ++ x ∷ ts → C
not_empty [] ts x h = cc
not_empty (y ∷ xs) ts x h = cc

same_self : (places : List (ℕ × Token)) → place.SameNext (ℕ × Token) (λ p. p.1) Budget spend Bool places (toks places)
same_self [] = tt
same_self (x ∷ places) = refl

-- ---- one rule

abbrev pub Reaches : {A : Type 0} → A → List Token → Ending → Outcome A → Type 0
Reaches a v ending (Ok p) = (p.0 ≡ a) × (toks p.1.places ≡ v) × (p.1.budget.ending ≡ ending)
Reaches a v ending (Err e) = code_of e.0 e.1 ≡ None

module _ (r : Rule) where
  not_spent : {C : Type 0} (a : Tree r) (ts v : List Token) → rule_of r (ts ++ v) ≡ Ok (a, v, tt) → length ts ≤ 256 → (used : List Token) (x : Token)
      (rest after : List Token) (b : Tree r)
      → ts ++ v ≡ used ++ x ∷ rest → length used ≡ 256 → rule_of r ((used ++ x ∷ []) ++ after) ≡ Ok (b, [], tt) → C
  not_spent a ts v e short used x rest after b same full on =
      let f = fronts ts used v (x ∷ rest) same (omega (arith, short, full)) in
      let behind : v ≡ f.more ++ x ∷ rest = append_cancel_left ts v (f.more ++ x ∷ rest) (same ∙ ap (λ l. l ++ x ∷ rest) f.is
      ∙ append_assoc ts f.more (x ∷ rest)) in
      let next : SameNext v (f.more ++ x ∷ after) = subst (λ l. SameNext l (f.more ++ x ∷ after)) (sym behind) (same_next f.more x rest after) in
      let goes = reads_on r a ts v (f.more ++ x ∷ after) e next in
      let lists : (used ++ x ∷ []) ++ after ≡ ts ++ (f.more ++ x ∷ after) = append_assoc used (x ∷ []) after ∙ ap (λ l. l ++ x ∷ after) f.is
      ∙ append_assoc ts f.more (x ∷ after) in
      let ends = both (rule_of r (ts ++ (f.more ++ x ∷ after))) (b, [], tt) (a, f.more ++ x ∷ after, tt) (ap (rule_of r) (sym lists) ∙ on) goes in
      not_empty f.more after x (ap (λ y. y.1) ends)

  abbrev IsTaken : Input → Tree r → List Token → List Token → Type 0
  IsTaken i a ts v = (i.budget.room ≡ 256) × (toks i.places ≡ ts ++ v) × IsShort ts × (rule_of r (ts ++ v) ≡ Ok (a, v, tt)) × Fits (level r) []

  stops_not : (i : Input) (a : Tree r) (ts v : List Token) → IsTaken i a ts v → (fault : Fault) (places : List (ℕ × Token)) (b : Budget)
      → SaysOf r i fault (record { places = places; budget = b }) → code_of fault (record { places = places; budget = b }) ≡ None
  unfolding code_of
  stops_not i a ts v is Ended [] b pl = neither (rule_of r (ts ++ v)) (a, v, tt) (ended, [], tt) is.3 (ap (rule_of r) (sym is.1 ∙ ap toks (pl.split
      ∙ append-nil pl.used)) ∙ pl.here.1)
  stops_not i a ts v is Ended (x ∷ places) b pl = absurd pl.here
  stops_not i a ts v is Misfit [] b pl = absurd pl.here
  stops_not i a ts v is Misfit (x ∷ places) b pl = neither (rule_of r (ts ++ v)) (a, v, tt) (misfit, x.1 ∷ toks places, tt) is.3 (ap (rule_of r) (sym is.1
      ∙ ap toks pl.split ∙ toks-append pl.used (x ∷ places)) ∙ pl.here.1 (toks places))
  stops_not i a ts v is Spent [] b pl = absurd pl.here
  stops_not i a ts v is Spent (x ∷ places) b pl =
      let room = spends pl.used i.budget b pl.spends in
      let none = no_room b pl.here.1 in
      let size = toks-length pl.used in
      let c = pl.here.0 in
      let d : Derives r c.0.0 ((toks pl.used ++ x.1 ∷ []) ++ c.1) [] = subst (λ us. Derives r c.0.0
      ((toks pl.used ++ x.1 ∷ []) ++ c.1) us) c.2.2 c.2.1 in
      not_spent a ts v is.3 is.2 (toks pl.used) x.1 (toks places) c.1 c.0.0 (sym is.1 ∙ ap toks pl.split ∙ toks-append pl.used (x ∷ places)) (omega
      (arith, is.0, room.0, none, size)) (all_alone d is.4)
  stops_not i a ts v is Deep places b pl = refl
  stops_not i a ts v is NoMemory places b pl = refl

  reached : (i : Input) (a : Tree r) (ts v : List Token) → IsTaken i a ts v → (q : Outcome (Tree r)) → Says r i q → Reaches a v i.budget.ending q
  reached i a ts v is (Ok p) took =
      let room = spends took.used i.budget p.1.budget took.spends in
      let lists : toks i.places ≡ toks took.used ++ toks p.1.places = ap toks took.split ∙ toks-append took.used p.1.places in
      let e = both (rule_of r (ts ++ v)) (p.0, toks p.1.places, tt) (a, v, tt) (ap (rule_of r) (sym is.1 ∙ lists) ∙ took.again (toks p.1.places)
      (same_self p.1.places)) is.3 in
      (ap (λ y. y.0) e, ap (λ y. y.1) e, room.1)
  reached i a ts v is (Err e) pl = stops_not i a ts v is e.0 e.1.places e.1.budget pl

-- ---- statements

abbrev pub Reached : List Statement → List Statement → Ends (List Statement) → Type 0
Reached found list (Ok p) = p.0 ≡ found ++ list
Reached found list (Err e) = e.0 ≡ None

done_at_end : (places : List (ℕ × Token)) (e : Ending) → toks places ≡ [] → IsWhole e → is_done_at places e ≡ true
done_at_end [] (ends o) h w = refl
done_at_end [] (bad o) h w = absurd w
done_at_end (x ∷ places) e h w = cc

chosen : {A : Type 0} (d : Bool) (x y : A) → d ≡ true → (if d then x else y) ≡ x
chosen true x y h = refl
chosen false x y h = cc

done_ok : (n : ℕ) (found : List Statement) (i : Input) → is_done i ≡ true → statements n found i ≡ Ok (found, i)
unfolding statements
done_ok zero found i h = chosen (is_done i) _ _ h
done_ok (suc n) found i h = chosen (is_done i) _ _ h

first_begins : (places : List (ℕ × Token)) (b : Budget) (ts : List Token) → toks places ≡ ts → begins_of ts ≡ true → (begins_statement (ahead
    (record { places = places; budget = b })) ≡ true) × (is_done_at places b.ending ≡ false)
unfolding ahead
first_begins [] b ts same h = clash (begins_of ts) h (ap begins_of (sym same))
first_begins (x ∷ places) b ts same h = (ap begins_of same ∙ h, refl)

more_reached : (found : List Statement) (a c : Statement) (list : List Statement) (o : Ends (List Statement)) → c ≡ a → Reached
    (found ++ c ∷ []) list o → Reached found (a ∷ list) o
more_reached found a c list (Ok p) same h = h ∙ append_assoc found (c ∷ []) list ∙ ap (λ x. found ++ (x ∷ list)) same
more_reached found a c list (Err e) same h = h

one_reached : (n : ℕ) (found : List Statement) (i : Input) (a : Statement) (list : List Statement) (v : List Token) (q : Outcome Statement)
    → Reaches a v i.budget.ending q
    → ((c : Statement) (j : Input) → toks j.places ≡ v → j.budget.ending ≡ i.budget.ending → Reached (found ++ c ∷ []) list (statements n
    (found ++ c ∷ []) j)) → Reached found (a ∷ list) (one_more (statements n) found q)
one_reached n found i a list v (Ok p) h on = more_reached found a p.0 list (statements n (found ++ p.0 ∷ []) p.1) h.0 (on p.0 p.1 h.1 h.2)
one_reached n found i a list v (Err e) h on = h

complete : (n : ℕ) (found : List Statement) (i : Input) (list : List Statement) (parts : List (List Token)) → StatementsAre list parts
    → toks i.places ≡ joined parts → AllByRecursion IsShort parts → length parts ≤ n → IsWhole i.budget.ending → Reached found list
    (statements n found i)
unfolding is_done
complete n found i [] [] are same short few w = subst (Reached found []) (sym (done_ok n found i (done_at_end i.places i.budget.ending same w)))
    (sym (append-nil found))
complete n found i [] (ts ∷ parts) are same short few w = absurd are
complete n found i (a ∷ list) [] are same short few w = absurd are
complete zero found i (a ∷ list) (ts ∷ parts) are same short few w = absurd (omega (arith, few))
complete (suc n) found i (a ∷ list) (ts ∷ parts) are same short few w =
    let begins = first_begins i.places i.budget (ts ++ joined parts) same (opens a (ts ++ joined parts) (joined parts) are.0) in
    let one : statements (suc n) found i ≡ one_more (statements n) found (p.statement (fresh i)) = one_step n found i begins.1 begins.0 in
    let read : Reaches a (joined parts) i.budget.ending (p.statement (fresh i)) =
    reached statement (fresh i) a ts (joined parts) (refl, same, short.0, all_alone are.0 (fits list parts are.1), refl) (p.statement (fresh i))
    (says statement p.statement (follows_statement Statement) (fresh i)) in
    subst (Reached found (a ∷ list)) (sym one) (one_reached n found i a list (joined parts) (p.statement (fresh i)) read
    (λ c j places ending. complete n (found ++ c ∷ []) j list parts are.1 places short.1 (omega (arith, few)) (subst IsWhole (sym ending) w)))

-- ---- programs

abbrev pub IsAnswer : Program → Ends Program → Type 0
IsAnswer p (Ok q) = q.0 ≡ p
IsAnswer p (Err e) = e.0 ≡ None

with_answer : (q : Program) (h : Tree batch) (o : Ends (List Statement)) → h ≡ (q.length, (q.minus, q.from)) → Reached [] q.statements o
    → IsAnswer q (with_head h o)
with_answer q h (Ok p) head r = ap (λ x. program_of x p.0) head ∙ ap (λ l. program_of (q.length, (q.minus, q.from)) l) r
with_answer q h (Err e) head r = r

behind_answer : (q : Program) (ending : Ending) (v : List Token) (o : Outcome (Tree batch)) → Reaches (q.length, (q.minus, q.from)) v ending o
    → ((j : Input) → toks j.places ≡ v → j.budget.ending ≡ ending → Reached [] q.statements (statements 255 [] j)) → IsAnswer q (behind_head o)
behind_answer q ending v (Ok p) h on = with_answer q p.0 (statements 255 [] p.1) h.0 (on p.1 h.1 h.2)
behind_answer q ending v (Err e) h on = h

answer_by : (q : Program) (text : Lexed) (parts : List (List Token)) → IsProgram q parts → toks text.tokens ≡ joined parts
    → AllByRecursion IsShort parts → length parts ≤ 256 → IsWhole text.ending → IsAnswer q (program (start_of text))
unfolding program
answer_by q text [] is same short few w = absurd is
answer_by q text (ts ∷ parts) is same short few w =
    behind_answer q text.ending (joined parts) (p.batch (start_of text))
    (reached batch (start_of text) (q.length, (q.minus, q.from)) ts (joined parts) (refl, same, short.0, all_alone is.0 tt, tt) (p.batch
    (start_of text)) (says batch p.batch (follows_batch (Tree batch)) (start_of text)))
    (λ j places ending. complete 255 [] j q.statements parts is.1 places short.1 (omega (arith, few)) (subst IsWhole (sym ending) w))

-- a text of a program is answered by it, unless memory fails
pub answer_of : (q : Program) (text : Lexed) → IsTextIn q text → IsAnswer q (program (start_of text))
answer_of q text is = answer_by q text is.statements is.is_program is.tokens is.short is.few is.is_whole
