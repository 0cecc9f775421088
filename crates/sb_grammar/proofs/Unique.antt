-- A list of tokens is at most one program's.
use Rattle.std.proofs.Common.{◌≡◌, List, [], ◌∷◌, ◌++◌, Result, Ok, Err, refl, ap, sym, ◌∙◌}
use Rattle.sb_tokens.specs.Token.{Token}
use Rattle.sb_grammar.specs.declared.programs.Program.{Program}
use Rattle.sb_grammar.specs.declared.programs.Statement.{Statement}
use Rattle.sb_grammar.specs.Grammar.{Tree, batch, statement}
use Rattle.sb_grammar.specs.Program.{joined, StatementsAre, IsProgram}
use Rattle.sb_grammar.proofs.Machine.{Stop, ended}
use Rattle.sb_grammar.proofs.Levels.{Fits, before}
use Rattle.sb_grammar.proofs.Whole.{run, all_alone}

-- statements begin with a token that goes on nowhere
pub fits : (statements : List Statement) (tss : List (List Token)) → StatementsAre statements tss → Fits 1 (joined tss)
fits [] [] are = refl
fits [] (ts ∷ tss) are = absurd are
fits (a ∷ others) [] are = absurd are
fits (a ∷ others) (ts ∷ tss) are = before are.0 (fits others tss are.1)

abbrev pub statement_of : List Token → Result (Statement × List Token × Unit {0}) (Stop × List Token × Unit {0})
statement_of ts = run Statement ts (statement ∷ []) (λ f. f.0)

abbrev pub batch_of : List Token → Result (Tree batch × List Token × Unit {0}) (Stop × List Token × Unit {0})
batch_of ts = run (Tree batch) ts (batch ∷ []) (λ f. f.0)

-- what a reading gives is one thing
pub both : {A E : Type 0} (r : Result A E) (x y : A) → r ≡ Ok x → r ≡ Ok y → x ≡ y
both r x y h k = cc

pub neither : {A E C : Type 0} (r : Result A E) (x : A) (e : E) → r ≡ Ok x → r ≡ Err e → C
neither r x e h k = cc

pub one_list : (as' bs : List Statement) (tss uss : List (List Token)) → StatementsAre as' tss → StatementsAre bs uss → joined tss ≡ joined uss
    → as' ≡ bs
one_list [] [] tss uss are be same = refl
one_list [] (b ∷ bs) [] [] are be same = absurd be
one_list [] (b ∷ bs) [] (us ∷ uss) are be same =
    neither (statement_of []) (b, joined uss, tt) (ended, [], tt) (ap statement_of same ∙ all_alone be.0 (fits bs uss be.1)) refl
one_list [] (b ∷ bs) (ts ∷ tss) uss are be same = absurd are
one_list (a ∷ as') [] [] uss are be same = absurd are
one_list (a ∷ as') [] (ts ∷ tss) [] are be same =
    neither (statement_of []) (a, joined tss, tt) (ended, [], tt) (ap statement_of (sym same) ∙ all_alone are.0 (fits as' tss are.1)) refl
one_list (a ∷ as') [] (ts ∷ tss) (us ∷ uss) are be same = absurd be
one_list (a ∷ as') (b ∷ bs) [] uss are be same = absurd are
one_list (a ∷ as') (b ∷ bs) (ts ∷ tss) [] are be same = absurd be
one_list (a ∷ as') (b ∷ bs) (ts ∷ tss) (us ∷ uss) are be same =
    let e = both (statement_of (ts ++ joined tss)) (a, joined tss, tt) (b, joined uss, tt) (all_alone are.0 (fits as' tss are.1))
    (ap statement_of same ∙ all_alone be.0 (fits bs uss be.1)) in
    ap (λ x. x.0 ∷ as') e ∙ ap (λ l. b ∷ l) (one_list as' bs tss uss are.1 be.1 (ap (λ x. x.1) e))

abbrev pub program_of : Tree batch → List Statement → Program
program_of head statements = record { length = head.0; minus = head.1.0; from = head.1.1; statements = statements }

pub one_program : (p q : Program) (ps qs : List (List Token)) → IsProgram p ps → IsProgram q qs → joined ps ≡ joined qs → p ≡ q
one_program p q [] qs is so same = absurd is
one_program p q (ts ∷ tss) [] is so same = absurd so
one_program p q (ts ∷ tss) (us ∷ uss) is so same =
    let e = both (batch_of (ts ++ joined tss)) ((p.length, (p.minus, p.from)), joined tss, tt) ((q.length, (q.minus, q.from)), joined uss, tt)
    (all_alone is.0 tt) (ap batch_of same ∙ all_alone so.0 tt) in
    ap (λ x. program_of x.0 p.statements) e ∙ ap (λ l. program_of (q.length, (q.minus, q.from)) l)
    (one_list p.statements q.statements tss uss is.1 so.1 (ap (λ x. x.1) e))
