-- The lines that are printed are those of the tokens.
use Rattle.std.proofs.Common.{◌≡◌, ◌∙◌, ℕ, List, [], ◌∷◌, ◌++◌, codes, refl, ap, sym, append_assoc, append-nil}
use Rattle.std.proofs.lemmas.List.{append_cancel_right}
use Rattle.sb_tokens.specs.Token.{Token, spelling}
use Rattle.sb_grammar.specs.declared.programs.Program.{Program}
use Rattle.sb_grammar.specs.declared.programs.Statement.{Statement}
use Rattle.sb_grammar.specs.declared.programs.Statement.TheVariants as statements
use Rattle.sb_grammar.specs.Grammar.{Derives, statement, batch}
use Rattle.sb_grammar.specs.Printed.{line, printed}
use Rattle.sb_grammar.specs.Program.{joined, StatementsAre, IsProgram}
use Rattle.sb_grammar.specs.Text.{statement_text, batch_text, ended, lines_text}
use Rattle.sb_grammar.proofs.TextOf.{spaced, text_of}

-- ---- LF in place of the last byte

ended-append : (xs : List ℕ) (y : ℕ) (ys : List ℕ) → ended (xs ++ y ∷ ys) ≡ xs ++ ended (y ∷ ys)
ended-append [] y ys = refl
ended-append (x ∷ []) y ys = refl
ended-append (x ∷ z ∷ xs) y ys = ap (λ l. x ∷ l) (ended-append (z ∷ xs) y ys)

-- LF stands where the last byte stood
pub end_of : (old mid new : List ℕ) (x : ℕ) → old ≡ mid ++ x ∷ [] → new ≡ mid ++ 10 ∷ [] → new ≡ ended old
end_of old mid new x was is = is ∙ sym (ended-append mid x []) ∙ ap ended (sym was)

record IsSome (xs : List ℕ) : Type 0 where
  first : ℕ
  rest : List ℕ
  is : xs ≡ first ∷ rest

ended_behind : (xs ys : List ℕ) → IsSome ys → ended (xs ++ ys) ≡ xs ++ ended ys
ended_behind xs ys some = ap (λ l. ended (xs ++ l)) some.is ∙ ended-append xs some.first some.rest ∙ ap (λ l. xs ++ ended l) (sym some.is)

some_front : (xs ys : List ℕ) → IsSome xs → IsSome (xs ++ ys)
some_front xs ys some = record { first = some.first; rest = some.rest ++ ys; is = ap (λ l. l ++ ys) some.is }

some_behind : (xs : List ℕ) → IsSome (xs ++ codes " ")
some_behind [] = record { first = 32; rest = []; is = refl }
some_behind (x ∷ xs) = record { first = x; rest = xs ++ codes " "; is = refl }

some_spaced : (t : Token) (ts : List Token) → IsSome (spaced (t ∷ ts))
some_spaced t ts = some_front (spelling t ++ codes " ") (spaced ts) (some_behind (spelling t))

ended_line : (ts : List Token) → ended (spaced ts) ≡ line ts
ended_line [] = refl
ended_line (t ∷ []) = ap ended (append-nil (spelling t ++ codes " ")) ∙ ended-append (spelling t) 32 []
ended_line (t ∷ u ∷ ts) =
    ended_behind (spelling t ++ codes " ") (spaced (u ∷ ts)) (some_spaced u ts)
    ∙ append_assoc (spelling t) (codes " ") (ended (spaced (u ∷ ts)))
    ∙ ap (λ l. spelling t ++ (codes " " ++ l)) (ended_line (u ∷ ts))

-- ---- a statement's tokens

spaced-append : (ts us : List Token) → spaced (ts ++ us) ≡ spaced ts ++ spaced us
spaced-append [] us = refl
spaced-append (t ∷ ts) us = ap (λ l. (spelling t ++ codes " ") ++ l) (spaced-append ts us) ∙ sym (append_assoc (spelling t ++ codes " ") (spaced ts)
    (spaced us))

statement_spaced : (a : Statement) (ts us : List Token) → Derives statement a (ts ++ us) us → spaced ts ≡ statement_text a
statement_spaced a ts us d = append_cancel_right (spaced ts) (statement_text a) (spaced us) (sym (spaced-append ts us) ∙ text_of d)

batch_spaced : (p : Program) (ts us : List Token) → Derives batch (p.length, (p.minus, p.from)) (ts ++ us) us
    → spaced ts ≡ batch_text p.length p.minus p.from
batch_spaced p ts us d = append_cancel_right (spaced ts) (batch_text p.length p.minus p.from) (spaced us) (sym (spaced-append ts us) ∙ text_of d)

some_statement : (a : Statement) → IsSome (statement_text a)
some_statement (statements.Source name fields) = record { first = _; rest = _; is = refl }
some_statement (statements.Service name key value) = record { first = _; rest = _; is = refl }
some_statement (statements.Let name stream) = record { first = _; rest = _; is = refl }
some_statement (statements.Store name stream mono) = record { first = _; rest = _; is = refl }

-- ---- all lines

lines_are : (before : List ℕ) (list : List Statement) (parts : List (List Token)) → StatementsAre list parts
    → lines_text before list ≡ before ++ printed parts
lines_are before [] [] are = sym (append-nil before)
lines_are before [] (ts ∷ parts) are = absurd are
lines_are before (a ∷ list) [] are = absurd are
lines_are before (a ∷ list) (ts ∷ parts) are =
    let text = statement_spaced a ts (joined parts) are.0 in
    let one : ended (before ++ statement_text a) ≡ before ++ line ts = ended_behind before (statement_text a) (some_statement a) ∙ ap
    (λ l. before ++ ended l) (sym text) ∙ ap (λ l. before ++ l) (ended_line ts) in
    ap (λ l. lines_text l list) one ∙ lines_are (before ++ line ts) list parts are.1 ∙ append_assoc before (line ts) (printed parts)

pub program_lines : (p : Program) (parts : List (List Token)) → IsProgram p parts → lines_text (ended
    (batch_text p.length p.minus p.from)) p.statements ≡ printed parts
program_lines p [] is = absurd is
program_lines p (ts ∷ parts) is =
    let text = batch_spaced p ts (joined parts) is.0 in
    ap (λ l. lines_text (ended l) p.statements) (sym text) ∙ ap (λ l. lines_text l p.statements) (ended_line ts) ∙ lines_are
    (line ts) p.statements parts is.1
