-- What is printed of a program is a text of it.
use Rattle.std.proofs.Common.{◌≡◌, ◌∙◌, ℕ, List, [], ◌∷◌, ◌++◌, map, length, refl, ap, sym, subst, append_assoc, append-nil}
use Rattle.std.specs.List.{AllByRecursion}
use Rattle.std.proofs.lemmas.List.{map-append}
use Rattle.sb_tokens.specs.Token.{Token, IsSpelled, spelling}
use Rattle.sb_tokens.specs.Lexed.{lexed}
use Rattle.sb_tokens.specs.Written.{Pieces, written, IsWritten, AreTokens}
use Rattle.sb_tokens.proofs.CallerLemmas.{lexed_are_spelled, lexed-written}
use Rattle.sb_grammar.specs.declared.programs.Program.{Program}
use Rattle.sb_grammar.specs.Printed.{line, printed}
use Rattle.sb_grammar.specs.Program.{joined, IsTextOf, IsWhole}

-- the tokens with the bytes behind them
abbrev line_pieces : List Token → Pieces
line_pieces [] = []
line_pieces (t ∷ []) = (t, 10) ∷ []
line_pieces (t ∷ ts) = (t, 32) ∷ line_pieces ts

abbrev pieces : List (List Token) → Pieces
pieces [] = []
pieces (ts ∷ tss) = line_pieces ts ++ pieces tss

written-append : (ps qs : Pieces) → written (ps ++ qs) ≡ written ps ++ written qs
written-append [] qs = refl
written-append (p ∷ ps) qs = ap (λ l. (spelling p.0 ++ p.1 ∷ []) ++ l) (written-append ps qs) ∙ sym (append_assoc (spelling p.0 ++ p.1 ∷ [])
    (written ps) (written qs))

line_written : (ts : List Token) → written (line_pieces ts) ≡ line ts
line_written [] = refl
line_written (t ∷ []) = append-nil (spelling t ++ 10 ∷ [])
line_written (t ∷ u ∷ ts) = append_assoc (spelling t) (32 ∷ []) (written (line_pieces (u ∷ ts))) ∙ ap (λ l. spelling t ++ (32 ∷ l)) (line_written
    (u ∷ ts))

all_written : (tss : List (List Token)) → written (pieces tss) ≡ printed tss
all_written [] = refl
all_written (ts ∷ tss) = written-append (line_pieces ts) (pieces tss) ∙ ap (λ l. l ++ written (pieces tss)) (line_written ts) ∙ ap
    (λ l. line ts ++ l) (all_written tss)

line_tokens : (ts : List Token) → map (λ p. p.0) (line_pieces ts) ≡ ts
line_tokens [] = refl
line_tokens (t ∷ []) = refl
line_tokens (t ∷ u ∷ ts) = ap (λ l. t ∷ l) (line_tokens (u ∷ ts))

all_tokens : (tss : List (List Token)) → map (λ p. p.0) (pieces tss) ≡ joined tss
all_tokens [] = refl
all_tokens (ts ∷ tss) = map-append (λ p. p.0) (line_pieces ts) (pieces tss) ∙ ap (λ l. l ++ map (λ p. p.0) (pieces tss)) (line_tokens ts) ∙ ap
    (λ l. ts ++ l) (all_tokens tss)

-- ---- all can be spelled

spelled_front : (ts us : List Token) → AllByRecursion IsSpelled (ts ++ us) → AllByRecursion IsSpelled ts × AllByRecursion IsSpelled us
spelled_front [] us all = (tt, all)
spelled_front (t ∷ ts) us all = let rest = spelled_front ts us all.1 in ((all.0, rest.0), rest.1)

both_written : (ps qs : Pieces) → AllByRecursion IsWritten ps → AllByRecursion IsWritten qs → AllByRecursion IsWritten (ps ++ qs)
both_written [] qs p q = q
both_written (x ∷ ps) qs p q = (p.0, both_written ps qs p.1 q)

line_spelled : (ts : List Token) → AllByRecursion IsSpelled ts → AllByRecursion IsWritten (line_pieces ts)
line_spelled [] all = tt
line_spelled (t ∷ []) all = (record { is_spelled = all.0; blank = refl }, tt)
line_spelled (t ∷ u ∷ ts) all = (record { is_spelled = all.0; blank = refl }, line_spelled (u ∷ ts) all.1)

all_spelled : (tss : List (List Token)) → AllByRecursion IsSpelled (joined tss) → AllByRecursion IsWritten (pieces tss)
all_spelled [] all = tt
all_spelled (ts ∷ tss) all =
    let s = spelled_front ts (joined tss) all in
    both_written (line_pieces ts) (pieces tss) (line_spelled ts s.0) (all_spelled tss s.1)

-- the printed text has the same tokens
pub printed_again : (p : Program) (bytes : List ℕ) (is : IsTextOf p bytes) → IsTextOf p (printed is.statements)
printed_again p bytes is =
    let spelled = subst (AllByRecursion IsSpelled) is.tokens (lexed_are_spelled bytes) in
    let are = lexed-written (pieces is.statements) (all_spelled is.statements spelled) in
    let text : AreTokens (lexed (printed is.statements)) (map (λ p. p.0) (pieces is.statements)) (length (written (pieces is.statements))) =
    subst (λ l. AreTokens (lexed l) (map (λ p. p.0) (pieces is.statements)) (length (written (pieces is.statements))))
    (all_written is.statements) are in
    record {
      statements = is.statements;
      is_program = is.is_program;
      tokens = text.tokens ∙ all_tokens is.statements;
      is_whole = subst IsWhole
          (sym text.ending) tt;
      short = is.short;
      few = is.few;
    }
