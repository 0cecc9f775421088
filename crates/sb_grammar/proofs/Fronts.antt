-- What a rule takes of a list is told by the tokens that it takes and the one behind them.
use Rattle.std.proofs.Common.{◌≡◌, ◌⊎◌, inl, inr, Bool, List, [], ◌∷◌, ◌++◌, map, Some, Result, Ok, refl, ap, sym, subst, ◌∙◌}
use Rattle.std.proofs.lemmas.List.{append_cancel_right}
use Rattle.sb_tokens.specs.Token.{Token}
use Rattle.sb_grammar.specs.Grammar.{Rule, Tree}
use Rattle.sb_grammar.proofs.Machine.{Stop}
use Rattle.sb_grammar.proofs.Whole.{run}
use Rattle.sb_grammar.proofs.Place as place

pub record Front (ts us : List Token) : Type 0 where
  pub more : List Token
  pub is : us ≡ ts ++ more

-- a front of a list ends before its token x, or has it
cut_behind : (u y : Token) (us ts : List Token) (x : Token) → u ≡ y → Front us ts ⊎ Front (ts ++ x ∷ []) us → Front (u ∷ us) (y ∷ ts) ⊎ Front
    ((y ∷ ts) ++ x ∷ []) (u ∷ us)
cut_behind u y us ts x same (inl f) = inl (record { more = f.more; is = ap (λ z. z ∷ ts) (sym same) ∙ ap (λ l. u ∷ l) f.is })
cut_behind u y us ts x same (inr f) = inr (record { more = f.more; is = ap (λ z. z ∷ us) same ∙ ap (λ l. y ∷ l) f.is })

pub cut_at : (us ts v w : List Token) (x : Token) → us ++ v ≡ ts ++ x ∷ w → Front us ts ⊎ Front (ts ++ x ∷ []) us
cut_at [] ts v w x same = inl (record { more = ts; is = refl })
cut_at (u ∷ us) [] v w x same = let head : u ≡ x = cc in inr (record { more = us; is = ap (λ z. z ∷ us) head })
cut_at (u ∷ us) (y ∷ ts) v w x same =
    let head : u ≡ y = cc in
    let tail : us ++ v ≡ ts ++ x ∷ w = cc in
    cut_behind u y us ts x head (cut_at us ts v w x tail)

-- the same token is next, or none in both
abbrev pub SameNext : List Token → List Token → Type 0
SameNext = place.SameNext Token (λ x. x) (Unit {0}) (λ u. Some u) Bool

pub same_next : (ts : List Token) (x : Token) (rest after : List Token) → SameNext (ts ++ x ∷ rest) (ts ++ x ∷ after)
same_next [] x rest after = refl
same_next (y ∷ ts) x rest after = refl

map-same : (ts : List Token) → map (λ x. x) ts ≡ ts
map-same [] = refl
map-same (x ∷ ts) = ap (λ l. x ∷ l) (map-same ts)

module _ (r : Rule) where
  abbrev pub rule_of : List Token → Result (Tree r × List Token × Unit {0}) (Stop × List Token × Unit {0})
  rule_of ts = run (Tree r) ts (r ∷ []) (λ f. f.0)

  again_of : (a : Tree r) (ts v w : List Token) → place.Took Token (λ x. x) (Unit {0}) (λ u. Some u) (Tree r) (ts ++ v) tt (r ∷ [])
      (λ f. f.0) a v tt → SameNext v w → rule_of (ts ++ w) ≡ Ok (a, w, tt)
  again_of a ts v w took next =
      let used : took.used ≡ ts = sym (append_cancel_right ts took.used v took.split) in
      ap (λ l. rule_of (l ++ w)) (sym (map-same took.used ∙ used)) ∙ took.again w next

  -- where the next token is the same, the tree is the same
  pub reads_on : (a : Tree r) (ts v w : List Token) → rule_of (ts ++ v) ≡ Ok (a, v, tt) → SameNext v w → rule_of (ts ++ w) ≡ Ok (a, w, tt)
  reads_on a ts v w e next = again_of a ts v w (subst (place.Tells Token (λ x. x) (Unit {0}) (λ u. Some u) (Tree r) (ts ++ v) tt (r ∷ [])
      (λ f. f.0)) e (place.tells Token (λ x. x) (Unit {0}) (λ u. Some u) (Tree r) (ts ++ v) tt (r ∷ []) (λ f. f.0))) next
