-- What the parser reads from, and the steps that every rule is made of.
use Rattle.std.specs.Prelude.{◌≡◌, ◌≢◌, ◌-◌, ◌==◌, ℕ, suc, Bool, false, if◌then◌else◌, List, [], ◌∷◌, Option, Some, None, Result, Ok, Err}
use denote.Enum.Bare.{sameb}
use Rattle.sb_tokens.specs.declared.keyword.Keyword.{Keyword}
use Rattle.sb_tokens.specs.contracts.keyword.Keyword as keywords
use Rattle.sb_tokens.specs.declared.symbol.Symbol.{Symbol}
use Rattle.sb_tokens.specs.contracts.symbol.Symbol as symbols
use Rattle.sb_tokens.specs.Keyword.{keyword_text}
use Rattle.sb_tokens.specs.Token.{Token, keyword, name, int, symbol}
use Rattle.sb_tokens.specs.Lexed.{Ending}
use Rattle.sb_syntax.specs.declared.fault.Fault.{Fault}
use Rattle.sb_syntax.specs.declared.fault.Fault.TheVariants.{NoMemory, Deep, Ended, Misfit, Spent}

-- how many tokens the statement may still take, and where the tokens end
pub record Budget : Type 0 where
  pub room : ℕ
  pub ending : Ending

-- the tokens that are left
pub record Input : Type 0 where
  pub places : List (ℕ × Token)
  pub budget : Budget

-- the next token
abbrev pub first_of : List (ℕ × Token) → Option Token
first_of [] = None
first_of (place ∷ _) = Some place.1

unfoldable pub ahead : Input → Option Token
ahead i = first_of i.places

-- ---- parsers

abbrev pub Outcome : Type 0 → Type 0
Outcome A = Result (A × Input) (Fault × Input)

abbrev pub Parser : Type 0 → Type 0
Parser A = Input → Outcome A

abbrev pub and_then : {A B : Type 0} → Outcome A → (A → Parser B) → Outcome B
and_then (Ok p) f = f p.0 p.1
and_then (Err e) f = Err e

infixl 10 ◌>>=◌
abbrev pub ◌>>=◌ : {A B : Type 0} → Parser A → (A → Parser B) → Parser B
p >>= f = λ i. and_then (p i) f

infixl 10 ◌>>◌
abbrev pub ◌>>◌ : {A B : Type 0} → Parser A → Parser B → Parser B
p >> q = p >>= (λ _. q)

abbrev pub pure : {A : Type 0} → A → Parser A
pure a = λ i. Ok (a, i)

infixr 11 ◌<$>◌
abbrev pub ◌<$>◌ : {A B : Type 0} → (A → B) → Parser A → Parser B
f <$> p = p >>= (λ x. pure (f x))

-- why the next token isn't taken
abbrev pub refusal_at : List (ℕ × Token) → Fault
refusal_at [] = Ended
refusal_at (_ ∷ _) = Misfit

unfoldable pub refusal : Input → Fault
refusal i = refusal_at i.places

abbrev pub refuse : {A : Type 0} → Parser A
refuse = λ i. Err (refusal i, i)

abbrev pub too_deep : {A : Type 0} → Parser A
too_deep = λ i. Err (Deep, i)

-- the room behind one more token
abbrev pub spend : Budget → Option Budget
spend b = if b.room == 0 then None else Some (record { room = b.room - 1; ending = b.ending })

abbrev pub rest_of : List (ℕ × Token) → List (ℕ × Token)
rest_of [] = []
rest_of (_ ∷ places) = places

abbrev pub taken_by : Option Budget → Parser (Unit {0})
taken_by None i = Err (Spent, i)
taken_by (Some b) i = Ok (tt, record { places = rest_of i.places; budget = b })

-- takes the next token, where the statement has room for it
unfoldable pub take_token : Parser (Unit {0})
take_token i = taken_by (spend i.budget) i

-- ---- which token is next

abbrev pub is_symbol : Symbol → Option Token → Bool
is_symbol m (Some (symbol n)) = sameb symbols.the_type n m
is_symbol m _ = false

abbrev pub is_keyword : Keyword → Option Token → Bool
is_keyword k (Some (keyword w)) = sameb keywords.the_type w k
is_keyword k _ = false

unfoldable pub sees : Symbol → Input → Bool
sees m i = is_symbol m (ahead i)

unfoldable pub sees_word : Keyword → Input → Bool
sees_word k i = is_keyword k (ahead i)

unfoldable pub expect : Symbol → Parser (Unit {0})
expect m i = if sees m i then take_token i else refuse i

unfoldable pub expect_word : Keyword → Parser (Unit {0})
expect_word k i = if sees_word k i then take_token i else refuse i

abbrev pub int_in : Option Token → Option ℕ
int_in (Some (int n)) = Some n
int_in _ = None

abbrev pub positive_in : Option Token → Option ℕ
positive_in (Some (int (suc n))) = Some (suc n)
positive_in _ = None

abbrev pub name_in : Option Token → Option (List ℕ)
name_in (Some (name bytes)) = Some bytes
name_in _ = None

-- a name, or a keyword as one
abbrev pub word_in : Option Token → Option (List ℕ)
word_in (Some (name bytes)) = Some bytes
word_in (Some (keyword w)) = Some (keyword_text w)
word_in _ = None

-- takes the token that has this in it
abbrev pub take_with : {A : Type 0} → Option A → Parser A
take_with None = refuse
take_with (Some a) = take_token >> pure a

unfoldable pub number : Parser ℕ
number i = take_with (int_in (ahead i)) i

unfoldable pub positive : Parser ℕ
positive i = take_with (positive_in (ahead i)) i

unfoldable pub a_name : Parser (List ℕ)
a_name i = take_with (name_in (ahead i)) i

unfoldable pub a_word : Parser (List ℕ)
a_word i = take_with (word_in (ahead i)) i

-- ---- what a function that parses ensures: the parser's outcome, unless memory fails

abbrev pub Reads : {A : Type 0} → Outcome A → Result A Fault → Input → Type 0
Reads outcome (Ok a) new = outcome ≡ Ok (a, new)
Reads outcome (Err e) new = e ≢ NoMemory → outcome ≡ Err (e, new)
