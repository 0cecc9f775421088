-- What a reader of words answers.
use Rattle.std.specs.Prelude.{◌≡◌, Option, Some, None, Result, Ok, Err}
use Rattle.sb_words.specs.declared.words_error.WordsError.{WordsError}
use Rattle.sb_words.specs.declared.words_error.WordsError.TheVariants.{Usage, NoMemory}

infixl 10 ◌>>=◌
abbrev pub ◌>>=◌ : {A B : Type 0} → Option A → (A → Option B) → Option B
None >>= f = None
(Some x) >>= f = f x

abbrev pub Fails : {T : Type 0} → Option T → WordsError → Type 0
Fails value Usage = value ≡ None
Fails value NoMemory = Unit {0}

-- the value where there is one, and Usage only where there is none
abbrev pub Answers : {T : Type 0} → Option T → Result T WordsError → Type 0
Answers value (Ok x) = value ≡ Some x
Answers value (Err e) = Fails value e
