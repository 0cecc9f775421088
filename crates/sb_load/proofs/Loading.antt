-- What is read of a file, or refused of it, is what is loaded.
use Rattle.std.proofs.Common.{◌≡◌, ◌≢◌, ◌⊎◌, ◌∙◌, sym, ap, refl, ℕ, List, subst, Ok, Err, Global, arith}
use mathlib.Core.Logic.{inl, inr}
use Rattle.std.specs.Prelude.{Result}
use Rattle.std.specs.declared.vec.Vec.{Vec}
use Rattle.sb_grammar.specs.Program.{IsTextOf, FirstFault}
use Rattle.sb_grammar.specs.declared.code.Code.{Code}
use Rattle.sb_grammar.specs.declared.programs.Program.{Program}
use Rattle.sb_io.specs.Shelf.{Content, Untold, Missing, Holds, IsFetched}
use Rattle.sb_io.specs.declared.shelf.Fetched.TheVariants.{All, Longer}
use Rattle.sb_syntax.specs.declared.parsing.SyntaxError.{SyntaxError}
use Rattle.sb_syntax.specs.declared.parsing.SyntaxError.TheVariants.{At, NoMemory}
use Rattle.sb_check.specs.CheckedView.{checked_of}
use Rattle.sb_check.specs.Programs.{CheckedProgram, check_of}
use Rattle.sb_check.specs.declared.check_error.CheckError.{CheckError}
use Rattle.sb_check.specs.declared.check_error.CheckError.TheVariants as error
use Rattle.sb_check.specs.declared.checked.Checked.{Checked}
use Rattle.sb_load.specs.Inputs.{Follows, Then, LoadsFile, ReadsProgram, refused_by, check_refusal}
use Rattle.sb_load.specs.Refusals.{Cause, shelf, memory, input, cause_of}
use Rattle.sb_load.specs.Steps.{AreBytes, Tells, TellsBy, TellsRefusal, TellsAll, syntax_refusal}
use Rattle.sb_load.specs.declared.refusal.Refusal.{Refusal}
use Rattle.sb_load.specs.declared.refusal.Refusal.TheVariants as refused
use Rattle.sb_load.specs.declared.refusal.Which.{Which}

-- ---- one step and then the next

-- a refusal that is loaded is told
told_by : {A : Type 0} (cause : Cause) (refusal : Refusal) (loaded : Result A Refusal) → loaded ≡ Err refusal → TellsBy cause refusal loaded
told_by (shelf file) refusal loaded is = tt
told_by memory refusal loaded is = tt
told_by (input step) refusal loaded is = is

pub told : {A : Type 0} (refusal : Refusal) (loaded : Result A Refusal) → loaded ≡ Err refusal → TellsRefusal refusal loaded
told refusal loaded is = told_by (cause_of refusal) refusal loaded is

module _ {A B : Type 0} (first : Result A Refusal → Type 0) (next : A → Result B Refusal → Type 0) where
  -- a first step that is done goes on with what it loaded
  pub goes_on : (a : A) (P : Result B Refusal → Type 0) → ((step : Result A Refusal) → first step → step ≡ Ok a) → ((loaded : Result B Refusal) → next a loaded → P loaded)
      → (loaded : Result B Refusal) → Then first next loaded → P loaded
  goes_on a P done then loaded is = then loaded (subst (λ step. Follows next step loaded) (done is.0 is.1) is.2)

  stops_by : (cause : Cause) (refusal : Refusal) (step : Result A Refusal) (loaded : Result B Refusal) → TellsBy cause refusal step → Follows next step loaded → TellsBy cause refusal loaded
  stops_by (shelf file) refusal step loaded tells follows = tt
  stops_by memory refusal step loaded tells follows = tt
  stops_by (input which) refusal step loaded tells follows = subst (λ s. Follows next s loaded) tells follows

  -- a first step that is refused is the last
  pub stops : (refusal : Refusal) → ((step : Result A Refusal) → first step → TellsRefusal refusal step) → (loaded : Result B Refusal) → Then first next loaded → TellsRefusal refusal loaded
  stops refusal refused loaded is = stops_by (cause_of refusal) refusal is.0 loaded (refused is.0 is.1) is.2

-- ---- files

abbrev error_or : {A : Type 0} → Refusal → Result A Refusal → Refusal
error_or default (Ok a) = default
error_or default (Err e) = e

-- a refusal that is told of one step is told of another
same_refusal : (A B : Type 0) (cause : Cause) (e refusal : Refusal) → TellsBy {A = A} cause refusal (Err e) → TellsBy {A = B} cause refusal (Err e)
same_refusal A B (shelf file) e refusal tells = tt
same_refusal A B memory e refusal tells = tt
same_refusal A B (input step) e refusal tells = ap (λ r. Err (error_or e r)) tells

-- what was loaded wasn't refused
never : {A B : Type 0} (cause : Cause) (refusal : Refusal) (a : A) (loaded : Result B Refusal) → TellsBy cause refusal (Ok a) → TellsBy cause refusal loaded
never (shelf file) refusal a loaded tells = tt
never memory refusal a loaded tells = tt
never (input step) refusal a loaded tells = let no : Ok a ≡ Err refusal = tells in cc

-- what holds of all that is read of a file's bytes holds of what is loaded of it
pub file_read : {A : Type 0} (file : Which) (most : ℕ) (longer : Refusal) (Reads : List ℕ → Result A Refusal → Type 0) (P : Result A Refusal → Type 0) (content : Content) (bytes : List ℕ)
    → ((loaded : Result (List ℕ) Refusal) → LoadsFile file most longer AreBytes content loaded → loaded ≡ Ok bytes)
    → ((loaded : Result A Refusal) → Reads bytes loaded → P loaded) → (loaded : Result A Refusal) → LoadsFile file most longer Reads content loaded → P loaded
file_read file most longer Reads P Untold bytes fetched reads = λ loaded loads. absurd loads
file_read file most longer Reads P Missing bytes fetched reads = λ loaded loads. let no : Err (refused.Shelf file) ≡ Ok bytes = fetched (Err (refused.Shelf file)) refl in cc
file_read file most longer Reads P (Holds held) bytes fetched reads = λ loaded loads. elim loads [
  | inl long ↦ let no : Err longer ≡ Ok bytes = fetched (Err longer) (inl (long.0, refl)) in cc
  | inr read ↦ let same : Ok held ≡ Ok bytes = fetched (Ok held) (inr (read.0, refl)) in
      let is : held ≡ bytes = cc in
      reads loaded (subst (λ b. Reads b loaded) is read.1)
]

module _ {A X : Type 0} (file : Which) (most : ℕ) (longer : Refusal) (Reads : List ℕ → Result A Refusal → Type 0) (view : X → A) where
  -- what is read of a file's bytes is what is loaded of it
  pub read_tells : (content : Content) (bytes : List ℕ) (result : Result X Refusal)
      → ((loaded : Result (List ℕ) Refusal) → LoadsFile file most longer AreBytes content loaded → loaded ≡ Ok bytes)
      → TellsAll (Reads bytes) view result → TellsAll (LoadsFile file most longer Reads content) view result
  read_tells content bytes result = file_read file most longer Reads (λ loaded. Tells view loaded result) content bytes

  -- a file that isn't fetched is refused
  pub refused_tells : (content : Content) (refusal : Refusal)
      → ((loaded : Result (List ℕ) Refusal) → LoadsFile file most longer AreBytes content loaded → TellsRefusal refusal loaded)
      → (loaded : Result A Refusal) → LoadsFile file most longer Reads content loaded → TellsRefusal refusal loaded
  refused_tells Untold refusal fetched = λ loaded loads. absurd loads
  refused_tells Missing refusal fetched = λ loaded loads.
      subst (TellsRefusal refusal) (sym loads) (same_refusal (List ℕ) A (cause_of refusal) (refused.Shelf file) refusal (fetched (Err (refused.Shelf file)) refl))
  refused_tells (Holds held) refusal fetched = λ loaded loads. elim loads [
    | inl long ↦ subst (TellsRefusal refusal) (sym long.1) (same_refusal (List ℕ) A (cause_of refusal) longer refusal (fetched (Err longer) (inl (long.0, refl))))
    | inr read ↦ never (cause_of refusal) refusal held loaded (fetched (Ok held) (inr (read.0, refl)))
  ]

-- what a fetch gives is what is loaded of the bytes
pub fetched_tells : (file : Which) (most : ℕ) (longer : Refusal) (content : Content) (bytes : Vec ℕ Global) → IsFetched most content (Ok (All bytes))
    → TellsAll (LoadsFile file most longer AreBytes content) (λ (b : Vec ℕ Global). b.items) (Ok bytes)
fetched_tells file most longer Untold bytes is = λ loaded loads. absurd loads
fetched_tells file most longer Missing bytes is = absurd is
fetched_tells file most longer (Holds held) bytes is = λ loaded loads. elim loads [
  | inl long ↦ absurd (omega (arith, long.0, is.1))
  | inr read ↦ read.1 ∙ ap Ok (sym is.0)
]

pub longer_tells : (file : Which) (most : ℕ) (longer : Refusal) (content : Content) → IsFetched most content (Ok Longer)
    → TellsAll (LoadsFile file most longer AreBytes content) (λ (b : Vec ℕ Global). b.items) (Err longer)
longer_tells file most longer Untold is = λ loaded loads. absurd loads
longer_tells file most longer Missing is = absurd is
longer_tells file most longer (Holds held) is = λ loaded loads. elim loads [ inl long ↦ told longer loaded long.1 | inr read ↦ absurd (omega (arith, read.0, is)) ]

-- ---- programs

-- what `parse` answers where a text has a first wrong token
abbrev pub AnswersFault : List ℕ → Result Program SyntaxError → Type 0
AnswersFault text parsed = (offset : ℕ) (why : Code) → FirstFault text offset why → (parsed ≡ Err (At offset why)) ⊎ (parsed ≡ Err NoMemory)

-- what `check` answers is what is loaded
checked_by : (e : CheckError) (said : Result CheckedProgram CheckError) → (e ≢ error.NoMemory → said ≡ Err e) → TellsRefusal (check_refusal e) (refused_by check_refusal said)
checked_by (error.Unknown n) said is = ap (refused_by check_refusal) (is (λ no. cc))
checked_by (error.Twice n) said is = ap (refused_by check_refusal) (is (λ no. cc))
checked_by (error.Mistyped n) said is = ap (refused_by check_refusal) (is (λ no. cc))
checked_by (error.TooLarge n) said is = ap (refused_by check_refusal) (is (λ no. cc))
checked_by (error.TooWide n) said is = ap (refused_by check_refusal) (is (λ no. cc))
checked_by (error.NotAKey n) said is = ap (refused_by check_refusal) (is (λ no. cc))
checked_by error.NoMemory said is = tt

pub check_tells : (said : Result CheckedProgram CheckError) (e : CheckError) (refusal : Refusal) → refusal ≡ check_refusal e → (e ≢ error.NoMemory → said ≡ Err e)
    → TellsRefusal refusal (refused_by check_refusal said)
check_tells said e refusal is answers = subst (λ r. TellsRefusal r (refused_by check_refusal said)) (sym is) (checked_by e said answers)

-- what is loaded of a text that `parse` gives a tree of
pub tree_tells : (text : List ℕ) (tree : Program) (result : Result Checked Refusal)
    → AnswersFault text (Ok tree) → ((other : Program) → IsTextOf other text → tree ≡ other) → Tells checked_of (refused_by check_refusal (check_of tree)) result → TellsAll (ReadsProgram text) checked_of result
tree_tells text tree result fault only tells = λ loaded is. elim is [
  | inl wrong ↦ elim (fault wrong.0 wrong.1 wrong.2) [ inl other ↦ cc | inr short ↦ cc ]
  | inr some ↦ subst (λ l. Tells checked_of l result) (sym (some.2 ∙ ap (λ t. refused_by check_refusal (check_of t)) (sym (only some.0 some.1)))) tells
]

-- what is loaded of a text that `parse` refuses
fault_by : (text : List ℕ) (e : SyntaxError) → AnswersFault text (Err e) → ((other : Program) → IsTextOf other text → e ≡ NoMemory) → TellsAll (ReadsProgram text) checked_of (Err (syntax_refusal e))
fault_by text NoMemory fault none = λ loaded is. tt
fault_by text (At offset why) fault none = λ loaded is. elim is [
  | inl wrong ↦ wrong.3 ∙ elim (fault wrong.0 wrong.1 wrong.2) [ inl same ↦ cc | inr short ↦ cc ]
  | inr some ↦ absurd (let memory : At offset why ≡ NoMemory = none some.0 some.1 in cc)
]

pub fault_tells : (text : List ℕ) (e : SyntaxError) (refusal : Refusal) → AnswersFault text (Err e) → ((other : Program) → IsTextOf other text → e ≡ NoMemory) → refusal ≡ syntax_refusal e
    → TellsAll (ReadsProgram text) checked_of (Err refusal)
fault_tells text e refusal fault none is = subst (λ r. TellsAll (ReadsProgram text) checked_of (Err r)) (sym is) (fault_by text e fault none)
