-- Services are loaded one by one.
use Rattle.std.proofs.Common.{◌≡◌, ◌∙◌, sym, ap, refl, subst, ℕ, List, [], ◌∷◌, ◌++◌, Ok, Err}
use Rattle.std.specs.Prelude.{Result, IfErr, OnOk, map}
use Rattle.std.proofs.lemmas.List.{append_assoc, append-nil, map-append}
use Rattle.sb_io.specs.Shelf.{Content}
use Rattle.sb_check.specs.Declarations.{Service}
use Rattle.sb_service.specs.Rows.{Rows}
use Rattle.sb_service.specs.Views.{view_service}
use Rattle.sb_service.specs.declared.service.Service.{Service as Held}
use Rattle.sb_load.specs.Commands.{Files, file_named}
use Rattle.sb_load.specs.Inputs.{Follows, Then, LoadsEach, LoadsService}
use Rattle.sb_load.specs.Refusals.{Cause, shelf, memory, input, cause_of}
use Rattle.sb_load.specs.Steps.{Advances, IsBehind, TellsBy, TellsRefusal, onto_rows}
use Rattle.sb_load.specs.declared.refusal.Refusal.{Refusal}
use Rattle.sb_load.specs.declared.refusal.Refusal.TheVariants as refused
use Rattle.sb_load.proofs.Loading.{goes_on, stops}

onto_none : (loaded : Result (List Rows) Refusal) → loaded ≡ onto_rows [] loaded
onto_none (Ok others) = refl
onto_none (Err refusal) = refl

onto_tells : (cause : Cause) (refusal : Refusal) (rows : List Rows) (rest : Result (List Rows) Refusal) → TellsBy cause refusal rest → TellsBy cause refusal (onto_rows rows rest)
onto_tells (shelf file) refusal rows rest tells = tt
onto_tells memory refusal rows rest tells = tt
onto_tells (input step) refusal rows rest tells = ap (onto_rows rows) tells

module _ (content : List ℕ → Content) (files : Files) where
  -- at first nothing stands before what is loaded
  pub begins : (all : List Service) (loaded : Result (List Rows) Refusal) → LoadsEach content files all loaded → IsBehind content files all [] loaded
  begins all loaded is = (loaded, is, onto_none loaded)

  -- at last nothing stands behind the rows
  pub ends : (rows : List Rows) (loaded : Result (List Rows) Refusal) → IsBehind content files [] rows loaded → loaded ≡ Ok rows
  ends rows loaded is = is.2 ∙ (ap (onto_rows rows) is.1 ∙ ap Ok (append-nil rows))

  module _ (s : Service) (others : List Service) (rows : List Rows) where
    abbrev After : Rows → Result (List Rows) Refusal → Type 0
    After row = Then (LoadsEach content files others) (λ more all. all ≡ Ok (row ∷ more))

    behind : (row : Rows) (step rest : Result (List Rows) Refusal) → LoadsEach content files others step → Follows (λ more all. all ≡ Ok (row ∷ more)) step rest
        → IsBehind content files others (rows ++ row ∷ []) (onto_rows rows rest)
    behind row (Ok more) rest loads follows = (Ok more, loads, ap (onto_rows rows) follows ∙ ap Ok (sym (append_assoc rows (row ∷ []) more)))
    behind row (Err e) rest loads follows = (Err e, loads, ap (onto_rows rows) follows)

    pub advances : (row : Rows) → ((step : Result Rows Refusal) → LoadsService content s (file_named s.name files) step → step ≡ Ok row)
        → (loaded : Result (List Rows) Refusal) → IsBehind content files (s ∷ others) rows loaded → IsBehind content files others (rows ++ row ∷ []) loaded
    advances row done loaded is = subst (IsBehind content files others (rows ++ row ∷ [])) (sym is.2)
        (goes_on (LoadsService content s (file_named s.name files)) After row (λ rest. IsBehind content files others (rows ++ row ∷ []) (onto_rows rows rest)) done
        (λ rest after. behind row after.0 rest after.1 after.2) is.0 is.1)

    pub is_refused : (refusal : Refusal) → ((step : Result Rows Refusal) → LoadsService content s (file_named s.name files) step → TellsRefusal refusal step)
        → (loaded : Result (List Rows) Refusal) → IsBehind content files (s ∷ others) rows loaded → TellsRefusal refusal loaded
    is_refused refusal refused loaded is = subst (TellsRefusal refusal) (sym is.2)
        (onto_tells (cause_of refusal) refusal rows is.0 (stops (LoadsService content s (file_named s.name files)) After refusal refused is.0 is.1))

    -- a service more, where there is memory for it
    pub goes_further : (all : List Held) (now : List Held) (next : Held) (result : Result (Unit {0}) Refusal) → rows ≡ map view_service all → OnOk result (now ≡ all ++ next ∷ []) → IfErr result (λ refusal. refusal ≡ refused.NoMemory)
        → ((step : Result Rows Refusal) → LoadsService content s (file_named s.name files) step → step ≡ Ok (view_service next))
        → (loaded : Result (List Rows) Refusal) → IsBehind content files (s ∷ others) rows loaded → Advances content files others (map view_service now) loaded result
    goes_further all now next (Ok u) is kept short done loaded from =
        subst (λ r. IsBehind content files others r loaded) (sym (ap (map view_service) kept ∙ (map-append view_service all (next ∷ []) ∙ ap (λ r. r ++ view_service next ∷ []) (sym is)))) (advances (view_service next) done loaded from)
    goes_further all now next (Err e) is kept short done loaded from = subst (λ refusal. TellsRefusal refusal loaded) (sym short) tt
