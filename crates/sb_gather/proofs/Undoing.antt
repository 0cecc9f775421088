-- Steps taken back from the last to the first.
use Rattle.std.proofs.Common.{List, [], ◌∷◌, ◌++◌, refl, sym, subst}
use Rattle.sb_gather.specs.Steps.{StepsBack}

module _ {S X : Type 0} (B : S → List X → List X → Type 0) where
  -- one step more
  pub step_noted : (steps : List (S)) (step : S) (later between first : List X)
      → B step later between → StepsBack B steps between first → StepsBack B (steps ++ step ∷ []) later first
  step_noted [] step later between first s e = (later, refl, subst (B step later) e s)
  step_noted (one ∷ steps) step later between first s h = (h.0, step_noted steps step later between h.0 s h.1, h.2)

  -- the last step is taken back first
  pub last_step : (steps : List (S)) (step : S) (later first : List X)
      → StepsBack B (steps ++ step ∷ []) later first → (between : List X) × B step later between × StepsBack B steps between first
  last_step [] step later first h = (first, subst (λ l. B step l first) (sym h.1) h.2, refl)
  last_step (one ∷ steps) step later first h =
      let rest = last_step steps step later h.0 h.1 in
      (rest.0, rest.1, (h.0, rest.2, h.2))
