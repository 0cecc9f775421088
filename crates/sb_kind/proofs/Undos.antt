-- Additions taken back.
use Rattle.std.proofs.Common.{◌≡◌, ◌∙◌, ℕ, ℤ, List, [], ◌∷◌, ◌++◌, length, arith, refl, ap, ap₂, sym, subst}
use Rattle.std.specs.Prelude.{Option}
use Rattle.sb_types.specs.declared.values.Val.{Val}
use Rattle.sb_gather.specs.EntryLaws.{JoinLaws}
use Rattle.sb_gather.specs.Maps.{by_key, values_added, maps_added, map_laws, ValueBack}
use Rattle.sb_gather.specs.Steps.{StepBack, StepsBack, TopStepBack}
use Rattle.sb_gather.proofs.Undoing.{step_noted}
use Rattle.sb_sketch.specs.Undone.{CellsBack, RegistersBack}
use Rattle.sb_sketch.specs.declared.undone.CellsUndone.{CellsUndone}
use Rattle.sb_sketch.specs.declared.undone.RegistersUndone.{RegistersUndone}
use Rattle.sb_kind.specs.Elements.{val_cmp, scored_in, cells_in, registers_in, entries_in, IsOf, plus}
use Rattle.sb_kind.specs.KindLaws.{keeps, associates, entries-Map}
use Rattle.sb_kind.specs.Monoids.{Monoid}
use Rattle.sb_kind.specs.KindView.{monoid_of}
use Rattle.sb_kind.specs.Undoing.{TakesBack, item_steps, cells_undone, registers_undone, entry_steps, entries_layer}
use Rattle.sb_kind.specs.declared.agg.Agg.{Agg, out-Agg, Top, Cms, Hll, Map}
use Rattle.sb_kind.specs.declared.kind.Kind.{Kind, Map as Maps}
use Rattle.sb_kind.specs.declared.undone.Undone.{Undone, out-Undone, Scored, Cells, Registers, Map as MapSteps}
use Rattle.sb_kind.specs.declared.undone.Undone.TheOpen as layer
use Rattle.sb_kind.specs.declared.undone.Undone.TheVariants.{rolls-Map}
use Rattle.sb_kind.specs.declared.undone.Undone.TheViews.{out-roll-Undone}
use Rattle.sb_kind.proofs.KindViews.{monoid_of-Map}

-- the steps of a map of this part
abbrev pub EntriesBack : Kind → List (ℕ × Option Undone) → List (Val × Agg) → List (Val × Agg) → Type 0
EntriesBack part steps later earlier = StepsBack (StepBack (ValueBack (TakesBack (monoid_of part)))) steps later earlier

-- where the entries are taken back, the map is
pub map_back : (kind part given : Kind) (undone : Undone) (a earlier now : Agg) (steps : List (ℕ × Option Undone)) (list later : List (Val × Agg)) → kind ≡ Maps part → given ≡ part
    → TakesBack (monoid_of kind) undone a earlier → steps ≡ entry_steps undone → list ≡ entries_in a
    → ((first : List (Val × Agg)) → EntriesBack given steps list first → later ≡ first) → now ≡ Map later → now ≡ earlier
map_back kind part given undone a earlier now steps list later is got h s l back made =
    let both = subst (λ m. TakesBack m undone a earlier) (monoid_of-Map kind part is) h in
    let one = subst (λ k. EntriesBack k (entry_steps undone) (entries_in a) (entries_in earlier)) (sym got) both.1 in
    let two = subst (λ t. EntriesBack given t (entries_in a) (entries_in earlier)) (sym s) one in
    let three = subst (λ t. EntriesBack given steps t (entries_in earlier)) (sym l) two in
    made ∙ (ap Map (back (entries_in earlier) three) ∙ sym both.0)

-- without a step nothing has changed
pub no_step : {S X : Type 0} (B : S → List X → List X → Type 0) (steps : List S) (later earlier : List X) → length steps ≡ 0 → StepsBack B steps later earlier → later ≡ earlier
no_step B [] later earlier e h = h
no_step B (s ∷ steps) later earlier e h = absurd (omega (arith, e))

scored_in-Top : (items : List (ℤ × List ℕ)) → scored_in (Top items) ≡ items
unfolding out-Agg denote.Hole.Carrier.out
scored_in-Top items = refl

item_steps-Scored : (steps : List (ℕ × Option (ℤ × List ℕ))) → item_steps (Scored steps) ≡ steps
unfolding out-Undone denote.Hole.Carrier.out
item_steps-Scored steps = refl

-- the steps of a top take it back
pub top_back : (steps noted : List (ℕ × Option (ℤ × List ℕ))) (items before : List (ℤ × List ℕ)) (a : Agg) → steps ≡ noted → a ≡ Top items → StepsBack TopStepBack noted items before
    → StepsBack TopStepBack (item_steps (Scored steps)) (scored_in a) before
top_back steps noted items before a s e h =
    let one = subst (λ t. StepsBack TopStepBack t items before) (sym (item_steps-Scored steps ∙ s)) h in
    subst (λ l. StepsBack TopStepBack (item_steps (Scored steps)) l before) (sym (ap scored_in e ∙ scored_in-Top items)) one

cells_in-Cms : (cells : List ℕ) → cells_in (Cms cells) ≡ cells
unfolding out-Agg denote.Hole.Carrier.out
cells_in-Cms cells = refl

cells_undone-Cells : (undone : CellsUndone) → cells_undone (Cells undone) ≡ undone
unfolding out-Undone denote.Hole.Carrier.out
cells_undone-Cells undone = refl

-- what takes cells back takes their sketch back
pub cms_back : (undone : CellsUndone) (cells before : List ℕ) (a : Agg) → a ≡ Cms cells → CellsBack undone cells before → CellsBack (cells_undone (Cells undone)) (cells_in a) before
cms_back undone cells before a e h =
    let one = subst (λ u. CellsBack u cells before) (sym (cells_undone-Cells undone)) h in
    subst (λ l. CellsBack (cells_undone (Cells undone)) l before) (sym (ap cells_in e ∙ cells_in-Cms cells)) one

registers_in-Hll : (registers : List ℕ) → registers_in (Hll registers) ≡ registers
unfolding out-Agg denote.Hole.Carrier.out
registers_in-Hll registers = refl

registers_undone-Registers : (undone : RegistersUndone) → registers_undone (Registers undone) ≡ undone
unfolding out-Undone denote.Hole.Carrier.out
registers_undone-Registers undone = refl

pub hll_back : (undone : RegistersUndone) (registers before : List ℕ) (a : Agg) → a ≡ Hll registers → RegistersBack undone registers before
    → RegistersBack (registers_undone (Registers undone)) (registers_in a) before
hll_back undone registers before a e h =
    let one = subst (λ u. RegistersBack u registers before) (sym (registers_undone-Registers undone)) h in
    subst (λ l. RegistersBack (registers_undone (Registers undone)) l before) (sym (ap registers_in e ∙ registers_in-Hll registers)) one

entry_steps-Map : (steps : List (ℕ × Option Undone)) → entry_steps (MapSteps steps) ≡ steps
entry_steps-Map steps = ap entries_layer (ap out-Undone (sym (rolls-Map steps)) ∙ out-roll-Undone (layer.Map steps))

-- what is kept for a map takes it back
pub map_kept : (kind part given : Kind) (a now : Agg) (steps noted : List (ℕ × Option Undone)) (list later : List (Val × Agg)) → kind ≡ Maps part → given ≡ part
    → IsOf (monoid_of kind) a → now ≡ Map later → list ≡ entries_in a → steps ≡ noted → EntriesBack given noted later list → TakesBack (monoid_of kind) (MapSteps steps) now a
map_kept kind part given a now steps noted list later is got valid made l s back =
    let of_maps = subst (λ m. IsOf m a) (monoid_of-Map kind part is) valid in
    let one = subst (λ k. EntriesBack k noted later list) got back in
    let two = subst (λ t. EntriesBack part t later list) (sym (entry_steps-Map steps ∙ s)) one in
    let three = subst (λ t. EntriesBack part (entry_steps (MapSteps steps)) t list) (sym (ap entries_in made ∙ entries-Map later)) two in
    let four = subst (λ t. EntriesBack part (entry_steps (MapSteps steps)) (entries_in now) t) l three in
    subst (λ m. TakesBack m (MapSteps steps) now a) (sym (monoid_of-Map kind part is)) (of_maps.0, four)

-- the map of all entries added is the sum
pub map_added : (kind part given : Kind) (a b now : Agg) (list more later : List (Val × Agg)) → kind ≡ Maps part → given ≡ part → later ≡ maps_added val_cmp (plus (monoid_of given)) list more
    → list ≡ entries_in a → more ≡ entries_in b → now ≡ Map later → now ≡ plus (monoid_of kind) a b
map_added kind part given a b now list more later is got sum l m made =
    made
    ∙ (ap Map (sum ∙ (ap₂ (maps_added val_cmp (plus (monoid_of given))) l m ∙ ap (λ k. maps_added val_cmp (plus (monoid_of k)) (entries_in a) (entries_in b)) got))
    ∙ sym (ap (λ k. plus k a b) (monoid_of-Map kind part is)))

-- how the entries of a map are joined
pub entry_laws : (m : Monoid) → JoinLaws (by_key val_cmp) (λ (entry : Val × Agg). IsOf m entry.1) (values_added {K = Val} (plus m))
entry_laws m = map_laws val_cmp (IsOf m) (plus m) (record { keeps_valid = keeps m; associates = associates m })

-- a step that was done and noted
pub noted : {X U : Type 0} (T : U → X → X → Type 0) (steps all : List (ℕ × Option U)) (step : ℕ × Option U) (later between first : List X) → all ≡ steps ++ step ∷ [] → StepBack T step later between
    → StepsBack (StepBack T) steps between first → StepsBack (StepBack T) all later first
noted T steps all step later between first e s h = subst (λ l. StepsBack (StepBack T) l later first) (sym e) (step_noted (StepBack T) steps step later between first s h)
