-- Records with the sums of what is fed to stores.
use Rattle.std.specs.Prelude.{ℕ, zero, suc, ◌<◌, List, [], ◌∷◌, length}
use Rattle.std.specs.List.{AllByRecursion}
use Rattle.sb_laws.specs.Tables.{add_to}
use Rattle.sb_check.specs.Log.{Logged}
use Rattle.sb_check.specs.Programs.{CheckedProgram}
use Rattle.sb_feed.specs.declared.key.KeyBytes.{KeyBytes}
use Rattle.sb_feed.specs.Jobs.{Record}
use Rattle.sb_feed.specs.Keys.{key_order}
use Rattle.sb_kind.specs.declared.agg.Agg.{Agg}
use Rattle.sb_service.specs.Rows.{Rows}
use Rattle.sb_plan.specs.Given.{fed_at, planned}
use Rattle.sb_plan.specs.Runners.{batch_in, plus_at, valid_at}

-- the key of a store that has this text
abbrev pub key_at : ℕ → List ℕ → KeyBytes
key_at store text = record { store = store; text = text }

-- parts with what is fed to a store, each value on the right of those before it
abbrev pub with_fed : {E : Type 0} → (E → E → E) → ℕ → List (List ℕ × E) → List (KeyBytes × E) → List (KeyBytes × E)
with_fed add store [] parts = parts
with_fed add store (x ∷ fed) parts = with_fed add store fed (add_to key_order add (key_at store x.0) x.1 parts)

-- the parts of what is fed to the stores below a number, store by store
abbrev pub parts_below : {E : Type 0} → (ℕ → E → E → E) → (ℕ → List (List ℕ × E)) → ℕ → List (KeyBytes × E)
parts_below add fed zero = []
parts_below add fed (suc n) = with_fed (add n) n (fed n) (parts_below add fed n)

-- a record of a program in its batch, with the sum of what it feeds to each key
abbrev pub record_in : CheckedProgram → List Rows → Logged → Record Agg
record_in c services r = record { batch = batch_in c r; parts = parts_below (plus_at c) (λ store. fed_at (planned c) services store r) (length (planned c).stores) }

-- all that a record feeds to a store is of the store's monoid
abbrev pub IsFed : CheckedProgram → List Rows → Logged → Type 0
IsFed c services r = (store : ℕ) → store < length c.declared.stores → AllByRecursion (λ x. valid_at c store x.1) (fed_at (planned c) services store r)
