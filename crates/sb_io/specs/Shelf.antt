-- What is known of a shelf of files, and what a fetch answers and leaves.
use Rattle.std.specs.Prelude.{◌≡◌, ◌≢◌, ℕ, ◌<◌, ◌≤◌, List, length, Result, IfOk, OnOk, IsErrOf}
use Rattle.sb_io.specs.Faults.{Rose}
use Rattle.sb_io.specs.declared.shelf.Fetched.{Fetched}
use Rattle.sb_io.specs.declared.shelf.Fetched.TheVariants.{All, Longer}
use Rattle.sb_io.specs.declared.shelf.ShelfError.{ShelfError}
use Rattle.sb_io.specs.declared.shelf.ShelfError.TheVariants.{Failed}

-- what a shelf tells of a name: nothing, that it has no such file, or the file's bytes
pub data Content : Type 0 where
  Untold : Content
  Missing : Content
  Holds : List ℕ → Content

-- the whole file, or the news that it is longer than the limit
abbrev pub IsFile : ℕ → List ℕ → Fetched → Type 0
IsFile limit bytes (All file) = (file.items ≡ bytes) × (length bytes ≤ limit)
IsFile limit bytes Longer = limit < length bytes

-- what a fetch gives, by what the shelf tells of the name
abbrev pub IsFetched : ℕ → Content → Result Fetched ShelfError → Type 0
IsFetched limit Untold result = Unit {0}
IsFetched limit Missing result = OnOk result ⊥
IsFetched limit (Holds bytes) result = IfOk result (IsFile limit bytes)

-- a fetch of a name leaves what the shelf tells; no count of faults falls, and only this name's may rise
pub record Fetches (name : List ℕ) (content_before content_now : List ℕ → Content) (faults_before faults_now : List ℕ → ℕ) : Type 0 where
  pub same : (any : List ℕ) → content_now any ≡ content_before any
  pub later : (any : List ℕ) → faults_before any ≤ faults_now any
  pub others : (other : List ℕ) → other ≢ name → faults_now other ≡ faults_before other

-- a fault is answered only where the count of this name rose
abbrev pub HasShelfCause : List ℕ → (List ℕ → ℕ) → (List ℕ → ℕ) → Result Fetched ShelfError → Type 0
HasShelfCause name before now result = IsErrOf result Failed → Rose (before name) (now name)
