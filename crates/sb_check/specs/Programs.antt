-- Checked programs: what the statements declare, or the first refusal.
use Rattle.std.specs.Prelude.{ℕ, ◌+◌, ℤ, pos, neg_ℤ, Bool, true, false, ◌||◌, ◌&&◌, List, [], ◌∷◌, ◌++◌, map, Option, Some, None, Result, Ok, Err, if◌then◌else◌}
use Rattle.sb_types.specs.ValueType.{ValueType, Fields, records, fields_of}
use Rattle.sb_grammar.specs.declared.expressions.Scalar.{Scalar}
use Rattle.sb_grammar.specs.declared.programs.Statement.{Statement}
use Rattle.sb_grammar.specs.declared.programs.Statement.TheVariants as statements
use Rattle.sb_grammar.specs.declared.programs.FieldTree.{FieldTree}
use Rattle.sb_grammar.specs.declared.programs.Stream.{Stream}
use Rattle.sb_grammar.specs.declared.programs.MonoTree.{MonoTree}
use Rattle.sb_grammar.specs.declared.programs.Program.{Program}
use Rattle.sb_batcher.specs.Batches.{Batching, batching_of}
use Rattle.sb_terms.specs.declared.fault.Fault.{Fault}
use Rattle.sb_terms.specs.declared.fault.Fault.TheVariants.{Unknown, Twice}
use Rattle.sb_terms.specs.declared.fault.Fault.TheVariants as fault
use Rattle.sb_terms.specs.declared.flow.Flow.{Flow}
use Rattle.sb_terms.specs.Nodes.{is_number}
use Rattle.sb_terms.specs.Outcome.{Outcome, and_then, or_mistyped}
use Rattle.sb_terms.specs.Written.{scalar_type}
use Rattle.sb_check.specs.declared.check_error.CheckError.{CheckError}
use Rattle.sb_check.specs.declared.check_error.CheckError.TheVariants as error
use Rattle.sb_check.specs.Declarations.{Declarations, Source, Service, Let, Store, TypedFlow, nothing}
use Rattle.sb_check.specs.Names.{is_declared, has_twins}
use Rattle.sb_check.specs.Stores.{parts, when_key, mono_walk}
use Rattle.sb_check.specs.StreamNodes.{size_fault, unless}
use Rattle.sb_check.specs.Streams.{stream_walk, stream_known}

abbrev pub with_source : Declarations → Source → Declarations
with_source d s = record d { sources = d.sources ++ s ∷ [] }

abbrev pub with_service : Declarations → Service → Declarations
with_service d s = record d { services = d.services ++ s ∷ [] }

abbrev pub with_let : Declarations → Let → Declarations
with_let d s = record d { lets = d.lets ++ s ∷ [] }

abbrev pub with_store : Declarations → Store → Declarations
with_store d s = record d { stores = d.stores ++ s ∷ [] }

-- what is wrong with the name that a statement declares
abbrev pub name_fault : Declarations → List ℕ → Option Fault
name_fault d name = if is_declared d name then Some Twice else None

-- what is wrong with the names in a stream, and then with the name that it gets
abbrev pub names_fault : Declarations → List ℕ → Stream → Option Fault
names_fault d name stream = if stream_known stream d then name_fault d name else Some Unknown

-- ---- statements: first the names in them, then the name that they declare, then the walk, then
-- the store

-- the fields of a source, with their types
abbrev pub row_of : List FieldTree → Fields
row_of fields = fields_of (map (λ f. (f.name, scalar_type f.scalar)) fields)

abbrev pub field_names : List FieldTree → List (List ℕ)
field_names fields = map (λ f. f.name) fields

-- what is wrong with the names of a source and of its fields
abbrev pub source_fault : Declarations → List ℕ → List FieldTree → Option Fault
source_fault d name fields =
    if is_declared d name || has_twins (field_names fields) then Some Twice else None

abbrev pub source_check : Declarations → List ℕ → List FieldTree → Outcome Declarations
source_check d name fields =
    unless (source_fault d name fields) (unless (size_fault 1 (records (row_of fields)))
    (Ok (with_source d (record { name = name; fields = row_of fields }))))

abbrev pub service_check : Declarations → List ℕ → Scalar → Scalar → Outcome Declarations
service_check d name key value =
    unless (name_fault d name)
    (Ok (with_service d (record { name = name; key = scalar_type key; value = scalar_type value })))

abbrev pub let_check : Declarations → List ℕ → Stream → Outcome Declarations
let_check d name stream =
    unless (names_fault d name stream) (and_then (stream_walk stream d)
    (λ s. Ok (with_let d (record { name = name; stream = s }))))

-- the store that this flow of keys and values feeds
abbrev pub fed : List ℕ → MonoTree → Flow → ValueType → ValueType → Outcome Store
fed name mono f key value =
    when_key key (and_then (mono_walk mono value) (λ m.
    Ok (record { name = name; key = key; value = value; monoid = m; flow = f })))

-- the store of this name over a stream, which is of pairs
abbrev pub store_over : List ℕ → MonoTree → TypedFlow → Outcome Store
store_over name mono s = and_then (or_mistyped (parts s.type)) (λ p. fed name mono s.flow p.0 p.1)

abbrev pub store_check : Declarations → List ℕ → Stream → MonoTree → Outcome Declarations
store_check d name stream mono =
    unless (names_fault d name stream) (and_then (stream_walk stream d) (λ s.
    and_then (store_over name mono s) (λ store. Ok (with_store d store))))

abbrev pub statement_check : Declarations → Statement → Outcome Declarations
statement_check d (statements.Source name fields) = source_check d name fields
statement_check d (statements.Service name key value) = service_check d name key value
statement_check d (statements.Let name stream) = let_check d name stream
statement_check d (statements.Store name stream mono) = store_check d name stream mono

-- ---- programs

-- a fault in the statement of this number
abbrev pub error_at : ℕ → Fault → CheckError
error_at n fault.NoMemory = error.NoMemory
error_at n fault.Unknown = error.Unknown n
error_at n fault.Twice = error.Twice n
error_at n fault.Mistyped = error.Mistyped n
error_at n fault.TooLarge = error.TooLarge n
error_at n fault.TooWide = error.TooWide n
error_at n fault.NotAKey = error.NotAKey n

abbrev pub at_statement : {A : Type 0} → ℕ → Outcome A → Result A CheckError
at_statement n (Ok a) = Ok a
at_statement n (Err e) = Err (error_at n e)

abbrev pub go_on : {A B : Type 0} → Result A CheckError → (A → Result B CheckError) → Result B CheckError
go_on (Ok a) f = f a
go_on (Err e) f = Err e

-- the statements from this number on, behind what those before them declare
abbrev pub statements_check : ℕ → List Statement → Declarations → Result Declarations CheckError
statements_check n [] d = Ok d
statements_check n (a ∷ as') d =
    go_on (at_statement n (statement_check d a)) (statements_check (n + 1) as')

abbrev pub signed : Bool → ℕ → ℤ
signed true n = neg_ℤ (pos n)
signed false n = pos n

-- the batches of a program; its numbers are below 2^63
abbrev pub batching : Program → Option Batching
batching p =
    if is_number p.length && is_number p.from
    then batching_of (pos p.length) (signed p.minus p.from) else None

-- a program, its batches, and what its statements declare
pub record CheckedProgram : Type 0 where
  pub program : Program
  pub batching : Batching
  pub declared : Declarations

-- the checked program, or the first refusal; the batch head is statement 1
abbrev pub check_of : Program → Result CheckedProgram CheckError
check_of p =
    go_on (at_statement 1 (or_mistyped (batching p))) (λ b.
    go_on (statements_check 2 p.statements nothing) (λ d.
    Ok (record { program = p; batching = b; declared = d })))
