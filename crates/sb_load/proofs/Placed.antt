-- The records of a log stand at their places.
use Rattle.std.proofs.Common.{◌≡◌, ℕ, suc, ◌+◌, ◌-◌, ℤ, Bool, true, false, cond, List, [], ◌∷◌, length, Option, Some, None, Ok, Err, refl, subst, arith}
use Rattle.std.specs.Prelude.{◌==◌, nat_lt, Result, IfOk}
use Rattle.sb_batcher.specs.Batches.{Batching, batch_of}
use Rattle.sb_text.specs.Columns.{columns_of}
use Rattle.sb_text.specs.Decimal.{integer}
use Rattle.sb_text.specs.Lines.{Line, lines_from, onto_first}
use Rattle.sb_types.specs.Value.{Value}
use Rattle.sb_check.specs.Declarations.{Source}
use Rattle.sb_check.specs.Log.{HavePlaces, LogFault, Logged, after_source, after_time, fields_in, in_batch, last_batch, log_of, most_line_bytes, most_records, onto_records, record_in, record_of, records_of, too_many, with_fields, within_limit}
use Rattle.sb_check.specs.Names.{source_named}
use Rattle.sb_check.specs.Programs.{CheckedProgram}
use Rattle.sb_check.specs.declared.log.LineKind.{LineKind}
use Rattle.sb_check.specs.declared.log.LineKind.TheVariants.{TooLong, NoEnd, FarBatch}

abbrev IsAt : ℕ → Logged → Type 0
IsAt position r = r.position ≡ position

fields_at : (position source : ℕ) (time : ℤ) (fields : Result (List Value) LineKind) → IfOk (with_fields position source time fields) (IsAt position)
fields_at position source time (Err kind) = tt
fields_at position source time (Ok fields) = refl

batch_at : (batch : Option ℕ) (position : ℕ) (next : Result Logged LineKind) → IfOk next (IsAt position) → IfOk (in_batch batch next) (IsAt position)
batch_at None position next h = tt
batch_at (Some batch) position next h = elim (nat_lt last_batch batch) as (λ b. IfOk (cond b (Err FarBatch) next) (IsAt position)) [ true ↦ tt | false ↦ h ]

time_at : (b : Batching) (position : ℕ) (source : ℕ × Source) (columns : List (List ℕ)) (time : Option ℤ) → IfOk (after_time b position source columns time) (IsAt position)
time_at b position source columns None = tt
time_at b position source columns (Some time) = batch_at (batch_of b time) position (with_fields position source.0 time (fields_in source.1.fields columns)) (fields_at position source.0 time (fields_in source.1.fields columns))

source_at : (b : Batching) (position : ℕ) (columns : List (List ℕ)) (source : Option (ℕ × Source)) → IfOk (after_source b position columns source) (IsAt position)
source_at b position columns None = tt
source_at b position [] (Some source) = tt
source_at b position (time ∷ columns) (Some source) = time_at b position source columns (integer time)

columns_at : (c : CheckedProgram) (position : ℕ) (columns : List (List ℕ)) → IfOk (record_in c position columns) (IsAt position)
columns_at c position [] = tt
columns_at c position (name ∷ columns) = source_at c.batching position columns (source_named c.declared name)

line_at : (c : CheckedProgram) (line : Line) → IfOk (record_of c line) (IsAt (line.number - 1))
line_at c line = either (nat_lt most_line_bytes (length line.bytes)) line.ended
  where
    either : (s t : Bool) → IfOk (cond s (Err TooLong) (cond t (record_in c (line.number - 1) (columns_of line.bytes)) (Err NoEnd))) (IsAt (line.number - 1))
    either true t = tt
    either false true = columns_at c (line.number - 1) (columns_of line.bytes)
    either false false = tt

-- the lines have the numbers from one on
abbrev AreNumbered : ℕ → List Line → Type 0
AreNumbered n [] = Unit {0}
AreNumbered n (line ∷ lines) = (line.number ≡ n) × AreNumbered (n + 1) lines

first_numbered : (n byte : ℕ) (lines : List Line) → AreNumbered n lines → AreNumbered n (onto_first n byte lines)
first_numbered n byte [] h = (refl, tt)
first_numbered n byte (line ∷ lines) h = h

lines_numbered : (n : ℕ) (bytes : List ℕ) → AreNumbered n (lines_from n bytes)
lines_numbered n [] = tt
lines_numbered n (byte ∷ bytes) = elim (byte == 10) as (λ b. AreNumbered n (cond b (record { number = n; bytes = []; ended = true } ∷ lines_from (n + 1) bytes) (onto_first n byte (lines_from n bytes)))) [
  | true ↦ (refl, lines_numbered (n + 1) bytes)
  | false ↦ first_numbered n byte (lines_from n bytes) (lines_numbered n bytes)
]

onto_at : (number i : ℕ) (first : Result Logged LineKind) (others : Result (List Logged) LogFault) → IfOk first (IsAt i) → IfOk others (HavePlaces (suc i)) → IfOk (onto_records number first others) (HavePlaces i)
onto_at number i (Err kind) others h k = tt
onto_at number i (Ok r) (Err fault) h k = tt
onto_at number i (Ok r) (Ok records) h k = (h, k)

records_at : (c : CheckedProgram) (n i : ℕ) (lines : List Line) → n ≡ i + 1 → AreNumbered n lines → IfOk (records_of c lines) (HavePlaces i)
records_at c n i [] e h = tt
records_at c n i (line ∷ lines) e h =
    onto_at line.number i (record_of c line) (records_of c lines)
    (subst (λ k. IfOk (record_of c line) (IsAt k)) (omega (arith, e, h.0)) (line_at c line)) (records_at c (n + 1) (suc i) lines (omega (arith, e)) h.1)

limit_at : (said : Result (List Logged) LogFault) → IfOk said (HavePlaces 0) → IfOk (within_limit said) (HavePlaces 0)
limit_at (Err fault) h = tt
limit_at (Ok records) h = elim (nat_lt most_records (length records)) as (λ b. IfOk (cond b (Err too_many) (Ok records)) (HavePlaces 0)) [ true ↦ tt | false ↦ h ]

pub log_placed : (c : CheckedProgram) (bytes : List ℕ) (records : List Logged) → log_of c bytes ≡ Ok records → HavePlaces 0 records
log_placed c bytes records is = subst (λ r. IfOk r (HavePlaces 0)) is (limit_at (records_of c (lines_from 1 bytes)) (records_at c 1 0 (lines_from 1 bytes) refl (lines_numbered 1 bytes)))
