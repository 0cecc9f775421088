-- How many steps a record takes at most, by the widths that the checker finds.
use Rattle.std.specs.Prelude.{◌≡◌, ◌≤◌, IsUtf8, ℕ, ◌+◌, ◌*◌, List, [], ◌∷◌, length, Result, Ok, Err}
use Rattle.std.specs.List.{AllByRecursion}
use Rattle.sb_grammar.specs.declared.programs.Stream.{Stream}
use Rattle.sb_grammar.specs.declared.programs.Head.TheOpen.{Head-F, Stream-F}
use Rattle.sb_grammar.specs.declared.programs.Head.TheFolds.{fold-Stream}
use Rattle.sb_grammar.specs.declared.programs.Stage.{Stage}
use Rattle.sb_grammar.specs.declared.programs.Stage.TheVariants as staged
use Rattle.sb_grammar.specs.declared.programs.Statement.{Statement}
use Rattle.sb_grammar.specs.declared.programs.Statement.TheVariants as statements
use Rattle.sb_grammar.specs.declared.programs.Program.{Program}
use Rattle.sb_check.specs.Programs.{CheckedProgram, check_of, statement_check}
use Rattle.sb_check.specs.Log.{Logged}
use Rattle.sb_service.specs.Rows.{Rows}
use Rattle.sb_plan.specs.Steps.{Costs, record_steps}
use Rattle.sb_plan.specs.TypedRecords.{IsDeclared, AreRowsOf}
use Rattle.sb_check.specs.Streams.{Walk, stage_walk, head_layer, stream_layer}
use Rattle.sb_check.specs.Declarations.{Declarations, TypedFlow, nothing}

-- the number of what is there, and 0 where a fault is
abbrev pub if_ok : {A E : Type 0} → (A → ℕ) → Result A E → ℕ
if_ok f (Ok a) = f a
if_ok f (Err e) = 0

-- a stage is entered by at most as many values as the stream before it is wide; a join takes no step
abbrev pub entering : Stage → TypedFlow → ℕ
entering (staged.Map e) s = s.width
entering (staged.Filter e) s = s.width
entering (staged.FlatMap e) s = s.width
entering (staged.LeftJoin name) s = 0

-- the widths that enter stages behind a stream, in sum
abbrev pub stages_bound : Declarations → List Stage → TypedFlow → ℕ
stages_bound d [] s = 0
stages_bound d (stage ∷ stages) s = entering stage s + if_ok (stages_bound d stages) (stage_walk d stage s)

-- the walk of a stream, and the widths that enter its stages in sum
abbrev pub Bounded : Type 0
Bounded = Walk × (Declarations → ℕ)

-- one layer, in which each stream inside has both already
abbrev pub head_bounds : Head-F Bounded Bounded → Bounded
head_bounds (Head-F.Name name) = (head_layer (Head-F.Name name), λ d. 0)
head_bounds (Head-F.Merge a b) = (head_layer (Head-F.Merge a.0 b.0), λ d. a.1 d + b.1 d)

abbrev pub stream_bounds : Stream-F Bounded Bounded → Bounded
stream_bounds l = (
  stream_layer (record { head = l.head.0; stages = l.stages }),
  λ d. l.head.1 d + if_ok (stages_bound d l.stages) (l.head.0 d),
)

-- the widths that enter the stages of a stream, each counted once
abbrev pub stream_bound : Stream → Declarations → ℕ
stream_bound s = (fold-Stream Bounded Bounded head_bounds stream_bounds s).1

-- ---- programs

abbrev pub statement_bound : Declarations → Statement → ℕ
statement_bound d (statements.Source name fields) = 0
statement_bound d (statements.Service name key value) = 0
statement_bound d (statements.Let name stream) = stream_bound stream d
statement_bound d (statements.Store name stream mono) = stream_bound stream d

abbrev pub statements_bound : List Statement → Declarations → ℕ
statements_bound [] d = 0
statements_bound (a ∷ as') d = statement_bound d a + if_ok (statements_bound as') (statement_check d a)

-- the widths that enter the `map`, `filter` and `flatMap` stages of a program's text, each stage counted once
abbrev pub program_bound : Program → ℕ
program_bound p = statements_bound p.statements nothing

-- where the program is checked, no record of the types that it declares takes more steps than its text's bound
abbrev pub AreWithin : Costs → CheckedProgram → Type 0
AreWithin costs c =
    check_of c.program ≡ Ok c → (services : List Rows) (r : Logged) → IsDeclared IsUtf8 c.declared r → AreRowsOf IsUtf8 c.declared services
    → record_steps costs services r ≤ program_bound c.program

-- so many steps before and after: where the program is checked, no more than the text's bound for each record of a log
abbrev pub IsLogWithin : CheckedProgram → List Rows → List Logged → ℕ → ℕ → Type 0
IsLogWithin c services log before after =
    check_of c.program ≡ Ok c → AllByRecursion (IsDeclared IsUtf8 c.declared) log → AreRowsOf IsUtf8 c.declared services
    → after ≤ before + length log * program_bound c.program
