-- A function value that parses expressions to a depth.
use Rattle.std.specs.Prelude.{ℕ, Result}
use Rattle.std.specs.declared.alloc.Global.{Global}
use denote.Ref.{MutBor}
use Rattle.sb_grammar.specs.declared.expressions.Expr.{Expr}
use Rattle.sb_syntax.specs.declared.fault.Fault.{Fault}
use Rattle.sb_syntax.specs.Reading.{Input, Reads}
use Rattle.sb_syntax.specs.Expressions.{expr}

pub record Nests (depth : ℕ) (pre : Global → MutBor Input → ℕ → Type 0)
    (post : Global → MutBor Input → ℕ → Result Expr Fault → MutBor Input → Type 0) : Type 0 where
  pub callable : (alloc : Global) (old : MutBor Input) → pre alloc old depth
  pub reads : (alloc : Global) (old new : MutBor Input) (r : Result Expr Fault) → post alloc old depth r new → Reads (expr depth old.now) r new.now
