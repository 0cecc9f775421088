use Rattle.std.proofs.Common.{rules, arith, ◌≡◌, ◌≢◌, ◌∙◌, true, false, Ok, Err, sym, ap}
use Rattle.std.proofs.lemmas.Grind.{common_steps}
use Rattle.sb_syntax.specs.Reading.{ahead, refusal}
use Rattle.sb_syntax.specs.Statements as p
use Rattle.sb_syntax.specs.Programs.{statements, is_done, begins_statement, code_of, fresh}
use Rattle.sb_syntax.proofs.Gives.{gives_err, gives_fault, statements_stop, statements_fail, statements_next}
use Rattle.sb_syntax.proofs.parsing.+statements.Goals as goal

pub returns-then-not-begins_statement : goal.returns-then-not-begins_statement
returns-then-not-begins_statement t c =
    let i = c.args.tokens.now in
    let done : is_done i ≡ false = grind (arith, common_steps) in
    let begins : begins_statement (ahead i) ≡ false = grind (arith, common_steps) in
    let code : c.code.result ≡ code_of (refusal i) i = grind (arith, common_steps) in
    gives_err (statements c.args.turns c.args.found i) c.code.result i (statements_stop c.args.turns c.args.found i done begins ∙ ap (λ x. Err (x, i)) (sym code))

pub returns-in-Err : goal.returns-in-Err
returns-in-Err t c =
    let i = c.args.tokens.now in
    let done : is_done i ≡ false = grind (arith, common_steps) in
    let begins : begins_statement (ahead i) ≡ true = grind (arith, common_steps) in
    let more : c.args.turns ≢ 0 = grind (arith, common_steps) in
    gives_fault (statements c.args.turns c.args.found i) c.in-Err.fault c.code-in-Err.result c.statement.new.tokens c.code-in-Err.ensures
    (λ some.
    let read : p.statement (fresh i) ≡ Err (c.in-Err.fault, c.statement.new.tokens) = rw (sym c.begin_statement.ensures) (c.in-Err.ensures some) in
    statements_fail c.args.turns c.args.found i c.in-Err.fault c.statement.new.tokens more done begins read)

pub returns : goal.returns
returns t c =
    let i = c.args.tokens.now in
    let done : is_done i ≡ false = grind (arith, common_steps) in
    let begins : begins_statement (ahead i) ≡ true = grind (arith, common_steps) in
    let more : c.args.turns ≢ 0 = grind (arith, common_steps) in
    let read : p.statement (fresh i) ≡ Ok (c.in-Ok.next, c.statement.new.tokens) = rw (sym c.begin_statement.ensures) c.in-Ok.ensures in
    let e = statements_next c.args.turns c.args.found i c.in-Ok.next c.statement.new.tokens more done begins read in
    first_of (search rules, grind (arith, common_steps))
