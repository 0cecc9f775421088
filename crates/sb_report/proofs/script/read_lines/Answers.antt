use Rattle.std.proofs.Common.{◌≡◌, ◌∙◌, ◌++◌, ◌∷◌, [], ap, sym, Some, rules}
use Rattle.sb_text.specs.Lines.{line_view}
use Rattle.sb_check.specs.CheckedView.{checked_of}
use Rattle.sb_report.specs.Script.{ask_of, asks_of, onto_asks}
use Rattle.sb_report.proofs.Asks.{behind, behind_one}
use Rattle.sb_report.proofs.script.read_lines.Goals as goal

pub loop-line-preserved : goal.loop-line-preserved
loop-line-preserved c =
    let declared = (checked_of c.args.c.now).declared in
    let asks = c.loop-line.asks.items in
    let line = c.in-Some.line in
    let rest = asks_of declared c.next.new.self in
    let pushed : c.push.new.self.items ≡ asks ++ c.in-Some-2.ask ∷ [] = search rules in
    let asked : ask_of declared (line_view line) ≡ Some c.in-Some-2.ask = search rules in
    ap (λ items. behind items rest) pushed
    ∙ (behind_one asks c.in-Some-2.ask line.number rest
    ∙ (ap (λ ask. behind asks (onto_asks line.number ask rest)) (sym asked)
    ∙ (ap (λ lines. behind asks (asks_of declared lines)) (sym c.in-Some.ensures.steps) ∙ c.loop-line.invariant)))
