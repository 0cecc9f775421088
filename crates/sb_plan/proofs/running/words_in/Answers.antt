use Rattle.std.proofs.Common.{ap, sym, ◌∙◌, map}
use Rattle.sb_types.specs.Value.{text}
use Rattle.sb_terms.specs.declared.term.Term.TheVariants as term
use Rattle.sb_meaning.specs.Expression.{ev}
use Rattle.sb_meaning.specs.Operations.{bytes_in, elements_in}
use Rattle.sb_meaning.specs.Words.{words_of}
use Rattle.sb_plan.proofs.Gives.{ev_words}
use Rattle.sb_plan.proofs.running.words_in.Goals as goal

pub returns-in-Words : goal.returns-in-Words
returns-in-Words c = λ v.
    let most = c.in-Words.most in
    let part = c.in-One.part in
    ap (λ e. elements_in (ev e v)) (c.in-One.is ∙ ap (λ op. term.One op part) c.in-Words.is)
    ∙ (ev_words most part v ∙ ap (λ e. map text (words_of most (bytes_in (ev e v)))) (sym c.get.ensures))
