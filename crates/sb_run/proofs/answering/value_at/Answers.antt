use Rattle.std.proofs.Common.{◌∙◌, ap, sym}
use Rattle.std.specs.List.{range_with_len}
use Rattle.sb_feed.specs.Places.{is_named}
use Rattle.sb_kind.specs.ElementText.{element_text}
use Rattle.sb_report.specs.Report.{fold_text}
use Rattle.sb_plan.specs.Runners.{online_add}
use Rattle.sb_run.specs.Answering.{job_in}
use Rattle.sb_feed.specs.Jobs.{job_fold}
use Rattle.sb_run.proofs.answering.value_at.Goals as goal

pub returns-clause-value : goal.returns-clause-value
returns-clause-value g c =
    let session = c.args.session.now in
    let serves = c.requires.0 in
    let key = c.args.key.now in
    c.in_ok-value.ensures ∙ (ap (fold_text element_text) (c.in_ok-reading.ensures.value
    ∙ ap (λ places. job_fold online_add (job_in c.args.feed.now session.cut) key (is_named places c.args.upto session.published (range_with_len 0 session.worked))) serves.places)
    ∙ sym (serves.values key.store c.requires.1.1.0 key.text (is_named g.run.places c.args.upto session.published (range_with_len 0 session.worked))))
