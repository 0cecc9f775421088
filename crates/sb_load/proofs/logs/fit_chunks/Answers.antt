use Rattle.std.proofs.Common.{◌≡◌, ◌∙◌, ap, sym, true, false, cond, Ok, Err, length, nat_le}
use Rattle.std.proofs.lemmas.List.{length-map}
use Rattle.std.specs.Int.{div_ceil}
use Rattle.sb_check.specs.Log.{logged_of}
use Rattle.sb_check.specs.LogView.{view_log}
use Rattle.sb_feed.specs.Limits.{most_chunks}
use Rattle.sb_load.specs.Inputs.{chunks_fit}
use Rattle.sb_load.specs.Steps.{records_of}
use Rattle.sb_load.specs.declared.refusal.Refusal.TheVariants as refused
use Rattle.sb_load.proofs.logs.fit_chunks.Goals as goal

pub returns-then-are_few-clause-read : goal.returns-then-are_few-clause-read
returns-then-are_few-clause-read c =
    let long : length (records_of c.args.log.now) ≡ length c.records.result.now = length-map (view_log c.args.log.now).records logged_of ∙ ap length (sym c.records.ensures.value) in
    let fits : chunks_fit c.args.chunk (length (records_of c.args.log.now)) ≡ true = ap (λ o. chunks_fit o (length (records_of c.args.log.now))) c.in-Some.is ∙ (ap (λ n. nat_le (div_ceil n c.in-Some.chunk) most_chunks) long ∙ (sym c.are_few.ensures ∙ c.if-are_few.true)) in
    λ loaded is. is ∙ ap (λ b. cond b (Ok tt) (Err refused.LogChunks)) fits

pub returns-then-are_few-clause-fits : goal.returns-then-are_few-clause-fits
returns-then-are_few-clause-fits c =
    let long : length (records_of c.args.log.now) ≡ length c.records.result.now = length-map (view_log c.args.log.now).records logged_of ∙ ap length (sym c.records.ensures.value) in
    ap (λ o. chunks_fit o (length (records_of c.args.log.now))) c.in-Some.is ∙ (ap (λ n. nat_le (div_ceil n c.in-Some.chunk) most_chunks) long ∙ (sym c.are_few.ensures ∙ c.if-are_few.true))

pub returns-else-are_few-clause-read : goal.returns-else-are_few-clause-read
returns-else-are_few-clause-read c =
    let long : length (records_of c.args.log.now) ≡ length c.records.result.now = length-map (view_log c.args.log.now).records logged_of ∙ ap length (sym c.records.ensures.value) in
    let fits : chunks_fit c.args.chunk (length (records_of c.args.log.now)) ≡ false = ap (λ o. chunks_fit o (length (records_of c.args.log.now))) c.in-Some.is ∙ (ap (λ n. nat_le (div_ceil n c.in-Some.chunk) most_chunks) long ∙ (sym c.are_few.ensures ∙ c.if-are_few.false)) in
    λ loaded is. is ∙ ap (λ b. cond b (Ok tt) (Err refused.LogChunks)) fits
