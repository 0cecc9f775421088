use Rattle.std.proofs.Common.{◌≡◌, ◌∙◌, ap, Some, None}
use Rattle.sb_text.specs.Field.{field_escaped, field_unescaped, utf8_of}
use Rattle.sb_text.proofs.FieldForms.{field_unescaped-escaped, field_unescaped-spelled}
use Rattle.sb_text.proofs.FieldTexts.{text_is_utf8_of}
use Rattle.sb_text.proofs.Spellings.{spelled_by, reads_every, reads_none}
use Rattle.sb_text.proofs.fields.field_unescape.Goals as goal

pub returns-in-Some-clause-value : goal.returns-in-Some-clause-value
returns-in-Some-clause-value c =
    let spelled = rw c.in-Some.is at c.in_ok-text.ensures in
    text_is_utf8_of c.from_bytes.result c.in-Some.text.items c.from_bytes.ensures.value c.from_bytes.ensures.utf8 ∙ ap utf8_of spelled

pub returns-in-Some-clause-spelled : goal.returns-in-Some-clause-spelled
returns-in-Some-clause-spelled c =
    let reads : Some c.in-Some.text.items ≡ field_unescaped c.args.bytes.now = rw c.in-Some.is at c.in_ok-text.ensures in
    spelled_by field_escaped field_unescaped c.args.bytes.now c.in-Some.text.items c.from_bytes.result reads (field_unescaped-spelled c.args.bytes.now)
    c.from_bytes.ensures.value c.from_bytes.ensures.utf8.0

pub returns-in-Some-clause-every : goal.returns-in-Some-clause-every
returns-in-Some-clause-every c = λ t is_utf8 is.
    let reads : Some c.in-Some.text.items ≡ field_unescaped c.args.bytes.now = rw c.in-Some.is at c.in_ok-text.ensures in
    reads_every field_escaped field_unescaped c.args.bytes.now c.in-Some.text.items c.from_bytes.result reads
    c.from_bytes.ensures.value c.from_bytes.ensures.utf8.1 t is_utf8 is (field_unescaped-escaped t)

pub returns-in-None-clause-every : goal.returns-in-None-clause-every
returns-in-None-clause-every c = λ t is_utf8 is.
    let reads : None ≡ field_unescaped c.args.bytes.now = rw c.in-None.is at c.in_ok-text.ensures in
    reads_none field_escaped field_unescaped c.args.bytes.now reads t is (field_unescaped-escaped t)
