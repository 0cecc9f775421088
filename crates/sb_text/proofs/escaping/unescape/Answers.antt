use Rattle.std.specs.Prelude.{option_and_then, if◌then◌else◌}
use Rattle.std.specs.Str.{is_utf8}
use Rattle.std.proofs.Common.{◌∙◌, ap, ◌≡◌, Some, None}
use Rattle.sb_text.specs.Escape.{escaped, unescaped}
use Rattle.sb_text.proofs.EscapedForms.{unescaped-escaped, unescaped-spelled}
use Rattle.sb_text.proofs.Spellings.{utf8_text, spelled_by, reads_every, reads_none}
use Rattle.sb_text.proofs.Utf8.{utf8_bytes}
use Rattle.sb_text.proofs.escaping.unescape.Goals as goal

pub returns-in-Some-clause-spelled : goal.returns-in-Some-clause-spelled
returns-in-Some-clause-spelled c =
    let reads : Some c.in-Some.text.items ≡ unescaped c.args.bytes.now = rw c.in-Some.is at c.in_ok-text.ensures in
    spelled_by escaped unescaped c.args.bytes.now c.in-Some.text.items c.from_bytes.result reads (unescaped-spelled c.args.bytes.now)
    c.from_bytes.ensures.value c.from_bytes.ensures.utf8.0

pub returns-in-Some-clause-every : goal.returns-in-Some-clause-every
returns-in-Some-clause-every c = λ t is_utf8 is.
    let reads : Some c.in-Some.text.items ≡ unescaped c.args.bytes.now = rw c.in-Some.is at c.in_ok-text.ensures in
    reads_every escaped unescaped c.args.bytes.now c.in-Some.text.items c.from_bytes.result reads
    c.from_bytes.ensures.value c.from_bytes.ensures.utf8.1 t is_utf8 is (unescaped-escaped t (utf8_bytes t is_utf8))

pub returns-in-None-clause-every : goal.returns-in-None-clause-every
returns-in-None-clause-every c = λ t is_utf8 is.
    let reads : None ≡ unescaped c.args.bytes.now = rw c.in-None.is at c.in_ok-text.ensures in
    reads_none escaped unescaped c.args.bytes.now reads t is (unescaped-escaped t (utf8_bytes t is_utf8))

pub returns-in-Some-clause-value : goal.returns-in-Some-clause-value
returns-in-Some-clause-value c =
    let reads : Some c.in-Some.text.items ≡ unescaped c.args.bytes.now = rw c.in-Some.is at c.in_ok-text.ensures in
    utf8_text c.in-Some.text.items c.from_bytes.result c.from_bytes.ensures.value c.from_bytes.ensures.utf8
    ∙ ap (option_and_then (λ t. if is_utf8 t then Some t else None)) reads
