use Rattle.std.proofs.Common.{◌∙◌, ◌∷◌, [], sym, ap, arith, is_some, option_map, length-append}
use Rattle.std.specs.List.{flat_map}
use Rattle.sb_tokens.specs.Quote.{quoted_byte, bytes_quoted, text_quoted}
use Rattle.sb_tokens.specs.Token.{text}
use Rattle.sb_tokens.specs.View.{quoted_value}
use Rattle.sb_tokens.proofs.Quotes.{raw_again, raw_utf8, count_of_text, no_text}
use Rattle.sb_tokens.proofs.quoting.first_text.Goals as goal

pub returns-then-not-is_utf8-clause-value : goal.returns-then-not-is_utf8-clause-value
returns-then-not-is_utf8-clause-value c =
    no_text text (text_quoted c.args.behind.now)
    (raw_utf8 c.args.behind.now c.in_ok-count.count c.in_ok-count.ensures.value ∙ (sym c.is_utf8.ensures ∙ c.if-not-is_utf8.true))

pub new-requires : goal.new-requires
new-requires c =
    ap is_some (raw_again c.args.behind.now c.in_ok-count.count c.in_ok-count.ensures.value)
    ∙ (raw_utf8 c.args.behind.now c.in_ok-count.count c.in_ok-count.ensures.value ∙ (sym c.is_utf8.ensures ∙ c.if-not-is_utf8.false))

pub returns-clause-value : goal.returns-clause-value
returns-clause-value c = ap (option_map text) (c.new.ensures ∙ raw_again c.args.behind.now c.in_ok-count.count c.in_ok-count.ensures.value)

pub returns-clause-count : goal.returns-clause-count
returns-clause-count c =
    let is = c.new.ensures ∙ raw_again c.args.behind.now c.in_ok-count.count c.in_ok-count.ensures.value in
    let counted = count_of_text c.in_ok-count.count (quoted_value c.new.result) (bytes_quoted c.args.behind.now) c.in_ok-count.ensures.value is in
    omega (arith, counted, length-append (flat_map quoted_byte (quoted_value c.new.result)) (34 ∷ []))
