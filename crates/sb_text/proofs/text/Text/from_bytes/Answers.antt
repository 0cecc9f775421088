use Rattle.std.proofs.Common.{refl, subst, IsUtf8}
use Rattle.std.proofs.lemmas.Str.{IsUtf8-string_bytes}
use Rattle.sb_text.proofs.text.Text.from_bytes.Goals as goal

pub returns-in-Ok-clause-utf8 : goal.returns-in-Ok-clause-utf8
returns-in-Ok-clause-utf8 c = (λ _. subst (λ vec. IsUtf8 vec.items) c.in-Ok.ensures.ok (IsUtf8-string_bytes c.in-Ok.text), λ _. refl)
