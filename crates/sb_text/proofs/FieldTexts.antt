-- What `from_bytes` answers is the text that the bytes are.
use Rattle.std.proofs.Common.{◌≡◌, ◌↔◌, List, ℕ, Some, None, IsUtf8, IsSome, IfSome, true, false, cond, refl, ap}
use Rattle.std.specs.declared.option.Option.{Option}
use Rattle.std.specs.Str.{is_utf8}
use Rattle.std.proofs.lemmas.Str.{IsUtf8-from_is_utf8, is_utf8-from_IsUtf8}
use Rattle.sb_text.specs.Field.{utf8_of}

pub text_is_utf8_of : (text : Option (List ℕ)) (bytes : List ℕ) → IfSome text (λ t. t ≡ bytes) → (IsSome text ↔ IsUtf8 bytes) → text ≡ utf8_of (Some bytes)
text_is_utf8_of (Some text) bytes value utf8 = rw (is_utf8-from_IsUtf8 bytes (utf8.0 refl)) (ap Some value)
text_is_utf8_of None bytes value utf8 =
    elim (is_utf8 bytes) as (λ is. is_utf8 bytes ≡ is → None ≡ cond is (Some bytes) None) [
      | true ↦ λ is. let some = utf8.1 (IsUtf8-from_is_utf8 bytes is) in cc
      | false ↦ λ is. refl
    ] refl
