-- From a function that reads the bytes of a text in some form to the text that a call answers.
use Rattle.std.proofs.Common.{◌≡◌, ◌↔◌, true, false, cond, ℕ, List, [], ◌∷◌, ◌++◌, Option, Some, None, refl, sym, ap, ◌∙◌, IsUtf8, append_assoc}
use Rattle.std.specs.Str.{is_utf8}
use Rattle.std.proofs.lemmas.Str.{IsUtf8-from_is_utf8, is_utf8-from_IsUtf8}
use Rattle.std.specs.Prelude.{if◌then◌else◌, IfSome, IsSome, option_map}
use Rattle.sb_text.specs.Field.{onto_text}

spelled_at : (form : List ℕ → List ℕ) (bytes items : List ℕ) (text : Option (List ℕ)) → bytes ≡ form items
    → IfSome text (λ t. t ≡ items) → (IsSome text → IsUtf8 items) → IfSome text (λ t. IsUtf8 t × (bytes ≡ form t))
spelled_at form bytes items None is value utf8 = tt
spelled_at form bytes items (Some t) is value utf8 = rw value (utf8 refl, is)

pub spelled_by : (form : List ℕ → List ℕ) (read : List ℕ → Option (List ℕ)) (bytes items : List ℕ) (text : Option (List ℕ))
    → Some items ≡ read bytes → IfSome (read bytes) (λ t. bytes ≡ form t)
    → IfSome text (λ t. t ≡ items) → (IsSome text → IsUtf8 items) → IfSome text (λ t. IsUtf8 t × (bytes ≡ form t))
spelled_by form read bytes items text reads spelled = spelled_at form bytes items text (rw (sym reads) at spelled)

text_at : (items t : List ℕ) (text : Option (List ℕ)) → IfSome text (λ t. t ≡ items) → IsSome text → items ≡ t → text ≡ Some t
text_at items t None value some is = cc
text_at items t (Some u) value some is = ap Some (value ∙ is)

pub reads_every : (form : List ℕ → List ℕ) (read : List ℕ → Option (List ℕ)) (bytes items : List ℕ) (text : Option (List ℕ))
    → Some items ≡ read bytes → IfSome text (λ t. t ≡ items) → (IsUtf8 items → IsSome text)
    → (t : List ℕ) → IsUtf8 t → bytes ≡ form t → read (form t) ≡ Some t → text ≡ Some t
reads_every form read bytes items text reads value utf8 t is_utf8 is again =
    let e : Some items ≡ Some t = reads ∙ (ap read is ∙ again) in
    let same : items ≡ t = cc in
    text_at items t text value (utf8 (rw same is_utf8)) same

pub reads_none : (form : List ℕ → List ℕ) (read : List ℕ → Option (List ℕ)) (bytes : List ℕ) → None ≡ read bytes
    → (t : List ℕ) → bytes ≡ form t → read (form t) ≡ Some t → None ≡ Some t
reads_none form read bytes reads t is again = reads ∙ (ap read is ∙ again)

-- a byte in front of what is left goes to the end of what is done
pub onto_moved : (text : List ℕ) (b : ℕ) (rest : Option (List ℕ))
    → option_map (λ bytes. (text ++ b ∷ []) ++ bytes) rest ≡ option_map (λ bytes. text ++ bytes) (onto_text (Some b) rest)
onto_moved text b None = refl
onto_moved text b (Some bytes) = ap Some (append_assoc text (b ∷ []) bytes)

-- the text of bytes that are UTF-8
pub utf8_text : (items : List ℕ) (text : Option (List ℕ)) → IfSome text (λ t. t ≡ items) → (IsSome text ↔ IsUtf8 items)
    → text ≡ (if is_utf8 items then Some items else None)
utf8_text items text value utf8 =
    elim (is_utf8 items) as (λ b. is_utf8 items ≡ b → text ≡ cond b (Some items) None) [
      | true ↦ λ is. text_at items items text value (utf8.1 (IsUtf8-from_is_utf8 items is)) refl
      | false ↦ λ other. absent items text utf8.0 other
    ] refl where
      absent : (items : List ℕ) (text : Option (List ℕ)) → (IsSome text → IsUtf8 items) → is_utf8 items ≡ false → text ≡ None
      absent items None utf8 other = refl
      absent items (Some t) utf8 other = let is = is_utf8-from_IsUtf8 items (utf8 refl) in cc
