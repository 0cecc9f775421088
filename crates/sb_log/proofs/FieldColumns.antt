-- The fields of a record and their columns.
use Rattle.std.proofs.Common.{add-one, ◌≡◌, ◌∙◌, ◌+◌, ℕ, List, [], ◌∷◌, length, ap, refl}
use Rattle.sb_check.specs.Log.{field_count, value_in}
use Rattle.sb_service.specs.Fields as service
use Rattle.sb_types.specs.TyView.{view_fields}
use Rattle.sb_types.specs.ValueType.{ValueType, ints, texts, truths, pairs, options, lists, records}
use Rattle.sb_types.specs.declared.types.Field.{Field}

-- logs and services have fields of one form
pub same_value : (type : ValueType) (bytes : List ℕ) → service.value_in type bytes ≡ value_in type bytes
same_value ints bytes = refl
same_value texts bytes = refl
same_value truths bytes = refl
same_value (pairs a b) bytes = refl
same_value (options a) bytes = refl
same_value (lists a most) bytes = refl
same_value (records fields) bytes = refl

pub count_of : (fields : List Field) → field_count (view_fields fields) ≡ length fields
count_of [] = refl
count_of (field ∷ fields) = let rest : field_count (view_fields fields) ≡ length fields = count_of fields in ap (λ n. n + 1) rest ∙ add-one (length fields)
