-- The comment lines behind a checked program: `# store NAME key TYPE value MONOID online`, or
-- `ordered` in place of `online`.
use Rattle.std.specs.Prelude.{ℕ, Bool, codes, decimal, List, [], ◌++◌, if◌then◌else◌}
use Rattle.std.specs.List.{flat_map}
use Rattle.sb_types.specs.ValueType.{ValueType, ints, texts, truths, pairs, options, lists, records}
use Rattle.sb_kind.specs.Monoids.{commutes}
use Rattle.sb_check.specs.MonoidText.{monoid_text}
use Rattle.sb_check.specs.Declarations.{Store}

-- a type's tokens, each with a space behind it; a record has none, and is in no key
abbrev pub type_text : ValueType → List ℕ
type_text ints = codes "int "
type_text texts = codes "text "
type_text truths = codes "bool "
type_text (pairs a b) =
    codes "pair ( " ++ (type_text a ++ (codes ", " ++ (type_text b ++ codes ") ")))
type_text (options a) = codes "opt ( " ++ (type_text a ++ codes ") ")
type_text (lists a most) =
    codes "list ( " ++ (type_text a ++ (codes ", " ++ (decimal most ++ codes " ) ")))
type_text (records fields) = []

-- whether a live run may serve the store, or its sums depend on the order
abbrev pub order_text : Bool → List ℕ
order_text any_order = if any_order then codes "online\n" else codes "ordered\n"

abbrev pub comment : Store → List ℕ
comment s =
    codes "# store " ++ (s.name ++ (codes " key " ++ (type_text s.key ++ (codes "value "
    ++ (monoid_text s.monoid ++ order_text (commutes s.monoid))))))

-- a line for each store
abbrev pub comments : List Store → List ℕ
comments = flat_map comment
