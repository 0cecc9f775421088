-- The text of an element, which depends on the element alone.
use Rattle.std.specs.Prelude.{ℕ, ℤ, codes, List, [], ◌∷◌, ◌++◌, map}
use Rattle.std.specs.Fmt.{decimal, signed_decimal}
use Rattle.hex.specs.Hex.{encode_lower}
use Rattle.sb_text.specs.Escape.{escaped}
use Rattle.sb_types.specs.Text.{value_text}
use Rattle.sb_types.specs.ValView.{value_of}
use Rattle.sb_types.specs.declared.values.Val.{Val}
use Rattle.sb_kind.specs.declared.agg.Agg.{Agg}
use Rattle.sb_kind.specs.declared.agg.Agg.TheOpen as layer
use Rattle.sb_kind.specs.declared.agg.Agg.TheOpen.{Agg-F}
use Rattle.sb_kind.specs.declared.agg.Agg.TheFolds.{fold-Agg}

-- texts with a comma before each
abbrev pub further : List (List ℕ) → List ℕ
further [] = []
further (t ∷ ts) = codes "," ++ t ++ further ts

-- texts with a comma between each two
abbrev pub joined : List (List ℕ) → List ℕ
joined [] = []
joined (t ∷ ts) = t ++ further ts

abbrev pub val_text : Val → List ℕ
val_text v = value_text (value_of v)

-- a score and its item
abbrev pub item_text : ℤ × List ℕ → List ℕ
item_text item = codes "(" ++ signed_decimal item.0 ++ codes "," ++ escaped item.1 ++ codes ")"

-- a key and the text of its part
abbrev pub entry_text : Val × List ℕ → List ℕ
entry_text entry = val_text entry.0 ++ codes "=" ++ entry.1

-- one layer, in which each part is its text already
abbrev pub text_layer : Agg-F (List ℕ) → List ℕ
text_layer (layer.Sum n) = signed_decimal n
text_layer (layer.Min n) = signed_decimal n
text_layer (layer.Max n) = signed_decimal n
text_layer (layer.First v) = val_text v
text_layer (layer.Last v) = val_text v
text_layer (layer.Concat vs) = codes "[" ++ joined (map val_text vs) ++ codes "]"
text_layer (layer.Set vs) = codes "{" ++ joined (map val_text vs) ++ codes "}"
text_layer (layer.Top items) = codes "[" ++ joined (map item_text items) ++ codes "]"
text_layer (layer.Cms cells) = codes "[" ++ joined (map decimal cells) ++ codes "]"
text_layer (layer.Hll registers) = encode_lower registers
text_layer (layer.Pair left right) = codes "(" ++ left ++ codes "," ++ right ++ codes ")"
text_layer (layer.Map entries) = codes "{" ++ joined (map entry_text entries) ++ codes "}"

abbrev pub element_text : Agg → List ℕ
element_text = fold-Agg (List ℕ) text_layer

-- an entry with its part, as text
abbrev pub entry_line : Val × Agg → List ℕ
entry_line entry = entry_text (entry.0, element_text entry.1)
