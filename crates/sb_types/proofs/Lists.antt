-- Lists of values, of which only the lengths are known.
use Rattle.std.proofs.Common.{◌≡◌, ℕ, zero, suc, ◌<◌, List, [], ◌∷◌, length, refl, arith}
use Rattle.std.specs.declared.cmp.Ordering.TheVariants.{Less}
use Rattle.sb_types.specs.Order.{values_cmp}
use Rattle.sb_types.specs.Text.{parts_text, further_text}
use Rattle.sb_types.specs.Value.{Values}
use Rattle.sb_types.specs.ValView.{view_values}
use Rattle.sb_types.specs.declared.values.Val.{Val}

-- a proper prefix comes first
pub prefix_first : (vs ws : List Val) → length vs ≡ 0 → 0 < length ws → values_cmp (view_values vs) (view_values ws) ≡ Less
prefix_first [] [] ended some = absurd (omega arith)
prefix_first [] (w ∷ ws) ended some = refl
prefix_first (v ∷ vs) ws ended some = absurd (omega (arith, ended))

-- the texts of the parts from this place on
abbrev pub text_from : ℕ → Values → List ℕ
text_from zero vs = parts_text vs
text_from (suc n) vs = further_text vs
