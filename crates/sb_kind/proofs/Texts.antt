-- The text of an element, variant by variant.
use Rattle.std.proofs.Common.{◌≡◌, ◌∙◌, false, ℕ, zero, suc, List, [], ◌∷◌, ◌++◌, ◌+◌, map, drop, refl, ap, ap₂, sym, arith, add-one, append_assoc}
use Rattle.std.proofs.lemmas.Grind.{common_steps}
use Rattle.std.proofs.lemmas.Bool.Decides.{nat_tests}
use Rattle.std.specs.Fmt.{decimal}
use Rattle.std.specs.Prelude.{ℤ, ◌==◌, codes, if◌then◌else◌}
use Rattle.sb_types.specs.declared.values.Val.{Val}
use Rattle.sb_kind.specs.ElementText.{further, joined, val_text, item_text, entry_text, entry_line, element_text, text_layer}
use Rattle.sb_kind.specs.declared.agg.Agg.{Agg, Concat, Set, Top, Cms, Pair, Map}
use Rattle.sb_kind.specs.declared.agg.Agg.TheOpen as layer
use Rattle.sb_kind.specs.declared.agg.Agg.TheFolds.{fold-roll-Agg}
use Rattle.sb_kind.specs.declared.agg.Agg.TheVariants.{rolls-Concat, rolls-Set, rolls-Top, rolls-Cms, rolls-Pair, rolls-Map}

-- the texts from this place on
abbrev pub texts_from : ℕ → List (List ℕ) → List ℕ
texts_from zero ts = joined ts
texts_from (suc n) ts = further ts

lines : (es : List (Val × Agg)) → map entry_text (map (λ e. (e.0, element_text e.1)) es) ≡ map entry_line es
lines [] = refl
lines (e ∷ es) = ap (λ ts. entry_line e ∷ ts) (lines es)

pub text-Pair : (a x y : Agg) → a ≡ Pair x y → element_text a ≡ codes "(" ++ element_text x ++ codes "," ++ element_text y ++ codes ")"
text-Pair a x y is = ap element_text (is ∙ sym (rolls-Pair x y)) ∙ fold-roll-Agg (List ℕ) text_layer (layer.Pair x y)

pub text-Map : (a : Agg) (es : List (Val × Agg)) → a ≡ Map es → element_text a ≡ codes "{" ++ joined (map entry_line es) ++ codes "}"
text-Map a es is =
    ap element_text (is ∙ sym (rolls-Map es))
    ∙ (fold-roll-Agg (List ℕ) text_layer (layer.Map es) ∙ ap (λ ts. codes "{" ++ joined ts ++ codes "}") (lines es))

pub text-Concat : (a : Agg) (vs given : List Val) → a ≡ Concat vs → given ≡ vs → codes "[" ++ joined (map val_text given) ++ codes "]" ≡ element_text a
text-Concat a vs given is got =
    ap (λ l. codes "[" ++ joined (map val_text l) ++ codes "]") got ∙ sym (ap element_text (is ∙ sym (rolls-Concat vs)) ∙ fold-roll-Agg (List ℕ) text_layer (layer.Concat vs))

pub text-Set : (a : Agg) (vs given : List Val) → a ≡ Set vs → given ≡ vs → codes "{" ++ joined (map val_text given) ++ codes "}" ≡ element_text a
text-Set a vs given is got =
    ap (λ l. codes "{" ++ joined (map val_text l) ++ codes "}") got ∙ sym (ap element_text (is ∙ sym (rolls-Set vs)) ∙ fold-roll-Agg (List ℕ) text_layer (layer.Set vs))

pub text-Top : (a : Agg) (items given : List (ℤ × List ℕ)) → a ≡ Top items → given ≡ items → codes "[" ++ joined (map item_text given) ++ codes "]" ≡ element_text a
text-Top a items given is got =
    ap (λ l. codes "[" ++ joined (map item_text l) ++ codes "]") got ∙ sym (ap element_text (is ∙ sym (rolls-Top items)) ∙ fold-roll-Agg (List ℕ) text_layer (layer.Top items))

pub text-Cms : (a : Agg) (cells given : List ℕ) → a ≡ Cms cells → given ≡ cells → codes "[" ++ joined (map decimal given) ++ codes "]" ≡ element_text a
text-Cms a cells given is got =
    ap (λ l. codes "[" ++ joined (map decimal l) ++ codes "]") got ∙ sym (ap element_text (is ∙ sym (rolls-Cms cells)) ∙ fold-roll-Agg (List ℕ) text_layer (layer.Cms cells))

-- the text of a pair between its brackets
pub text_of_pair : (a x y left right : Agg) (before o1 o2 o3 o4 now : List ℕ) → a ≡ Pair x y → left ≡ x → right ≡ y → o1 ≡ before ++ codes "(" → o2 ≡ o1 ++ element_text left
    → o3 ≡ o2 ++ codes "," → o4 ≡ o3 ++ element_text right → now ≡ o4 ++ codes ")" → now ≡ before ++ element_text a
text_of_pair a x y left right before o1 o2 o3 o4 now is l r p q s t u =
    let text : element_text a ≡ codes "(" ++ element_text left ++ codes "," ++ element_text right ++ codes ")" =
    text-Pair a x y is ∙ sym (ap₂ (λ m n. codes "(" ++ element_text m ++ codes "," ++ element_text n ++ codes ")") l r) in
    grind (arith, common_steps, text)

-- the first of the texts from a place on
texts_next : (at : ℕ) (t : List ℕ) (ts : List (List ℕ)) → texts_from at (t ∷ ts) ≡ (if at == 0 then [] else codes ",") ++ t ++ texts_from (suc at) ts
texts_next zero t ts = refl
texts_next (suc n) t ts =
    let no : (suc n == 0) ≡ false = grind (arith, nat_tests) in
    ap (λ b. (if b then [] else codes ",") ++ t ++ further ts) (sym no)

-- one item more of a list is written
pub item_written : {X : Type 0} (line : X → List ℕ) (at : ℕ) (x : X) (xs : List X) (out with_comma now whole : List ℕ) → drop at xs ≡ x ∷ drop (suc at) xs
    → out ++ texts_from at (map line (drop at xs)) ≡ whole → with_comma ≡ out ++ (if at == 0 then [] else codes ",") → now ≡ with_comma ++ line x
    → now ++ texts_from (at + 1) (map line (drop (at + 1) xs)) ≡ whole
item_written line at x xs out with_comma now whole next written comma_is part =
    let comma : List ℕ = if at == 0 then [] else codes "," in
    let rest = texts_from (suc at) (map line (drop (suc at) xs)) in
    let first : texts_from at (map line (drop at xs)) ≡ (comma ++ line x) ++ rest = ap (λ l. texts_from at (map line l)) next ∙ texts_next at (line x) (map line (drop (suc at) xs)) in
    let made : now ≡ out ++ (comma ++ line x) = part ∙ (ap (λ l. l ++ line x) comma_is ∙ append_assoc out comma (line x)) in
    ap (λ n. now ++ texts_from n (map line (drop n xs))) (add-one at)
    ∙ (ap (λ l. l ++ rest) made ∙ (append_assoc out (comma ++ line x) rest ∙ (ap (λ l. out ++ l) (sym first) ∙ written)))

-- one entry more is written
pub entry_written : (at : ℕ) (entry : Val × Agg) (es : List (Val × Agg)) (out with_key now text : List ℕ) → drop at es ≡ entry ∷ drop (suc at) es
    → out ++ texts_from at (map entry_line (drop at es)) ++ codes "}" ≡ text → with_key ≡ out ++ (if at == 0 then [] else codes ",") ++ val_text entry.0 ++ codes "="
    → now ≡ with_key ++ element_text entry.1 → now ++ texts_from (at + 1) (map entry_line (drop (at + 1) es)) ++ codes "}" ≡ text
entry_written at entry es out with_key now text next written key part =
    let comma : List ℕ = if at == 0 then [] else codes "," in
    let rest = texts_from (suc at) (map entry_line (drop (suc at) es)) in
    let line = entry_line entry in
    let key_text = val_text entry.0 in
    let first : texts_from at (map entry_line (drop at es)) ≡ (comma ++ line) ++ rest =
    ap (λ l. texts_from at (map entry_line l)) next ∙ texts_next at line (map entry_line (drop (suc at) es)) in
    let made : now ≡ out ++ (comma ++ line) =
    part ∙ (ap (λ l. l ++ element_text entry.1) key ∙ (ap (λ l. l ++ element_text entry.1) (append_assoc (out ++ comma) key_text (codes "="))
    ∙ (append_assoc (out ++ comma) (key_text ++ codes "=") (element_text entry.1) ∙ append_assoc out comma line))) in
    ap (λ n. (now ++ texts_from n (map entry_line (drop n es))) ++ codes "}") (add-one at)
    ∙ (ap (λ l. (l ++ rest) ++ codes "}") made
    ∙ (ap (λ l. l ++ codes "}") (append_assoc out (comma ++ line) rest ∙ ap (λ l. out ++ l) (sym first)) ∙ written))

-- a map is opened
pub opened_map : (a : Agg) (es given : List (Val × Agg)) (before now : List ℕ) → a ≡ Map es → given ≡ es → now ≡ before ++ codes "{"
    → now ++ joined (map entry_line given) ++ codes "}" ≡ before ++ element_text a
opened_map a es given before now is got e =
    let lines_given = joined (map entry_line given) in
    ap (λ l. (l ++ lines_given) ++ codes "}") e
    ∙ (ap (λ l. l ++ codes "}") (append_assoc before (codes "{") lines_given)
    ∙ (append_assoc before (codes "{" ++ lines_given) (codes "}")
    ∙ ap (λ l. before ++ l) (ap (λ l. (codes "{" ++ joined (map entry_line l)) ++ codes "}") got ∙ sym (text-Map a es is))))
