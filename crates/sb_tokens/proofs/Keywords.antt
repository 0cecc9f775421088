-- A keyword is found by its text alone.
use Rattle.std.proofs.Common.{◌≡◌, ℕ, true, false, cond, List, [], ◌∷◌, Some, refl, sym}
use Rattle.std.specs.Prelude.{IfSome, bytes_eq}
use Rattle.std.specs.List.{find}
use Rattle.std.proofs.lemmas.Slice.Eq.{bytes_eq-Decides}
use Rattle.sb_tokens.specs.declared.keyword.Keyword.{Keyword}
use Rattle.sb_tokens.specs.declared.keyword.Keyword.TheVariants as k
use Rattle.sb_tokens.specs.Keyword.{keyword_text, keyword_of}
use Rattle.sb_tokens.specs.Word.{is_word}

pub find-spelled : (bytes : List ℕ) (ks : List Keyword) → IfSome (find (λ keyword. bytes_eq (keyword_text keyword) bytes) ks) (λ keyword. bytes ≡ keyword_text keyword)
find-spelled bytes [] = tt
find-spelled bytes (first ∷ ks) =
    elim (bytes_eq (keyword_text first) bytes) as (λ b. bytes_eq (keyword_text first) bytes ≡ b
    → IfSome (cond b (Some first) (find (λ keyword. bytes_eq (keyword_text keyword) bytes) ks)) (λ keyword. bytes ≡ keyword_text keyword)) [
      | true ↦ λ same. sym ((bytes_eq-Decides (keyword_text first) bytes).0 same)
      | false ↦ λ _. find-spelled bytes ks
    ] refl

pub keyword_of-keyword_text : (keyword : Keyword) → keyword_of (keyword_text keyword) ≡ Some keyword
keyword_of-keyword_text k.Batch = refl
keyword_of-keyword_text k.From = refl
keyword_of-keyword_text k.Source = refl
keyword_of-keyword_text k.Service = refl
keyword_of-keyword_text k.Let = refl
keyword_of-keyword_text k.Store = refl
keyword_of-keyword_text k.Merge = refl
keyword_of-keyword_text k.Map = refl
keyword_of-keyword_text k.Filter = refl
keyword_of-keyword_text k.FlatMap = refl
keyword_of-keyword_text k.LeftJoin = refl
keyword_of-keyword_text k.SumByKey = refl
keyword_of-keyword_text k.Int = refl
keyword_of-keyword_text k.Text = refl
keyword_of-keyword_text k.Bool = refl
keyword_of-keyword_text k.Pair = refl
keyword_of-keyword_text k.Opt = refl
keyword_of-keyword_text k.List = refl
keyword_of-keyword_text k.If = refl
keyword_of-keyword_text k.Then = refl
keyword_of-keyword_text k.Else = refl
keyword_of-keyword_text k.Or = refl
keyword_of-keyword_text k.And = refl
keyword_of-keyword_text k.Not = refl
keyword_of-keyword_text k.It = refl
keyword_of-keyword_text k.True = refl
keyword_of-keyword_text k.False = refl
keyword_of-keyword_text k.NoneOf = refl
keyword_of-keyword_text k.SomeOf = refl
keyword_of-keyword_text k.Empty = refl
keyword_of-keyword_text k.Orelse = refl
keyword_of-keyword_text k.Has = refl
keyword_of-keyword_text k.Lower = refl
keyword_of-keyword_text k.Words = refl
keyword_of-keyword_text k.Len = refl
keyword_of-keyword_text k.Starts = refl
keyword_of-keyword_text k.Sum = refl
keyword_of-keyword_text k.Min = refl
keyword_of-keyword_text k.Max = refl
keyword_of-keyword_text k.First = refl
keyword_of-keyword_text k.Last = refl
keyword_of-keyword_text k.Concat = refl
keyword_of-keyword_text k.Set = refl
keyword_of-keyword_text k.Top = refl
keyword_of-keyword_text k.Cms = refl
keyword_of-keyword_text k.Hll = refl

pub keyword_is_word : (keyword : Keyword) → is_word (keyword_text keyword) ≡ true
keyword_is_word k.Batch = refl
keyword_is_word k.From = refl
keyword_is_word k.Source = refl
keyword_is_word k.Service = refl
keyword_is_word k.Let = refl
keyword_is_word k.Store = refl
keyword_is_word k.Merge = refl
keyword_is_word k.Map = refl
keyword_is_word k.Filter = refl
keyword_is_word k.FlatMap = refl
keyword_is_word k.LeftJoin = refl
keyword_is_word k.SumByKey = refl
keyword_is_word k.Int = refl
keyword_is_word k.Text = refl
keyword_is_word k.Bool = refl
keyword_is_word k.Pair = refl
keyword_is_word k.Opt = refl
keyword_is_word k.List = refl
keyword_is_word k.If = refl
keyword_is_word k.Then = refl
keyword_is_word k.Else = refl
keyword_is_word k.Or = refl
keyword_is_word k.And = refl
keyword_is_word k.Not = refl
keyword_is_word k.It = refl
keyword_is_word k.True = refl
keyword_is_word k.False = refl
keyword_is_word k.NoneOf = refl
keyword_is_word k.SomeOf = refl
keyword_is_word k.Empty = refl
keyword_is_word k.Orelse = refl
keyword_is_word k.Has = refl
keyword_is_word k.Lower = refl
keyword_is_word k.Words = refl
keyword_is_word k.Len = refl
keyword_is_word k.Starts = refl
keyword_is_word k.Sum = refl
keyword_is_word k.Min = refl
keyword_is_word k.Max = refl
keyword_is_word k.First = refl
keyword_is_word k.Last = refl
keyword_is_word k.Concat = refl
keyword_is_word k.Set = refl
keyword_is_word k.Top = refl
keyword_is_word k.Cms = refl
keyword_is_word k.Hll = refl
