-- The keywords and how they are written.
use Rattle.std.specs.Prelude.{ℕ, List, [], ◌∷◌, Option, codes, bytes_eq}
use Rattle.std.specs.List.{find}
use Rattle.sb_tokens.specs.declared.keyword.Keyword.{Keyword}
use Rattle.sb_tokens.specs.declared.keyword.Keyword.TheVariants as k

abbrev pub keyword_text : Keyword → List ℕ
keyword_text k.Batch = codes "batch"
keyword_text k.From = codes "from"
keyword_text k.Source = codes "source"
keyword_text k.Service = codes "service"
keyword_text k.Let = codes "let"
keyword_text k.Store = codes "store"
keyword_text k.Merge = codes "merge"
keyword_text k.Map = codes "map"
keyword_text k.Filter = codes "filter"
keyword_text k.FlatMap = codes "flatMap"
keyword_text k.LeftJoin = codes "leftJoin"
keyword_text k.SumByKey = codes "sumByKey"
keyword_text k.Int = codes "int"
keyword_text k.Text = codes "text"
keyword_text k.Bool = codes "bool"
keyword_text k.Pair = codes "pair"
keyword_text k.Opt = codes "opt"
keyword_text k.List = codes "list"
keyword_text k.If = codes "if"
keyword_text k.Then = codes "then"
keyword_text k.Else = codes "else"
keyword_text k.Or = codes "or"
keyword_text k.And = codes "and"
keyword_text k.Not = codes "not"
keyword_text k.It = codes "it"
keyword_text k.True = codes "true"
keyword_text k.False = codes "false"
keyword_text k.NoneOf = codes "none"
keyword_text k.SomeOf = codes "some"
keyword_text k.Empty = codes "empty"
keyword_text k.Orelse = codes "orelse"
keyword_text k.Has = codes "has"
keyword_text k.Lower = codes "lower"
keyword_text k.Words = codes "words"
keyword_text k.Len = codes "len"
keyword_text k.Starts = codes "starts"
keyword_text k.Sum = codes "sum"
keyword_text k.Min = codes "min"
keyword_text k.Max = codes "max"
keyword_text k.First = codes "first"
keyword_text k.Last = codes "last"
keyword_text k.Concat = codes "concat"
keyword_text k.Set = codes "set"
keyword_text k.Top = codes "top"
keyword_text k.Cms = codes "cms"
keyword_text k.Hll = codes "hll"

abbrev pub keywords : List Keyword
keywords = k.Batch ∷ k.From ∷ k.Source ∷ k.Service ∷ k.Let ∷ k.Store ∷ k.Merge ∷ k.Map ∷ k.Filter ∷ k.FlatMap ∷ k.LeftJoin ∷ k.SumByKey ∷ k.Int ∷ k.Text ∷ k.Bool ∷ k.Pair ∷ k.Opt ∷ k.List ∷ k.If ∷ k.Then ∷ k.Else ∷ k.Or ∷ k.And ∷ k.Not ∷ k.It ∷ k.True ∷ k.False ∷ k.NoneOf ∷ k.SomeOf ∷ k.Empty ∷ k.Orelse ∷ k.Has ∷ k.Lower ∷ k.Words ∷ k.Len ∷ k.Starts ∷ k.Sum ∷ k.Min ∷ k.Max ∷ k.First ∷ k.Last ∷ k.Concat ∷ k.Set ∷ k.Top ∷ k.Cms ∷ k.Hll ∷ []

-- the keyword that the bytes are
abbrev pub keyword_of : List ℕ → Option Keyword
keyword_of bytes = find (λ keyword. bytes_eq (keyword_text keyword) bytes) keywords
