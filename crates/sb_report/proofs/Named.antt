-- The asks of a script are of stores that are declared.
use Rattle.std.proofs.Common.{ℕ, suc, ◌+◌, ◌<◌, Bool, true, false, cond, ◌&&◌, List, length, [], ◌∷◌, Option, Some, None, Ok, Err, Global, subst, arith}
use Rattle.std.specs.Prelude.{Result, IfSome, IfOk, option_map, bytes_eq, codes, nat_le}
use Rattle.std.specs.List.{AllByRecursion}
use Rattle.std.specs.declared.vec.Vec.{Vec}
use Rattle.sb_text.specs.Columns.{pieces}
use Rattle.sb_text.specs.Decimal.{natural}
use Rattle.sb_text.specs.Lines.{Line}
use Rattle.sb_check.specs.Declarations.{Declarations, Store}
use Rattle.sb_check.specs.Names.{found_from, store_named}
use Rattle.sb_feed.specs.Limits.{last_batch}
use Rattle.sb_report.specs.Limits.{most_script_lines, most_asked}
use Rattle.sb_report.specs.Script.{AsksOf, is_text_of, keyed_at, key_in, read_in, asof_at, asof_in, look_in, number_in, ask_in, ask_of, onto_asks, asks_of, ReadsScript}
use Rattle.sb_report.specs.declared.script.Ask.{Ask}
use Rattle.sb_report.specs.declared.script.Ask.TheVariants.{Read, Asof, Look, Work, Publish, Expire}
use Rattle.sb_report.specs.declared.script.ScriptError.{ScriptError}
use Rattle.sb_report.specs.declared.script.ScriptError.TheVariants.{BadLine, NoMemory}

-- a store that is found is one of so many
found_within : (name : List ℕ) (number : ℕ) (stores : List Store) → IfSome (found_from (λ s. s.name) number name stores) (λ s. s.0 < number + length stores)
found_within name number [] = tt
found_within name number (s ∷ stores) = onto (bytes_eq name s.name) (found_from (λ s. s.name) (number + 1) name stores) (found_within name (number + 1) stores)
  where
    later : (o : Option (ℕ × Store)) → IfSome o (λ f. f.0 < number + 1 + length stores) → IfSome o (λ f. f.0 < number + suc (length stores))
    later None h = tt
    later (Some f) h = omega (arith, h)

    onto : (b : Bool) (o : Option (ℕ × Store)) → IfSome o (λ f. f.0 < number + 1 + length stores) → IfSome (cond b (Some (number, s)) o) (λ f. f.0 < number + suc (length stores))
    onto true o h = omega arith
    onto false o h = later o h

module _ (d : Declarations) where
  abbrev IsNamed : Option Ask → Type 0
  IsNamed ask = IfSome ask (AsksOf (length d.stores))

  either : (t : Bool) (a b : Option Ask) → IsNamed a → IsNamed b → IsNamed (cond t a b)
  either true a b h k = h
  either false a b h k = k

  abbrev IsKeyed : Option (ℕ × List ℕ) → Type 0
  IsKeyed key = IfSome key (λ k. k.0 < length d.stores)

  keyed_if : (t : Bool) (k : ℕ × List ℕ) → k.0 < length d.stores → IsKeyed (cond t (Some k) None)
  keyed_if true k h = h
  keyed_if false k h = tt

  keyed_is : (key : List ℕ) (o : Option (ℕ × Store)) → IfSome o (λ s. s.0 < 0 + length d.stores) → IsKeyed (keyed_at key o)
  keyed_is key None h = tt
  keyed_is key (Some s) h = keyed_if (is_text_of s.1.key key) (s.0, key) (omega (arith, h))

  key_is : (words : List (List ℕ)) → IsKeyed (key_in d words)
  key_is [] = tt
  key_is (name ∷ []) = tt
  key_is (name ∷ key ∷ []) = keyed_is key (store_named d name) (found_within name 0 d.stores)
  key_is (name ∷ key ∷ word ∷ words) = tt

  asked_is : (ask : ℕ → List ℕ → Ask) → ((store : ℕ) (key : List ℕ) → store < length d.stores → AsksOf (length d.stores) (ask store key))
      → (o : Option (ℕ × List ℕ)) → IsKeyed o → IsNamed (option_map (λ k. ask k.0 k.1) o)
  asked_is ask named None h = tt
  asked_is ask named (Some k) h = named k.0 k.1 h

  asof_at_is : (batch : Option ℕ) (o : Option (ℕ × List ℕ)) → IsKeyed o → IsNamed (asof_at batch o)
  asof_at_is None o h = tt
  asof_at_is (Some batch) o h = asked_is (Asof batch) (λ store key lt. lt) o h

  asof_is : (words : List (List ℕ)) → IsNamed (asof_in d words)
  asof_is [] = tt
  asof_is (batch ∷ words) = asof_at_is (natural last_batch batch) (key_in d words) (key_is words)

  look_is : (words : List (List ℕ)) → IsNamed (look_in words)
  look_is [] = tt
  look_is (word ∷ words) = tt

  number_is : (ask : ℕ → Ask) → ((n : ℕ) → AsksOf (length d.stores) (ask n)) → (words : List (List ℕ)) → IsNamed (number_in ask words)
  number_is ask h [] = tt
  number_is ask h (n ∷ []) = elim (natural most_asked n) as (λ o. IsNamed (option_map ask o)) [ None ↦ tt | Some m ↦ h m ]
  number_is ask h (n ∷ word ∷ words) = tt

  ask_is : (words : List (List ℕ)) → IsNamed (ask_in d words)
  ask_is [] = tt
  ask_is (word ∷ words) =
      either (bytes_eq word (codes "read")) _ _ (asked_is Read (λ store key lt. lt) (key_in d words) (key_is words))
      (either (bytes_eq word (codes "asof")) _ _ (asof_is words)
      (either (bytes_eq word (codes "look")) _ _ (look_is words)
      (either (bytes_eq word (codes "work")) _ _ (number_is Work (λ n. tt) words)
      (either (bytes_eq word (codes "publish")) _ _ (number_is Publish (λ n. tt) words)
      (either (bytes_eq word (codes "expire")) _ None (number_is Expire (λ n. tt) words) tt)))))

  line_is : (line : Line) → IsNamed (ask_of d line)
  line_is line = either (line.ended && nat_le line.number most_script_lines) _ None (ask_is (pieces 32 line.bytes)) tt

  onto_is : (n : ℕ) (ask : Option Ask) (others : Result (List Ask) ℕ) → IsNamed ask → IfOk others (AllByRecursion (AsksOf (length d.stores))) → IfOk (onto_asks n ask others) (AllByRecursion (AsksOf (length d.stores)))
  onto_is n None others h k = tt
  onto_is n (Some ask) (Err line) h k = tt
  onto_is n (Some ask) (Ok asks) h k = (h, k)

  asks_are : (lines : List Line) → IfOk (asks_of d lines) (AllByRecursion (AsksOf (length d.stores)))
  asks_are [] = tt
  asks_are (line ∷ lines) = onto_is line.number (ask_of d line) (asks_of d lines) (line_is line) (asks_are lines)

  pub read_named : (lines : List Line) (result : Result (Vec Ask Global) ScriptError) → ReadsScript (asks_of d lines) result → IfOk result (λ asks. AllByRecursion (AsksOf (length d.stores)) asks.items)
  read_named lines (Ok asks) is = subst (λ said. IfOk said (AllByRecursion (AsksOf (length d.stores)))) is (asks_are lines)
  read_named lines (Err (BadLine line)) is = tt
  read_named lines (Err NoMemory) is = tt
