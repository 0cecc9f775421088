-- What is kept after an installation is valid, if what was kept before and the rows are.
use Rattle.std.proofs.Common.{◌<◌, ◌⊎◌, inl, inr}
use Rattle.std.specs.Prelude.{Contains}
use Rattle.std.proofs.lemmas.List.Elements.{All-from_recursion, recursion_from_All, All-weaker, All-contains, All-contains_itself}
use Rattle.sb_feed.specs.declared.key.KeyBytes.{KeyBytes}
use Rattle.sb_feed.specs.declared.rows.Rows.{Rows}
use Rattle.sb_feed.specs.Jobs.{Dictionaries, AreValid}
use Rattle.sb_shard.specs.Shards.{ShardValue, kept_by}
use Rattle.sb_shard.specs.Events.{KeepsOnly}

module _ {E : Type 0} (d : Dictionaries E) (next : Rows E) (before after : ShardValue E) where
  abbrev IsFine : KeyBytes × E → Type 0
  IsFine row = (row.0.store < d.stores) × d.valid row.0.store row.1

  fine : (row : KeyBytes × E) → AreValid d (kept_by before) → AreValid d next.rows → Contains (kept_by before) row ⊎ Contains next.rows row → IsFine row
  fine row kept rows (inl there) = All-contains IsFine (kept_by before) row (All-from_recursion IsFine (kept_by before) kept) there
  fine row kept rows (inr there) = All-contains IsFine next.rows row (All-from_recursion IsFine next.rows rows) there

  pub kept_valid : KeepsOnly next before after → AreValid d (kept_by before) → AreValid d next.rows → AreValid d (kept_by after)
  kept_valid only kept rows =
      recursion_from_All IsFine (kept_by after)
      (All-weaker (Contains (kept_by after)) IsFine (λ row there. fine row kept rows (only row there)) (kept_by after) (All-contains_itself (kept_by after)))
