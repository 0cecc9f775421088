use Rattle.std.proofs.Common.{◌≡◌, ◌++◌, List, take, drop}
use Rattle.std.specs.List.{IsDistinct}
use Rattle.std.specs.Map.{keys_of}
use Rattle.sb_feed.specs.declared.key.KeyBytes.{KeyBytes}
use Rattle.sb_feed.specs.Keys.{same_key}
use Rattle.sb_feed.specs.Jobs.{AreValid, meant}
use Rattle.sb_job.specs.Sums.{HasKeySums}
use Rattle.sb_offline.proofs.expiry.add_copies.Given as goal

abbrev pub invariant-loop-key : goal.invariant-loop-key
invariant-loop-key g l =
    let d = meant g.F.M.Semigroup.valid g.F.M.Semigroup.add (g.F.Family.monoids l.fn.family) in
    record {
      added : l.added ≡ l.key-index;
      valid : AreValid d l.sums;
      apart : IsDistinct same_key (keys_of l.sums);
      later : AreValid d (drop l.key-index l.values);
      sums : (before : List (KeyBytes × g.row.F-M-El.Denot)) → HasKeySums d before l.fn.sums → HasKeySums d (before ++ take l.key-index l.values) l.sums;
    }
