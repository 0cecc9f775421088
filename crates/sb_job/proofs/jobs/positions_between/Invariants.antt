use Rattle.std.proofs.Common.{◌≡◌, ◌≤◌, ℕ, map}
use Rattle.std.specs.Prelude.{max}
use Rattle.sb_feed.specs.Index.{positions_from}
use Rattle.sb_job.specs.Emitted.{is_between}
use Rattle.sb_job.proofs.Positions.{times}
use Rattle.sb_job.proofs.jobs.positions_between.Given as goal

abbrev pub invariant-loop-batch : goal.invariant-loop-batch
invariant-loop-batch g l =
    record {
      most : l.batch ≤ max l.fn.from l.batch-end;
      times : (n : ℕ) → times n l.positions.items ≡ times n (positions_from (is_between l.fn.from l.batch) 0 (map (λ r. r.batch) (g.F.Feed.records l.feed)));
    }
