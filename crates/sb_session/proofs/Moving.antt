-- An event that goes from shard to shard.
use Rattle.std.proofs.Common.{◌≡◌, ℕ, ◌+◌, ◌<◌, ◌≤◌, Bool, true, false, List, length, Some, refl, sym, ap, subst, ◌∙◌, arith}
use Rattle.std.specs.Prelude.{slice_get, slice_set, nat_lt, ◌==◌}
use Rattle.std.proofs.lemmas.Bool.{ltb-true, ltb-false, eqb-true, eqb-false}
use Rattle.std.proofs.lemmas.Option.{slice_get_within}
use Rattle.sb_feed.specs.Cuts.{chunk_count}
use Rattle.sb_feed.specs.Jobs.{Record, Job, meaning_of}
use Rattle.sb_feed.specs.Stands.{StandsFor}
use Rattle.sb_shard.specs.Shards.{ShardValue, shard_sums}
use Rattle.sb_session.specs.Sessions.{SessionValue, IsEach, IsShardAt, IsOver, StandEach, job_by}
use Rattle.sb_session.specs.Steps.{IsShardOver, Moves}
use Rattle.sb_session.proofs.Places.{length_set, get_same, get_other}

-- The shards before the next one are where the event leads, and the others where the session was.
pub record IsMoving {M E : Type 0} (valid : M → E → Type 0) (add : M → E → E → E) (job : Job M E) (worked published floor : ℕ) (before : SessionValue E) (next : ℕ) (now : SessionValue E) : Type 0 where
  pub same : now ≡ record before { shards = now.shards }
  pub number : length now.shards ≡ length before.shards
  pub done : (k : ℕ) (x : ShardValue E) → slice_get now.shards k ≡ Some x → k < next → IsShardAt valid add job worked published floor k x
  pub left : (k : ℕ) (x : ShardValue E) → slice_get now.shards k ≡ Some x → next ≤ k → IsShardAt valid add job before.worked before.published before.floor k x

module _ {M E : Type 0} (valid : M → E → Type 0) (add : M → E → E → E) (monoids : List M) (records : List (Record E)) where
  -- the shards of a session that is over a job stand for it
  pub over_stands : (session : SessionValue E) → IsOver valid add monoids records session → StandEach valid add monoids records session
  over_stands session over k x e = (over.shards k x e).stands

  module _ (w p f : ℕ) (before : SessionValue E) where
    job : Job M E
    job = job_by monoids records before.cut

    abbrev Moving : ℕ → SessionValue E → Type 0
    Moving = IsMoving valid add (job_by monoids records before.cut) w p f before

    pub starts : IsOver valid add monoids records before → Moving 0 before
    starts over = record {
      same = refl;
      number = refl;
      done = λ k x e less. absurd (omega (arith, less));
      left = λ k x e le. over.shards k x e;
    }

    pub next_over : (next : ℕ) (now : SessionValue E) → Moving next now → IsShardOver valid add monoids records now next
    next_over next now moving shard e =
        subst (λ (s : SessionValue E). IsShardAt valid add (job_by monoids records s.cut) s.worked s.published s.floor next shard) (sym moving.same) (moving.left next shard e (omega arith))

    cut_same : (next : ℕ) (now : SessionValue E) → Moving next now → now.cut ≡ before.cut
    cut_same next now moving = ap (λ s. s.cut) moving.same

    pub moves_on : (next : ℕ) (now after : SessionValue E) (w' p' f' : ℕ) → Moving next now → Moves valid add (job_by monoids records now.cut) w' p' f' next now after → w' ≡ w → p' ≡ p → f' ≡ f → Moving (next + 1) after
    moves_on next now after w' p' f' moving moves x y z = record {
      same = moves.put ∙ (ap (λ (s : SessionValue E). record s { shards = slice_set now.shards next moves.shard }) moving.same ∙ ap (λ l. record before { shards = l }) (sym put));
      number = ap length put ∙ (length_set now.shards next moves.shard ∙ moving.number);
      done = λ k s e less. done k s e less (k == next) refl;
      left = λ k s e le. moving.left k s (get_other now.shards next k moves.shard s (λ i. omega (arith, i, le)) (subst (λ l. slice_get l k ≡ Some s) put e)) (omega (arith, le));
    } where
      put : after.shards ≡ slice_set now.shards next moves.shard
      put = ap (λ s. s.shards) moves.put

      at : IsShardAt valid add (job_by monoids records before.cut) w p f next moves.shard
      at = subst (λ n. IsShardAt valid add (job_by monoids records before.cut) n p f next moves.shard) x
          (subst (λ n. IsShardAt valid add (job_by monoids records before.cut) w' n f next moves.shard) y
          (subst (λ n. IsShardAt valid add (job_by monoids records before.cut) w' p' n next moves.shard) z
          (subst (λ c. IsShardAt valid add (job_by monoids records c) w' p' f' next moves.shard) (cut_same next now moving) moves.at)))

      done : (k : ℕ) (s : ShardValue E) → slice_get after.shards k ≡ Some s → k < next + 1 → (b : Bool) → (k == next) ≡ b → IsShardAt valid add (job_by monoids records before.cut) w p f k s
      done k s e less true is =
          let here : k ≡ next = eqb-true k next is in
          let same = get_same now.shards next moves.shard s (subst (λ l. slice_get l next ≡ Some s) put (subst (λ n. slice_get after.shards n ≡ Some s) here e)) in
          subst (λ n. IsShardAt valid add (job_by monoids records before.cut) w p f n s) (sym here) (subst (IsShardAt valid add (job_by monoids records before.cut) w p f next) same at)
      done k s e less false is =
          let other : k ≡ next → ⊥ = λ i. eqb-false k next is i in
          moving.done k s (get_other now.shards next k moves.shard s other (subst (λ l. slice_get l k ≡ Some s) put e)) (omega (arith, less, eqb-false k next is))

    -- after the last shard all are where the event leads
    pub ends : (next : ℕ) (now : SessionValue E) → Moving next now → length before.shards ≤ next → IsEach (IsShardAt valid add (job_by monoids records before.cut) w p f) now.shards
    ends next now moving all k x e = moving.done k x e (let within = slice_get_within now.shards k x e in omega (arith, within, all, moving.number))

    pub over_moved : (next : ℕ) (now after : SessionValue E) → IsOver valid add monoids records before → Moving next now → length before.shards ≤ next
        → after ≡ record before { shards = now.shards; worked = w; published = p; floor = f } → w ≤ chunk_count before.cut → f ≤ p → p ≤ before.batches → IsOver valid add monoids records after
    over_moved next now after over moving all is worked low published = subst (IsOver valid add monoids records) (sym is) (record {
      job = over.job;
      number = moving.number ∙ over.number;
      length = over.length;
      batches = over.batches;
      worked = worked;
      published = (low, published);
      shards = ends next now moving all;
    })

    -- where the event leads, once its numbers are written
    pub over_closed : (next : ℕ) (now inner after : SessionValue E) (w' p' f' : ℕ) → IsOver valid add monoids records before → Moving next now → length before.shards ≤ next → inner ≡ now
        → after ≡ record inner { worked = w'; published = p'; floor = f' } → w' ≡ w → p' ≡ p → f' ≡ f → w ≤ chunk_count before.cut → f ≤ p → p ≤ before.batches → IsOver valid add monoids records after
    over_closed next now inner after w' p' f' over moving all same is x y z worked low published =
        over_moved next now after over moving all
        (is ∙ (ap (λ (s : SessionValue E). record s { worked = w'; published = p'; floor = f' }) (same ∙ moving.same)
        ∙ (λ i. record before { shards = now.shards; worked = x i; published = y i; floor = z i })))
        worked low published

    -- between two shards each stands for the job
    pub still_stands : (next : ℕ) (now : SessionValue E) → Moving next now → StandEach valid add monoids records now
    still_stands next now moving k x e =
        subst (λ c. StandsFor valid add (job_by monoids records c) k (shard_sums (meaning_of valid add (job_by monoids records c)).add x)) (sym (cut_same next now moving)) (either (nat_lt k next) refl)
      where
        either : (b : Bool) → nat_lt k next ≡ b → StandsFor valid add (job_by monoids records before.cut) k (shard_sums (meaning_of valid add (job_by monoids records before.cut)).add x)
        either true is = (moving.done k x e (ltb-true k next is)).stands
        either false is = (moving.left k x e (ltb-false k next is)).stands
