-- A shard that stands for a job, after each of its events.
use Rattle.std.proofs.Common.{◌≡◌, ℕ, zero, suc, ◌+◌, ◌-◌, ◌*◌, ◌<◌, false, ◌&&◌, List, [], ◌∷◌, length, Some, refl, sym, ap, subst, ◌∙◌, arith}
use mathlib.Core.Logic.{inl, inr, ◌⊎◌}
use Rattle.std.specs.Prelude.{max, min, slice_get, slice_index_or, slice_set, Contains}
use Rattle.std.specs.List.{AllByRecursion, range_with_len}
use Rattle.std.proofs.lemmas.List.Elements.{Contains-append_right}
use Rattle.std.proofs.lemmas.List.FromFn.{length-range_with_len}
use Rattle.sb_text.specs.Ranges.{union}
use Rattle.sb_laws.proofs.Positions.{ap_both}
use Rattle.sb_feed.specs.declared.key.KeyBytes.{KeyBytes}
use Rattle.sb_feed.specs.declared.parts.Part.{Part}
use Rattle.sb_feed.specs.declared.parts.Parcel.{Parcel}
use Rattle.sb_feed.specs.declared.rows.Rows.{Rows}
use Rattle.sb_feed.specs.Cuts.{CutValue}
use Rattle.sb_feed.specs.Places.{batches_of, is_in}
use Rattle.sb_feed.specs.Jobs.{Record, Job, Dictionaries, meant, Commute, AreValid, IsLogOf, places_of}
use Rattle.sb_feed.specs.Stands.{keyed_values}
use Rattle.sb_shard.specs.Shards.{ShardValue, published_to, cover_of, floor_of, kept_by}
use Rattle.sb_shard.specs.Events.{FlushKeeps, InstallKeeps, ExpireKeeps, KeepsOnly}
use Rattle.sb_job.specs.Batches.{AreBatchRows, shard_rows}
use Rattle.sb_job.specs.Parcels.{shard_parcel}
use Rattle.sb_job.specs.Emitted.{parts_where, is_between}
use Rattle.sb_job.proofs.Shards.{stand_for_shard}
use Rattle.sb_session.specs.Sessions.{SessionValue, IsShardAt, job_by}
use Rattle.sb_session.specs.Steps.{IsNew, IsNextParcel, IsShardOver, Installs, Moves}
use Rattle.sb_session.proofs.Covers.{union_next, fresh_next, in_chunks}
use Rattle.sb_session.proofs.Places.{set_there}
use Rattle.sb_session.proofs.Sessions.{is_parcel}

at_place : {A : Type 0} (P : A → Type 0) (xs : List A) (x d : A) (k : ℕ) → k < length xs → slice_index_or xs k d ≡ x → AllByRecursion P xs → P x
at_place P [] x d k less e h = absurd (omega (arith, less))
at_place P (y ∷ xs) x d zero less e h = subst P e h.0
at_place P (y ∷ xs) x d (suc k) less e h = at_place P xs x d k (omega (arith, less)) e h.1

-- what holds of each element that a list contains
each_contained : {A : Type 0} (P : A → Type 0) (xs : List A) → ((x : A) → Contains xs x → P x) → AllByRecursion P xs
each_contained P [] h = tt
each_contained P (y ∷ xs) h = (h y (0, omega arith, refl), each_contained P xs (λ x c. h x (Contains-append_right (y ∷ []) xs x c)))

module _ {M E : Type 0} (valid : M → E → Type 0) (add : M → E → E → E) (monoids : List M) (records : List (Record E)) (cut : CutValue) where
  abbrev d : Dictionaries E
  d = meant valid add monoids

  abbrev job : Job M E
  job = job_by monoids records cut

  -- a shard with nothing in it
  pub new_at : (number : ℕ) (shard : ShardValue E) → IsNew shard → IsShardAt valid add job 0 0 0 number shard
  new_at number shard new = record {
    stands = record { folds = new.folds d.stores d.add job.log number; valid = subst (AreValid d) (sym new.kept) tt };
    cover = new.cover;
    published = new.published;
    floor = new.floor;
  }

  -- its parcel of the next chunks is flushed
  pub flushed_at : (w p f number : ℕ) (before after : ShardValue E) (parcel : Parcel E) → Commute d → IsLogOf d job.log → IsShardAt valid add job w p f number before → IsNextParcel valid add job w (w + length parcel.chunks) number parcel
      → FlushKeeps valid add monoids parcel before after → cover_of after ≡ union (cover_of before) parcel.chunks → (published_to after ≡ published_to before) × (floor_of after ≡ floor_of before)
      → IsShardAt valid add job (w + length parcel.chunks) p f number after
  flushed_at w p f number before after parcel commute log at next keeps cover numbers = record {
    stands = keeps job number refl (record { commute = commute; records = log }) next.stands at.stands;
    cover = cover ∙ (ap_both union at.cover next.chunks ∙ union_next w (w + length parcel.chunks - w) (w + length parcel.chunks) (omega arith));
    published = numbers.0 ∙ at.published;
    floor = numbers.1 ∙ at.floor;
  }

  -- none of the next chunks is in its cover
  pub next_fresh : (w p f number n : ℕ) (shard : ShardValue E) (parcel : Parcel E) → IsShardAt valid add job w p f number shard → IsNextParcel valid add job w n number parcel → (c : ℕ) → (is_in (cover_of shard) c && is_in parcel.chunks c) ≡ false
  next_fresh w p f number n shard parcel at next c = ap_both (λ held more. is_in held c && is_in more c) at.cover next.chunks ∙ fresh_next w (n - w) c

  -- its floor is raised
  pub raised_at : (w p f asked number : ℕ) (before after : ShardValue E) → Commute d → IsLogOf d job.log → IsShardAt valid add job w p f number before
      → ExpireKeeps valid add monoids asked before after → cover_of after ≡ cover_of before → (floor_of after ≡ max (floor_of before) asked) × (published_to after ≡ published_to before)
      → IsShardAt valid add job w p (max f asked) number after
  raised_at w p f asked number before after commute log at keeps cover numbers = record {
    stands = keeps job number refl (record { commute = commute; records = log }) (inl refl) at.stands;
    cover = cover ∙ at.cover;
    published = numbers.1 ∙ at.published;
    floor = numbers.0 ∙ ap (λ n. max n asked) at.floor;
  }

  -- its rows of the next batch are installed
  installed_at : (w p f number : ℕ) (before after : ShardValue E) (rows : Rows E) → IsShardAt valid add job w p f number before → p < batches_of (places_of job.log) → AreBatchRows d records rows
      → InstallKeeps (shard_rows cut.shards rows number) before after → KeepsOnly (shard_rows cut.shards rows number) before after
      → cover_of after ≡ cover_of before → floor_of after ≡ floor_of before → published_to after ≡ rows.to → IsShardAt valid add job w rows.to f number after
  installed_at w p f number before after rows at below made keeps only cover floor published = record {
    stands = record {
      folds = keeps d.stores d.add job.log number own.folds (omega (arith, below, at.published)) at.stands.folds;
      valid = each_contained P (kept_by after) (λ row held. either row (only row held));
    };
    cover = cover ∙ at.cover;
    published = published;
    floor = floor ∙ at.floor;
  } where
    own : Rattle.sb_feed.specs.Stands.AreRowsOf d job.log number (shard_rows cut.shards rows number)
    own = stand_for_shard d job.log rows number made

    P : KeyBytes × E → Type 0
    P row = (row.0.store < d.stores) × d.valid row.0.store row.1

    either : (row : KeyBytes × E) → Contains (kept_by before) row ⊎ Contains (shard_rows cut.shards rows number).rows row → P row
    either row (inl c) = at_place P (kept_by before) row row c.0 c.1 c.2 at.stands.valid
    either row (inr c) = at_place P (shard_rows cut.shards rows number).rows row row c.0 c.1 c.2 own.valid

  -- the parcels of the next chunks
  pub next_parcel : (w upto from to number : ℕ) (chunks : List ℕ) (parts : List (Part E)) → 0 < cut.chunk → cut.records ≡ length records → w < upto → IsLogOf d job.log
      → from ≡ w * cut.chunk → to ≡ min (upto * cut.chunk) cut.records → chunks ≡ range_with_len w (upto - w) → parts ≡ parts_where (is_between from to) 0 records
      → IsNextParcel valid add job w upto number (shard_parcel cut.shards (record { chunks = chunks; parts = parts }) number)
  next_parcel w upto from to number chunks parts some whole less log e f are made = record {
    chunks = are;
    stands = is_parcel d job.log (is_between from to) chunks parts number log made
        (λ i there. in_chunks w upto cut.chunk (length records) from to (upto - w) i some there e (f ∙ ap (min (upto * cut.chunk)) whole) (omega (arith, less)) ∙ ap (λ c. is_in c (Rattle.sb_feed.specs.Places.chunk_at (places_of job.log) i)) (sym are));
  }

-- the rows of a batch that a shard installs are its own among these
pub record AreOwnRows {E : Type 0} (d : Dictionaries E) (records : List (Record E)) (shards batch number : ℕ) (rows : Rows E) : Type 0 where
  pub all : Rows E
  pub made : AreBatchRows d records all
  pub own : rows ≡ shard_rows shards all number
  pub from : all.from ≡ batch
  pub to : all.to ≡ batch + 1

-- ---- the session, in which one shard changed

-- put back as it was
pub unmoved : {E : Type 0} (session now after : SessionValue E) (number : ℕ) (x y : ShardValue E) → session ≡ now → slice_get session.shards number ≡ Some x → after ≡ record session { shards = slice_set session.shards number y } → y ≡ x → after ≡ now
unmoved session now after number x y same there is back =
    is ∙ (ap (λ l. record session { shards = l }) (ap (slice_set session.shards number) back ∙ set_there session.shards number x there) ∙ same)

module _ {M E : Type 0} (valid : M → E → Type 0) (add : M → E → E → E) (monoids : List M) (records : List (Record E)) (session now after : SessionValue E) (number : ℕ) (x y : ShardValue E)
    (same : session ≡ now) (there : slice_get session.shards number ≡ Some x) (is : after ≡ record session { shards = slice_set session.shards number y }) where
  there_now : slice_get now.shards number ≡ Some x
  there_now = subst (λ (s : SessionValue E). slice_get s.shards number ≡ Some x) same there

  put_now : after ≡ record now { shards = slice_set now.shards number y }
  put_now = is ∙ ap (λ (s : SessionValue E). record s { shards = slice_set s.shards number y }) same

  pub flush_moves : (parcel : Parcel E) → Commute (meant valid add monoids) → IsLogOf (meant valid add monoids) (job_by monoids records now.cut).log → IsShardOver valid add monoids records now number
      → IsNextParcel valid add (job_by monoids records now.cut) now.worked (now.worked + length parcel.chunks) number parcel
      → cover_of y ≡ union (cover_of x) parcel.chunks → (published_to y ≡ published_to x) × (floor_of y ≡ floor_of x) → FlushKeeps valid add monoids parcel x y
      → Moves valid add (job_by monoids records now.cut) (now.worked + length parcel.chunks) now.published now.floor number now after
  flush_moves parcel commute log over next cover numbers keeps = record {
    shard = y;
    at = flushed_at valid add monoids records now.cut now.worked now.published now.floor number x y parcel commute log (over x there_now) next keeps cover numbers;
    put = put_now;
  }

  pub raise_moves : (asked : ℕ) → Commute (meant valid add monoids) → IsLogOf (meant valid add monoids) (job_by monoids records now.cut).log → IsShardOver valid add monoids records now number
      → ExpireKeeps valid add monoids asked x y → cover_of y ≡ cover_of x → (floor_of y ≡ max (floor_of x) asked) × (published_to y ≡ published_to x)
      → Moves valid add (job_by monoids records now.cut) now.worked now.published (max now.floor asked) number now after
  raise_moves asked commute log over keeps cover numbers = record {
    shard = y;
    at = raised_at valid add monoids records now.cut now.worked now.published now.floor asked number x y commute log (over x there_now) keeps cover numbers;
    put = put_now;
  }

module _ {E : Type 0} (session now after : SessionValue E) (number : ℕ) (x y : ShardValue E) (same : session ≡ now) (there : slice_get session.shards number ≡ Some x) (is : after ≡ record session { shards = slice_set session.shards number y }) where
  pub installs : (rows : Rows E) → ((shard : ShardValue E) → slice_get now.shards number ≡ Some shard → published_to shard ≡ rows.from) → rows.to ≡ rows.from + 1
      → published_to y ≡ published_to x + 1 → (cover_of y ≡ cover_of x) × (floor_of y ≡ floor_of x) → InstallKeeps rows x y → KeepsOnly rows x y → Installs rows number now after
  installs rows from to more others folds kept = record {
    old = x;
    new = y;
    there = there_now;
    put = is ∙ ap (λ (s : SessionValue E). record s { shards = slice_set s.shards number y }) same;
    folds = folds;
    kept = kept;
    cover = others.0;
    floor = others.1;
    published = more ∙ (ap (λ n. n + 1) (from x there_now) ∙ sym to);
  } where
    there_now : slice_get now.shards number ≡ Some x
    there_now = subst (λ (s : SessionValue E). slice_get s.shards number ≡ Some x) same there

-- the rows that are installed take their shard on
pub installs_on : {M E : Type 0} (valid : M → E → Type 0) (add : M → E → E → E) (monoids : List M) (records : List (Record E)) (now after : SessionValue E) (number batch batches : ℕ) (rows : Rows E) → AreOwnRows (meant valid add monoids) records now.cut.shards batch number rows
    → IsShardOver valid add monoids records now number → batches ≡ batches_of (places_of (job_by monoids records now.cut).log) → now.published < batches → Installs rows number now after
    → Moves valid add (job_by monoids records now.cut) now.worked (batch + 1) now.floor number now after
installs_on valid add monoids records now after number batch batches rows own over count below installs = record {
  shard = installs.new;
  at = subst (λ p. IsShardAt valid add (job_by monoids records now.cut) now.worked p now.floor number installs.new) own.to
      (installed_at valid add monoids records now.cut now.worked now.published now.floor number installs.old installs.new own.all (over installs.old installs.there) (omega (arith, below, count)) own.made
      (subst (λ r. InstallKeeps r installs.old installs.new) own.own installs.folds) (subst (λ r. KeepsOnly r installs.old installs.new) own.own installs.kept) installs.cover installs.floor (installs.published ∙ ap (λ r. r.to) own.own));
  put = installs.put;
}

-- the parcel of the next chunks is that of the session while it is flushed
pub next_now : {M E : Type 0} (valid : M → E → Type 0) (add : M → E → E → E) (monoids : List M) (records : List (Record E)) (before now : SessionValue E) (upto number : ℕ) (parcel : Parcel E) → now ≡ record before { shards = now.shards } → before.worked < upto
    → IsNextParcel valid add (job_by monoids records before.cut) before.worked upto number parcel
    → IsNextParcel valid add (job_by monoids records now.cut) now.worked (now.worked + length parcel.chunks) number parcel × (now.worked + length parcel.chunks ≡ upto)
next_now {E = E} valid add monoids records before now upto number parcel same some next = (
  subst (λ (s : SessionValue E). IsNextParcel valid add (job_by monoids records s.cut) s.worked (s.worked + length parcel.chunks) number parcel) (sym same)
      (subst (λ n. IsNextParcel valid add (job_by monoids records before.cut) before.worked n number parcel) (sym upto_is) next),
  ap (λ (s : SessionValue E). s.worked + length parcel.chunks) same ∙ upto_is,
) where
  upto_is : before.worked + length parcel.chunks ≡ upto
  upto_is = omega (arith, some, ap length next.chunks, length-range_with_len before.worked (upto - before.worked))
