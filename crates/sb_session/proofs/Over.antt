-- What a session over a feed reads.
use Rattle.std.proofs.Common.{◌≡◌, ℕ, ◌+◌, ◌<◌, ◌≤◌, List, [], ◌∷◌, length, map, get_or, Option, Some, None, refl, sym, ap, subst, ◌∙◌, arith}
use mathlib.Core.Logic.{inl, inr, ◌⊎◌}
use Rattle.std.specs.Prelude.{slice_get}
use Rattle.std.specs.List.{AllByRecursion}
use Rattle.std.proofs.lemmas.Bool.{eq-eqb}
use Rattle.std.proofs.lemmas.Option.{slice_get_read}
use Rattle.sb_laws.specs.Sums.{sum_of, IsValid, SemigroupLaws}
use Rattle.sb_laws.proofs.Positions.{ap_both, fold_valid}
use Rattle.sb_laws.proofs.Sums.{valid_append}
use Rattle.sb_feed.specs.declared.key.KeyBytes.{KeyBytes}
use Rattle.sb_feed.specs.Cuts.{CutValue}
use Rattle.sb_feed.specs.Keys.{shard_of}
use Rattle.sb_feed.specs.Places.{batch_count, is_named}
use Rattle.sb_feed.specs.Jobs.{Record, Job, Dictionaries, meant, Commute, IsRecord, IsLogOf, places_of, log_values, job_fold}
use Rattle.sb_feed.specs.Stands.{StandsFor}
use Rattle.sb_feed.proofs.LogValues.{log_values_valid}
use Rattle.sb_shard.specs.declared.answer.Answer.{Answer}
use Rattle.sb_shard.specs.declared.answer.AskError.{AskError}
use Rattle.sb_shard.specs.declared.answer.AskError.TheVariants.{Expired, NoMemory}
use Rattle.sb_shard.specs.Shards.{ShardValue, shard_sums}
use Rattle.sb_shard.specs.Asks.{Answers, values_of, one_or_none, MakesNamed}
use Rattle.sb_session.specs.Sessions.{SessionValue, job_by, IsOver, read_fold}
use Rattle.sb_session.specs.Steps.{IsNew}
use Rattle.sb_session.proofs.Places.{each_of, from_all}
use Rattle.sb_session.proofs.Stands.{new_at}

seconds_valid : {E : Type 0} (V : E → Type 0) (pairs : List (ℕ × E)) → AllByRecursion (λ pair. V pair.1) pairs → AllByRecursion V (map (λ pair. pair.1) pairs)
seconds_valid V [] h = tt
seconds_valid V (pair ∷ pairs) h = (h.0, seconds_valid V pairs h.1)

one_valid : {E : Type 0} (V : E → Type 0) (o : Option E) → IsValid V o → AllByRecursion V (one_or_none o)
one_valid V None h = tt
one_valid V (Some x) h = (h, tt)

-- a batch that the floor doesn't pass isn't refused as expired
pub not_expired : (e : AskError) (asked at upto low floor : ℕ) → e ≡ Expired asked at → (e ≡ NoMemory) ⊎ (e ≡ Expired upto low) → (e ≡ Expired upto low → upto + 1 < low) → low ≡ floor → floor ≤ upto + 1 → ⊥
not_expired e asked at upto low floor is (inl none) above same may = (let clash : Expired asked at ≡ NoMemory = sym is ∙ none in cc)
not_expired e asked at upto low floor is (inr expired) above same may = let past = above expired in omega (arith, past, same, may)

module _ {M E : Type 0} (valid : M → E → Type 0) (add : M → E → E → E) (monoids : List M) (records : List (Record E)) where
  abbrev d : Dictionaries E
  d = meant valid add monoids

  abbrev job : CutValue → Job M E
  job cut = job_by monoids records cut

  -- a session that begins
  pub over_new : (shards : List (ShardValue E)) (cut : CutValue) (batches : ℕ) → AllByRecursion (IsRecord d) records → length shards ≡ cut.shards → cut.records ≡ length records → batches ≡ batch_count (map (λ r. r.batch) records)
      → AllByRecursion IsNew shards → IsOver valid add monoids records (record { shards = shards; cut = cut; batches = batches; worked = 0; published = 0; floor = 0 })
  over_new shards cut batches log number whole count new = record {
    job = log;
    number = number;
    length = whole;
    batches = count;
    worked = omega arith;
    published = (omega arith, omega arith);
    shards = each_of _ shards (from_all IsNew _ 0 shards (new_at valid add monoids records cut) new);
  }

  -- the values that a shard answers are valid
  pub answered_valid : (cut : CutValue) (number : ℕ) (shard : ShardValue E) (key : KeyBytes) (upto : ℕ) (answer : Answer E) → IsLogOf d (job cut).log → StandsFor valid add (job cut) number (shard_sums d.add shard)
      → key.store < d.stores → SemigroupLaws (d.valid key.store) (d.add key.store) → Answers d shard key upto answer → AllByRecursion (d.valid key.store) (values_of answer)
  answered_valid cut number shard key upto answer log stands there laws answers =
      valid_append (d.valid key.store) (one_or_none answer.base) _
      (one_valid (d.valid key.store) answer.base (subst (IsValid (d.valid key.store)) (sym (answers.base ∙ stands.folds.base key there))
      (fold_valid (d.valid key.store) (d.add key.store) laws (log_values (job cut).log key) _ (log_values_valid d key (job cut).log log))))
      (valid_append (d.valid key.store) (map (λ pair. pair.1) answer.published) (map (λ pair. pair.1) answer.online)
      (seconds_valid (d.valid key.store) answer.published answers.published.valid) (seconds_valid (d.valid key.store) answer.online answers.online.valid))

  -- a read of the key's shard gives the fold over what it names
  pub read_is_fold : (session : SessionValue E) (number : ℕ) (shard : ShardValue E) (key : KeyBytes) (upto : ℕ) (values : List E) (value : Option E) → Commute d → IsOver valid add monoids records session
      → slice_get session.shards number ≡ Some shard → number ≡ shard_of session.cut.shards key → MakesNamed valid add monoids shard key upto values → value ≡ sum_of (d.add key.store) values
      → value ≡ read_fold add (job session.cut) key upto session.published session.worked
  read_is_fold session number shard key upto values value commute over there own makes is =
      let at = over.shards number shard there in
      is ∙ (makes (job session.cut) number refl (record { commute = commute; records = over.job }) (eq-eqb (shard_of session.cut.shards key) number (sym own)) at.stands
      ∙ ap_both (λ p cover. job_fold add (job session.cut) key (is_named (places_of (job session.cut).log) upto p cover)) at.published at.cover)

  -- the shard that is read is the key's
  pub read_there : (session now : SessionValue E) (number : ℕ) (shard : ShardValue E) (key : KeyBytes) → session ≡ now → IsOver valid add monoids records now → number ≡ shard_of session.cut.shards key → number < session.cut.shards
      → shard ≡ get_or session.shards number shard → (slice_get now.shards number ≡ Some shard) × (number ≡ shard_of now.cut.shards key)
  read_there session now number shard key same over own below is =
      let count : length session.shards ≡ session.cut.shards = (subst (IsOver valid add monoids records) (sym same) over).number in (
        subst (λ (s : SessionValue E). slice_get s.shards number ≡ Some shard) same (slice_get_read session.shards (length session.shards) number shard refl (omega (arith, below, count)) is),
        own ∙ ap (λ (s : SessionValue E). shard_of s.cut.shards key) same,
      )

  -- a log has at most 65,536 batches
  pub few_batches : (session : SessionValue E) → IsOver valid add monoids records session → session.batches ≤ 65536
  few_batches session over = let few = limit records over.job in omega (arith, over.batches, few)
    where
      limit : (rs : List (Record E)) → AllByRecursion (IsRecord d) rs → batch_count (map (λ r. r.batch) rs) ≤ 65536
      limit [] h = omega arith
      limit (r ∷ rs) h = let one = h.0.batch in let others = limit rs h.1 in omega (arith, one, others)
