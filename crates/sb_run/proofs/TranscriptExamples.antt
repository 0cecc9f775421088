-- Lines that answer a script of three asks though no run without workers writes them, and two that don't.
use Rattle.std.proofs.Common.{ℤ, pos, negsuc, [], ◌∷◌, refl, arith, codes}
use Rattle.std.specs.Fmt.{digits, signed_decimal}
use Rattle.sb_report.specs.declared.script.Ask.{Ask}
use Rattle.sb_report.specs.declared.script.Ask.TheVariants as ask
use Rattle.sb_report.specs.declared.line.TranscriptLine.{TranscriptLine}
use Rattle.sb_report.specs.declared.line.TranscriptLine.TheVariants as line
use Rattle.std.specs.Int.{w64, int_wrapping_add}
use Rattle.sb_run.specs.Run.{Run}
use Rattle.sb_run.specs.Transcript.{Answers, AnswerAll}

-- three records in two chunks and two batches
run : Run ℤ
run = record {
  stores = record {
    name = codes "total";
    add = int_wrapping_add w64;
    text = signed_decimal;
    emissions = record { position = 0; key = codes "a"; value = pos 5 } ∷ record { position = 1; key = codes "b"; value = pos 7 } ∷ record { position = 2; key = codes "a"; value = negsuc 1 } ∷ [];
  } ∷ [];
  places = record { batches = 0 ∷ 0 ∷ 1 ∷ []; chunk = 2; shards = 1 };
}

work : Ask
work = ask.Work 1

read : Ask
read = ask.Read 0 (codes "a")

-- The second chunk is worked where another worker has the first one.
second_chunk : TranscriptLine
second_chunk = line.Worked 1 (1 ∷ [])

-- A read names the chunk that was told, or the other one too.
told_alone : TranscriptLine
told_alone = line.Read 0 (codes "a") (codes "-2") 0 0 (1 ∷ [])

both_chunks : TranscriptLine
both_chunks = line.Read 0 (codes "a") (codes "3") 0 0 (0 ∷ 1 ∷ [])

nothing : TranscriptLine
nothing = line.Read 0 (codes "a") (codes "()") 0 0 []

other_order : AnswerAll run [] (work ∷ read ∷ read ∷ []) (second_chunk ∷ told_alone ∷ both_chunks ∷ [])
unfolding run work read second_chunk told_alone both_chunks digits
other_order = (worked, (told, (both, tt)))
  where
    worked : Answers run [] work second_chunk
    worked = record { number = refl; limit = omega arith; there = record { rising = (tt, tt); there = (omega arith, tt) }; new = (λ h. omega (arith, h.1), tt) }

    told : Answers run (second_chunk ∷ []) read told_alone
    told = (
      refl,
      refl,
      record {
        good = refl;
        there = record { rising = (tt, tt); there = (omega arith, tt) };
        batches = omega arith;
        floors = omega arith;
        fresh_chunks = ((0, omega arith, refl), tt);
        fresh_published = omega arith;
        fresh_floor = omega arith;
      },
    )

    both : Answers run (second_chunk ∷ told_alone ∷ []) read both_chunks
    both = (
      refl,
      refl,
      record {
        good = refl;
        there = record { rising = ((omega arith, tt), (tt, tt)); there = (omega arith, (omega arith, tt)) };
        batches = omega arith;
        floors = omega arith;
        fresh_chunks = ((1, omega arith, refl), ((1, omega arith, refl), tt));
        fresh_published = omega arith;
        fresh_floor = omega arith;
      },
    )

-- A cover without a chunk that was told is stale.
stale : AnswerAll run [] (work ∷ read ∷ []) (second_chunk ∷ nothing ∷ []) → ⊥
unfolding run work read second_chunk nothing
stale h = let there = h.1.0.2.fresh_chunks.0.1 in omega (arith, there)

-- No chunk is worked twice.
twice : AnswerAll run [] (work ∷ work ∷ []) (second_chunk ∷ second_chunk ∷ []) → ⊥
unfolding run work second_chunk
twice h = h.1.0.new.0 (0, omega arith, refl)
