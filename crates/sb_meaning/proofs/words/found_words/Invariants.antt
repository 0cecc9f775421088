use Rattle.std.proofs.Common.{◌≡◌, ◌++◌, map, length}
use Rattle.sb_types.specs.Value.{text}
use Rattle.sb_types.specs.ValView.{value_of}
use Rattle.sb_meaning.specs.Words.{words_of}
use Rattle.sb_meaning.proofs.words.found_words.Given as goal

abbrev pub invariant-loop-bytes : goal.invariant-loop-bytes
invariant-loop-bytes l = map value_of l.found.items ++ map text l.left ≡ map text (words_of l.most l.fn.bytes)

abbrev pub decreases-loop-bytes : goal.decreases-loop-bytes
decreases-loop-bytes l = length l.left
