use Rattle.std.proofs.Common.{◌≡◌, ◌<◌, filter, take, IfSome, IsUtf8}
use Rattle.sb_meaning.specs.Words.{is_filled, pieces_left}
use Rattle.sb_meaning.proofs.Blanks.{room_left}
use Rattle.sb_meaning.proofs.words.Words.next_word.Given as goal

abbrev pub invariant-loop-self : goal.invariant-loop-self
invariant-loop-self l = record {
  some : 0 < l.self-inside.most;
  words : take l.self-inside.most (filter is_filled (pieces_left l.self-inside.rest)) ≡ l.fn.self;
  utf8 : IfSome l.self-inside.rest (λ rest. IsUtf8 rest.now);
}

abbrev pub decreases-loop-self : goal.decreases-loop-self
decreases-loop-self l = room_left l.self-inside.rest
