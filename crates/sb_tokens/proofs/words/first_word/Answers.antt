use Rattle.sb_tokens.proofs.LeadingWords.{word_at_front}
use Rattle.sb_tokens.proofs.words.first_word.Goals as goal

pub word_token-requires : goal.word_token-requires
word_token-requires c = rw c.leading_letters_and_digits-word.ensures.value (word_at_front c.args.bytes.now c.requires)
