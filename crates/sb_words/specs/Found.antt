-- What is found for an argument.
use Rattle.std.specs.Prelude.{◌≡◌, List, Result, Ok, Err, Bool, false, Option, Some, None, codes}
use Rattle.std.specs.Str.{bytes_eq}
use Rattle.clap.specs.Words.{App, Text, found_of, rows_of}
use Rattle.clap.specs.declared.parser.matches.ArgMatches.{ArgMatches}
use Rattle.sb_words.specs.Answers.{Fails}
use Rattle.sb_words.specs.Forms.{rows_in}
use Rattle.sb_words.specs.declared.words_error.WordsError.{WordsError}

-- a flag that is given has the value `true`
abbrev pub is_set : Option Text → Bool
is_set None = false
is_set (Some text) = bytes_eq text (codes "true")

-- the matches are what the command finds in the words, and Usage comes only where it takes them not
abbrev pub Finds : App → List Text → Result ArgMatches WordsError → Type 0
Finds command words (Ok matches) = rows_in command words ≡ Some (rows_of (found_of matches))
Finds command words (Err e) = Fails (rows_in command words) e
