-- Worked words of the command line.
use Rattle.std.proofs.Common.{◌≡◌, ℕ, List, Result, refl}
use Rattle.dotenvy_command.specs.Words.{CommandLine, Usage, answer_to, HasUsage}
use Rattle.dotenvy_command.specs.WorkedWords.{HaveUsages}
use Rattle.dotenvy_command.proofs.WordsOnce.{read, words-read}

-- words have the answer to the groups and the ending that are read of them
words_row : (words : List (List ℕ)) (answer : Result CommandLine Usage) →
    answer ≡ answer_to (read words).0 (read words).1 → HasUsage words answer
words_row words answer h = ((read words).0, (read words).1, words-read words, h)

-- each worked command line asks for what is beside it, or is refused for what is beside it
pub usages : HaveUsages
usages = (
  words_row _ _ refl,
  words_row _ _ refl,
  words_row _ _ refl,
  words_row _ _ refl,
  words_row _ _ refl,
  words_row _ _ refl,
  words_row _ _ refl,
  words_row _ _ refl,
)
