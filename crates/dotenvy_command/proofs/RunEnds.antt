-- What follows from the answer to words for a run.
use Rattle.std.proofs.Common.{◌≡◌, not, ℕ, List, Result, Ok, Err, arith, refl}
use Rattle.dotenvy_command.specs.declared.command_line.CommandLine.{CommandLine as Line}
use Rattle.dotenvy_command.specs.declared.failure.Usage.{Usage as Refusal}
use Rattle.dotenvy_command.specs.declared.failure.Usage.TheVariants as refusal
use Rattle.dotenvy_command.specs.Answers.{line_of, SaysAnswer, AnswersWords}
use Rattle.dotenvy_command.specs.Failures.{IsMemoryFailure}
use Rattle.dotenvy_command.specs.Words.{CommandLine, Usage, HasUsage}
use Rattle.dotenvy_command.proofs.WordsOnce.{one_usage_of_words}

-- what is answered says whatever the words have for an answer
pub says_usage : {A : Type 0} (words : List (List ℕ)) (answer : Result CommandLine Usage)
    (result : Result (Line A) (Refusal A)) → AnswersWords words result → HasUsage words answer →
    SaysAnswer answer result
says_usage words answer result (found, has, says) is =
    rw (one_usage_of_words words found answer has is) says

-- words that were read have no refusal
pub not_refused : {A : Type 0} (words : List (List ℕ)) (usage : Usage) (line : Line A) →
    AnswersWords {A = A} words (Ok line) → HasUsage words (Err usage) → ⊥
not_refused words usage line answers is = let says = says_usage words (Err usage) (Ok line) answers is in cc

-- words that were read ask for this line
pub asks_for : {A : Type 0} (words : List (List ℕ)) (asked : CommandLine) (line : Line A) →
    AnswersWords {A = A} words (Ok line) → HasUsage words (Ok asked) → asked ≡ line_of line
asks_for words asked line answers is = let says = says_usage words (Ok asked) (Ok line) answers is in ok_is says
  where
    ok_is : ◌≡◌ {A = Result CommandLine Usage} (Ok asked) (Ok (line_of line)) → asked ≡ line_of line
    ok_is e = cc

-- words that ask for a line are refused only because an allocation failed
pub only_memory : {A : Type 0} (words : List (List ℕ)) (asked : CommandLine) (usage : Refusal A) →
    AnswersWords {A = A} words (Err usage) → HasUsage words (Ok asked) → IsMemoryFailure usage
only_memory words asked (refusal.Memory error) answers is = tt
only_memory words asked usage answers is = says_usage words (Ok asked) (Err usage) answers is

-- words do not ask for a list and for none
pub lists_both : {A : Type 0} (words : List (List ℕ)) (asked : CommandLine) (line : Line A) →
    AnswersWords {A = A} words (Ok line) → HasUsage words (Ok asked) →
    line.list ≡ not asked.list → ⊥
lists_both words asked line answers is differs =
    let same : line.list ≡ asked.list = rw (asks_for words asked line answers is) refl in
    let both : asked.list ≡ not asked.list = cc in grind (arith, both)
