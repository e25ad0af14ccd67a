-- Why a command with its words is refused.
use Rattle.std.proofs.Common.{◌≡◌, ◌<◌, ℕ, suc, zero, List, [], ◌∷◌, Some, Ok, Err, Result, arith, get_or, length}
use Rattle.std.proofs.Common.{map, refl}
use Rattle.std.specs.Borrow.{Bor}
use Rattle.std.specs.Prelude.{IsErrAnd, slice_get}
use Rattle.std.specs.declared.string.String.{String}
use Rattle.clap.specs.Words.{Row, Text}
use Rattle.dotenvy_edit_command.specs.declared.failure.Failure.{Failure}
use Rattle.dotenvy_edit_command.specs.declared.failure.Failure.TheVariants as failure
use Rattle.dotenvy_edit_command.specs.declared.failure.Usage.TheVariants as usage
use Rattle.dotenvy_edit_command.specs.declared.words.Task.{Task}
use Rattle.dotenvy_edit_command.specs.Answers.{AnswersCommand, IsCommandUsage, IsFoundUsage, IsMost}
use Rattle.dotenvy_edit_command.specs.Answers.{IsUnexpected, IsUsageEnd}
use Rattle.dotenvy_edit_command.specs.Words.{command_of, words_of}

-- a word that is read is there
pub word_at : (words : List (Bor Text)) (n : ℕ) (d : Bor Text) → n < length words →
    slice_get (map (λ (word : Bor Text). word.now) words) n ≡ Some (get_or words n d).now
word_at [] n d inside = absurd (omega (arith, inside))
word_at (word ∷ words) zero d inside = refl
word_at (word ∷ words) (suc n) d inside = word_at words n d (omega (arith, inside))

-- a word behind as many as the command takes is one too many
pub one_too_many : {A : Type 0} (command : Text) (words : List Text) (most : ℕ) (word : Text)
    (result : Result (String A × Task A) (Failure A)) → IsMost command most → slice_get words most ≡ Some word →
    IsErrAnd result (IsUsageEnd (IsUnexpected word)) → AnswersCommand command words result
one_too_many command words most word (Ok done) is_most there is = absurd is
one_too_many command words most word (Err (failure.Usage (usage.Unexpected shown))) is_most there is =
    (most, word, is_most, there, is)
one_too_many command words most word (Err (failure.Usage other)) is_most there is = absurd is
one_too_many command words most word (Err (failure.Memory refused)) is_most there is = tt
one_too_many command words most word (Err other) is_most there is = absurd is

-- a command that was found is refused with the words behind it
pub found_refused : {A : Type 0} (rows : List Row) (command : Text) (failed : Failure A) →
    command_of rows ≡ Some command → IsUsageEnd (IsCommandUsage command (words_of rows)) failed →
    IsUsageEnd (IsFoundUsage rows) failed
found_refused rows command (failure.Usage (usage.Word kind word)) found is = absurd is
found_refused rows command (failure.Usage usage.NoCommand) found is = absurd is
found_refused rows command (failure.Usage (usage.Command shown)) found is = (command, found, is)
found_refused rows command (failure.Usage (usage.Lacks lacked)) found is = (command, found, is)
found_refused rows command (failure.Usage (usage.Unexpected shown)) found is = (command, found, is)
found_refused rows command (failure.Memory refused) found is = tt
found_refused rows command (failure.File file error) found is = absurd is
found_refused rows command (failure.Input error) found is = absurd is
found_refused rows command (failure.Value place) found is = absurd is
found_refused rows command (failure.Refused place refusal) found is = absurd is
found_refused rows command (failure.Stops place line) found is = absurd is
found_refused rows command (failure.Unreplaced file unreplaced) found is = absurd is
found_refused rows command (failure.Write error) found is = absurd is
