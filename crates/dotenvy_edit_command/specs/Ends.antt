-- How a run ends: what is printed, what is said, and the status.
use Rattle.std.specs.Prelude.{ℕ, ◌≡◌, List, [], Result, Ok, Err, codes, string_bytes}
use Rattle.std.specs.declared.string.String.{String}
use Rattle.clap.specs.Words.{Text}
use Rattle.dotenvy_base.specs.Output.{Sends, most_writes}
use Rattle.dotenvy_base.specs.Source.{SinkTold}
use Rattle.dotenvy_streams.specs.Telling.{Says, SaysLine}
use Rattle.dotenvy_edit_command.specs.declared.failure.Failure.{Failure}
use Rattle.dotenvy_edit_command.specs.declared.failure.Failure.TheVariants as failure
use Rattle.dotenvy_edit_command.specs.declared.failure.Usage.{Usage}
use Rattle.dotenvy_edit_command.specs.Answers.{IsUsageOf}
use Rattle.dotenvy_edit_command.specs.Failures.{failure_status, failure_text}

-- what is said where the line of a failure can't be built
abbrev pub memory_line : Text
memory_line = codes "dotenvy_edit: error: out of memory\n"

-- a failure is said on one line; if this can't be built, that an allocation failed
abbrev pub SaysFailure : {A E : Type 0} → (E → SinkTold) → E → E → Failure A → Type 0
SaysFailure {A = A} told old new failure =
    SaysLine A told old new (codes "dotenvy_edit: ") (failure_text failure) memory_line

-- the status, and what is said, after this was done
abbrev pub Tells : {A E : Type 0} → (E → SinkTold) → E → E → Result (String A) (Failure A) → ℕ →
    Type 0
Tells {A = A} told old new (Ok said) status =
    (status ≡ 0) × Says A told old new (string_bytes said)
Tells told old new (Err failure) status =
    (status ≡ failure_status failure) × SaysFailure told old new failure

-- a run whose call is not wrong: something of which this holds was done, and is told
abbrev pub EndsBy : {A E : Type 0} → (Result (String A) (Failure A) → Type 0) → (E → SinkTold) →
    E → E → Result ℕ (Usage A) → Type 0
EndsBy {A = A} does told old new (Ok status) =
    (done : Result (String A) (Failure A)) × does done × Tells told old new done status
EndsBy does told old new (Err usage) = ⊥

-- a run whose call is wrong: that is the error, unless an allocation failed, which is said
abbrev pub RefusesCall : {A E : Type 0} → List Text → (E → SinkTold) → E → E →
    Result ℕ (Usage A) → Type 0
RefusesCall {A = A} words told old new (Ok status) =
    (status ≡ 2) × Says A told old new memory_line
RefusesCall words told old new (Err usage) = IsUsageOf words usage

-- the failure is a wrong call
abbrev pub IsWrongCall : {A : Type 0} → Failure A → Type 0
IsWrongCall (failure.Usage usage) = Unit {0}
IsWrongCall other = ⊥

-- a text is printed and this is to be said; or it can't be written, or an allocation failed
abbrev pub PrintsAs : {A W : Type 0} → (W → SinkTold) → W → W → Text → Text →
    Result (String A) (Failure A) → Type 0
PrintsAs {A = A} told old new text said (Ok done) =
    (string_bytes done ≡ said) × Sends {A = A} told most_writes old new text (Ok tt)
PrintsAs told old new text said (Err (failure.Write error)) =
    Sends told most_writes old new text (Err error)
PrintsAs told old new text said (Err (failure.Memory refused)) = new ≡ old
PrintsAs told old new text said (Err other) = ⊥

-- a text is printed, of which nothing is to be said
abbrev pub Prints : {A W : Type 0} → (W → SinkTold) → W → W → Text →
    Result (String A) (Failure A) → Type 0
Prints told old new text result = PrintsAs told old new text [] result
