-- How a run ends: what is written, what is said, and the status.
use Rattle.std.specs.Prelude.{ℕ, ◌≡◌, ◌⊎◌, Bool, true, List, [], Result, Ok, Err, IsErrAnd, codes, string_bytes}
use Rattle.std.specs.FinMap as fin
use Rattle.std.specs.declared.string.String.{String}
use Rattle.clap.specs.Words.{Text, matches_of}
use Rattle.dotenvy_base.specs.Output.{Sends, most_writes}
use Rattle.dotenvy_base.specs.Source.{SinkTold}
use Rattle.dotenvy_streams.specs.Telling.{Says, SaysLine}
use Rattle.dotenvy_export_command.specs.declared.failure.Failure.{Failure}
use Rattle.dotenvy_export_command.specs.declared.failure.Failure.TheVariants as failure
use Rattle.dotenvy_export_command.specs.declared.failure.Usage.{Usage}
use Rattle.dotenvy_export_command.specs.declared.inputs.Inputs.{Inputs}
use Rattle.dotenvy_export_command.specs.declared.words.How.{How}
use Rattle.dotenvy_export_command.specs.Answers.{IsUsageOf, asks}
use Rattle.dotenvy_export_command.specs.Exports.{Exports}
use Rattle.dotenvy_export_command.specs.Failures.{failure_text}
use Rattle.dotenvy_export_command.specs.Words.{asked_of, exporter}

-- what is said where the line of a failure can't be built
abbrev pub memory_line : Text
memory_line = codes "dotenvy_export: error: out of memory\n"

-- a failure is said on one line; if this can't be built, that an allocation failed
abbrev pub SaysFailure : {A E : Type 0} → (E → SinkTold) → E → E → Failure A → Type 0
SaysFailure {A = A} told old new failure =
    SaysLine A told old new (codes "dotenvy_export: ") (failure_text failure) memory_line

-- the status, and what is said, after this was done
abbrev pub Tells : {A E : Type 0} → (E → SinkTold) → E → E → Result (String A) (Failure A) → ℕ →
    Type 0
Tells {A = A} told old new (Ok said) status =
    (status ≡ 0) × Says A told old new (string_bytes said)
Tells told old new (Err failure) status = (status ≡ 1) × SaysFailure told old new failure

-- a run whose call is not wrong: something of which this holds was done, and is told
abbrev pub EndsBy : {A E : Type 0} → (Result (String A) (Failure A) → Type 0) → (E → SinkTold) →
    E → E → Result ℕ (Usage A) → Type 0
EndsBy {A = A} does told old new (Ok status) =
    (done : Result (String A) (Failure A)) × does done × Tells told old new done status
EndsBy does told old new (Err usage) = ⊥

-- a run whose call is wrong: that is the error, unless an allocation failed, which is said
abbrev pub RefusesCall : {A E : Type 0} → List Text → (E → SinkTold) → E → E →
    Result ℕ (Usage A) → Type 0
RefusesCall {A = A} words told old new (Ok status) =
    (status ≡ 1) × Says A told old new memory_line
RefusesCall words told old new (Err usage) = IsUsageOf words usage

-- the failure is a wrong call
abbrev pub IsWrongCall : {A : Type 0} → Failure A → Type 0
IsWrongCall (failure.Usage usage) = Unit {0}
IsWrongCall other = ⊥

-- the failure is a file that can't be read, or a failed allocation
abbrev pub IsUnread : {A : Type 0} → Failure A → Type 0
IsUnread (failure.Usage usage) = ⊥
IsUnread (failure.File file error) = Unit {0}
IsUnread (failure.Line file line) = ⊥
IsUnread (failure.Nul file line name) = ⊥
IsUnread (failure.Refused target name reason) = ⊥
IsUnread (failure.Write error) = ⊥
IsUnread (failure.Memory refused) = Unit {0}

-- a text is printed and nothing is to be said; or it can't be written, or an allocation failed
abbrev pub Prints : {A W : Type 0} → (W → SinkTold) → W → W → Text →
    Result (String A) (Failure A) → Type 0
Prints {A = A} told old new text (Ok said) =
    (string_bytes said ≡ []) × Sends {A = A} told most_writes old new text (Ok tt)
Prints told old new text (Err (failure.Usage usage)) = ⊥
Prints told old new text (Err (failure.File file error)) = ⊥
Prints told old new text (Err (failure.Line file line)) = ⊥
Prints told old new text (Err (failure.Nul file line name)) = ⊥
Prints told old new text (Err (failure.Refused target name reason)) = ⊥
Prints told old new text (Err (failure.Write error)) = Sends told most_writes old new text (Err error)
Prints told old new text (Err (failure.Memory refused)) = new ≡ old

-- of the files that were read, what they declare is exported as these words ask for
abbrev pub ExportsAsked : {A W : Type 0} → (W → SinkTold) → List Text → W → W →
    Result (String A) (Failure A) → Type 0
ExportsAsked {A = A} told words old new result =
    (how : How) × (alone : Bool) × (inputs : Inputs A)
    × (asks how alone ≡ asked_of (matches_of exporter words))
    × (alone ≡ true → inputs.env.names ≡ fin.empty)
    × Exports told how inputs old new result

-- a file can't be read, and nothing is written; or what the files declare is exported
abbrev pub EndsExport : {A W : Type 0} → (W → SinkTold) → List Text → W → W →
    Result (String A) (Failure A) → Type 0
EndsExport told words old new result =
    (IsErrAnd result IsUnread × (new ≡ old)) ⊎ ExportsAsked told words old new result
