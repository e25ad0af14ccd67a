-- What is done with a file: what becomes of it, and what is printed.
use Rattle.std.specs.Prelude.{ℕ, ◌≡◌, ◌≢◌, ◌++◌, ◌-◌, ◌⊎◌, Bool, true, false, List, [], ◌∷◌, Option, Some, None}
use Rattle.std.specs.Prelude.{Result, Ok, Err, IsErrAnd, codes, if◌then◌else◌, length, nat_eq, string_bytes, take}
use Rattle.std.specs.List.{ends_with}
use Rattle.std.specs.Str.{IsUtf8, chars}
use Rattle.std.specs.declared.string.String.{String}
use Rattle.std.specs.declared.vec.Vec.{Vec}
use Rattle.clap.specs.Words.{Text}
use Rattle.dotenvy_base.specs.Source.{Ahead, SinkTold, Told}
use Rattle.dotenvy_format.specs.declared.dialect.Dialect.{Dialect}
use Rattle.dotenvy_reports.specs.OneLine.{on_one_line}
use Rattle.dotenvy_words.specs.Found.{texts}
use Rattle.dotenvy_edit_command.specs.declared.edits.Edit.{Edit}
use Rattle.dotenvy_edit_command.specs.declared.failure.Failure.{Failure}
use Rattle.dotenvy_edit_command.specs.declared.failure.Failure.TheVariants as failure
use Rattle.dotenvy_edit_command.specs.declared.step.Unreplaced.{Unreplaced}
use Rattle.dotenvy_edit_command.specs.declared.words.How.{How}
use Rattle.dotenvy_edit_command.specs.declared.words.Task.{Task}
use Rattle.dotenvy_edit_command.specs.declared.words.Task.TheVariants as task
use Rattle.dotenvy_edit_command.specs.declared.words.Words.{Words}
use Rattle.dotenvy_edit_command.specs.declared.words.Request.TheVariants.{Act}
use Rattle.dotenvy_edit_command.specs.Answers.{IsRequestOf}
use Rattle.dotenvy_edit_command.specs.Diffs.{IsDiff}
use Rattle.dotenvy_edit_command.specs.Edited.{AnswersRename, AnswersSet, AnswersUnsets, IsPlace, bytes_of, items_of}
use Rattle.dotenvy_edit_command.specs.Ends.{PrintsAs}
use Rattle.dotenvy_edit_command.specs.Failures.{IsMemoryEnd}
use Rattle.dotenvy_edit_command.specs.Loaded.{LoadsValue}
use Rattle.dotenvy_streams.specs.Reads.{IsWhole}
use Rattle.dotenvy_edit_command.specs.Replacing.{HasRead, Known, Locates, Replaces}

-- these are all bytes of a source, if it says what is still to be read
abbrev pub AreBytesOf : Told → List ℕ → Type 0
AreBytesOf told bytes = (ahead : Ahead) → told.ahead ≡ Some ahead → IsWhole ahead bytes

-- bytes without one line feed at their end
abbrev pub without_feed : List ℕ → List ℕ
without_feed bytes =
    if ends_with nat_eq bytes (10 ∷ []) then take (length bytes - 1) bytes else bytes

-- the value that is made of the bytes of standard input: a line feed at their end is a part of it only
-- if that is asked for
abbrev pub value_of : Bool → List ℕ → List ℕ
value_of true bytes = bytes
value_of false bytes = without_feed bytes

-- these bytes of standard input make a value, which is UTF-8; or an allocation failed
abbrev pub IsValueFrom : {A : Type 0} → Bool → Text → Text → List ℕ →
    Result (String A) (Failure A) → Type 0
IsValueFrom is_exact file name bytes (Ok value) = string_bytes value ≡ value_of is_exact bytes
IsValueFrom is_exact file name bytes (Err (failure.Value place)) =
    IsPlace file name place × ¬ (IsUtf8 (value_of is_exact bytes))
IsValueFrom is_exact file name bytes (Err (failure.Memory refused)) = Unit {0}
IsValueFrom is_exact file name bytes (Err other) = ⊥

-- the failure is that standard input can't be read, or a failed allocation
abbrev pub IsInputEnd : {A : Type 0} → Failure A → Type 0
IsInputEnd (failure.Input error) = Unit {0}
IsInputEnd (failure.Memory refused) = Unit {0}
IsInputEnd other = ⊥

-- a value is read of standard input; or this can't be read
abbrev pub ReadsValue : {A : Type 0} → Bool → Text → Text → Told →
    Result (String A) (Failure A) → Type 0
ReadsValue is_exact file name told result =
    IsErrAnd result IsInputEnd
    ⊎ ((bytes : List ℕ) × AreBytesOf told bytes × IsValueFrom is_exact file name bytes result)

-- the name is set to the value that was read, or why there is none
abbrev pub SetsRead : {A : Type 0} → How → Text → List ℕ → Text → Result (String A) (Failure A) →
    Result (Edit A) (Failure A) → Type 0
SetsRead how file bytes name (Ok value) edited =
    AnswersSet how file bytes name (string_bytes value) edited
SetsRead how file bytes name (Err failed) edited = edited ≡ Err failed

-- the name is set to the value that is given, or else to that of standard input
abbrev pub SetsGiven : {A : Type 0} → How → Text → List ℕ → Text → Option (String A) → Told →
    Result (Edit A) (Failure A) → Type 0
SetsGiven how file bytes name (Some value) told edited =
    AnswersSet how file bytes name (string_bytes value) edited
SetsGiven {A = A} how file bytes name None told edited =
    (value : Result (String A) (Failure A)) × ReadsValue how.is_exact file name told value
    × SetsRead how file bytes name value edited

-- standard input is read only for a value that is not given
abbrev pub KeepsInput : {A S : Type 0} → Option (String A) → S → S → Type 0
KeepsInput (Some value) old new = new ≡ old
KeepsInput None old new = Unit {0}

-- what is said of an edit that is done
abbrev pub IsSaid : {A : Type 0} → Text → Result (String A) (Failure A) → Type 0
IsSaid text (Ok said) = string_bytes said ≡ text
IsSaid text (Err failed) = ⊥

-- the name of the old text in a diff: that of the file, or of none
abbrev pub old_name : {A : Type 0} → Text → Option (Vec ℕ A) → Text
old_name file None = codes "/dev/null"
old_name file (Some bytes) = file

-- a file that has these bytes, or is absent, and would have these new ones: the difference is printed,
-- if there is one; or an allocation failed, and nothing is printed
abbrev pub PrintsDiff : {A W : Type 0} → (W → SinkTold) → Text → Option (Vec ℕ A) → List ℕ →
    Text → W → W → Result (String A) (Failure A) → Type 0
PrintsDiff told file old new said before after (Err (failure.Memory refused)) = after ≡ before
PrintsDiff told file old new said before after result =
    ((items_of old ≡ Some new) × (after ≡ before) × IsSaid said result)
    ⊎ ((items_of old ≢ Some new)
    × ((diff : Text) × IsDiff (old_name file old) file (bytes_of old) new diff
    × PrintsAs told before after diff said result))

-- a file has these bytes already and nothing changes; or it is replaced by them, or else stays
abbrev pub PutsBytes : {A : Type 0} → Option (Vec ℕ A) → List ℕ → Option Known → Option Known →
    Result (Unit {0}) Unreplaced → Type 0
PutsBytes old new before after replaced =
    ((items_of old ≡ Some new) × (replaced ≡ Ok tt) × (after ≡ before))
    ⊎ ((items_of old ≢ Some new) × Replaces new before after replaced)

-- what is told of the replacement of a file
abbrev pub TellsReplaced : {A : Type 0} → Text → Text → Result (Unit {0}) Unreplaced →
    Result (String A) (Failure A) → Type 0
TellsReplaced file said (Ok done) (Ok text) = string_bytes text ≡ said
TellsReplaced file said (Err unreplaced) (Err (failure.Unreplaced shown told)) =
    (string_bytes shown ≡ file) × (told ≡ unreplaced)
TellsReplaced file said replaced result = ⊥

-- a file is given these bytes, or why it is not
abbrev pub WritesFile : {A : Type 0} → Text → Option (Vec ℕ A) → List ℕ → Text → Option Known →
    Option Known → Result (String A) (Failure A) → Type 0
WritesFile file old new said before after result =
    (replaced : Result (Unit {0}) Unreplaced) × PutsBytes old new before after replaced
    × TellsReplaced file said replaced result

-- an edit is only printed, or the file is given its bytes
abbrev pub EndsMade : {A W : Type 0} → Bool → (W → SinkTold) → Text → Option (Vec ℕ A) → Edit A →
    Option Known → Option Known → W → W → Result (String A) (Failure A) → Type 0
EndsMade true told file old edit before after writer printed result =
    (after ≡ before)
    × PrintsDiff told file old edit.bytes.items (string_bytes edit.said) writer printed result
EndsMade false told file old edit before after writer printed result =
    (printed ≡ writer)
    × WritesFile file old edit.bytes.items (string_bytes edit.said) before after result

-- an edit that is made is printed or written; one that is refused changes nothing
abbrev pub EndsEdit : {A W : Type 0} → Bool → (W → SinkTold) → Text → Option (Vec ℕ A) →
    Result (Edit A) (Failure A) → Option Known → Option Known → W → W →
    Result (String A) (Failure A) → Type 0
EndsEdit is_dry told file old (Ok edit) before after writer printed result =
    EndsMade is_dry told file old edit before after writer printed result
EndsEdit is_dry told file old (Err failed) before after writer printed result =
    (result ≡ Err failed) × (after ≡ before) × (printed ≡ writer)

-- a value is printed with a line feed behind it; or why there is none, and nothing is printed
abbrev pub PrintsValue : {A W : Type 0} → (W → SinkTold) → Result (String A) (Failure A) → W → W →
    Result (String A) (Failure A) → Type 0
PrintsValue told (Ok value) writer printed result =
    PrintsAs told writer printed (string_bytes value ++ codes "\n") [] result
PrintsValue told (Err failed) writer printed result = (result ≡ Err failed) × (printed ≡ writer)

-- the value that a load gives a name is printed, or why there is none
abbrev pub LoadsAndPrints : {A W : Type 0} → (W → SinkTold) → Dialect → List ℕ → Text → Text →
    W → W → Result (String A) (Failure A) → Type 0
LoadsAndPrints {A = A} told dialect bytes file name writer printed result =
    (value : Result (String A) (Failure A)) × LoadsValue dialect bytes file name value
    × PrintsValue told value writer printed result

-- a task is done with a file that has these bytes, or is absent: standard input is read if need be,
-- standard output is written, and the file is replaced, or all stay
abbrev pub DoesTask : {A S W : Type 0} → (S → Told) → (W → SinkTold) → How → Text → Task A →
    Option (Vec ℕ A) → Option Known → Option Known → S → S → W → W →
    Result (String A) (Failure A) → Type 0
DoesTask {A = A} in_told told how file (task.Get name) old before after input read
    writer printed result =
    (after ≡ before) × (read ≡ input)
    × LoadsAndPrints told how.dialect (bytes_of old) file (string_bytes name) writer printed result
DoesTask {A = A} in_told told how file (task.Set name value) old before after input read
    writer printed result =
    KeepsInput value input read
    × ((edited : Result (Edit A) (Failure A))
    × SetsGiven how file (bytes_of old) (string_bytes name) value (in_told input) edited
    × EndsEdit how.is_dry told file old edited before after writer printed result)
DoesTask {A = A} in_told told how file (task.Unset names) old before after input read
    writer printed result =
    (read ≡ input)
    × ((edited : Result (Edit A) (Failure A))
    × AnswersUnsets how file (bytes_of old) (texts names.items) edited
    × EndsEdit how.is_dry told file old edited before after writer printed result)
DoesTask {A = A} in_told told how file (task.Rename name new) old before after input read
    writer printed result =
    (read ≡ input)
    × ((edited : Result (Edit A) (Failure A))
    × AnswersRename how file (bytes_of old) (string_bytes name) (string_bytes new) edited
    × EndsEdit how.is_dry told file old edited before after writer printed result)

-- the failure is that this file can't be found or read, or a failed allocation
abbrev pub IsUnread : {A : Type 0} → Text → Failure A → Type 0
IsUnread file (failure.File shown error) = string_bytes shown ≡ file
IsUnread file (failure.Memory refused) = Unit {0}
IsUnread file other = ⊥

-- the task of these words is done with the file, as it is found; or this can't be read, and all stay
abbrev pub DoesWords : {A S W : Type 0} → (S → Told) → (W → SinkTold) → Words A → Option Known →
    Option Known → S → S → W → W → Result (String A) (Failure A) → Type 0
DoesWords {A = A} in_told told words before after input read writer printed result =
    let file = on_one_line (chars (string_bytes words.file)) in
    (IsErrAnd result (IsUnread file) × (after ≡ before) × (read ≡ input) × (printed ≡ writer))
    ⊎ ((old : Option (Vec ℕ A)) × HasRead before old
    × DoesTask in_told told words.how file words.task old before after input read
    writer printed result)

-- a file that is absent can be made for this task
abbrev pub may_make : {A : Type 0} → How → Task A → Bool
may_make how (task.Set name value) = how.creates
may_make how other = false

-- the task of these words is done with the file that their path leads to; or no file is found there,
-- and all stay
abbrev pub DoesAsked : {A S W : Type 0} → (S → Told) → (W → SinkTold) → Words A → Option Known →
    Option Known → S → S → W → W → Result (String A) (Failure A) → Type 0
DoesAsked in_told told words before after input read writer printed result =
    (IsErrAnd result (IsUnread (on_one_line (chars (string_bytes words.file))))
    × (after ≡ before) × (read ≡ input) × (printed ≡ writer))
    ⊎ ((found : Option Known)
    × Locates (string_bytes words.file) (may_make words.how words.task) before found (Ok tt)
    × DoesWords in_told told words found after input read writer printed result)

-- the words ask for a task, and it is done; or an allocation failed first, and all stay
abbrev pub EndsTask : {A S W : Type 0} → (S → Told) → (W → SinkTold) → List Text → Option Known →
    Option Known → S → S → W → W → Result (String A) (Failure A) → Type 0
EndsTask {A = A} in_told told words before after input read writer printed result =
    (IsErrAnd result IsMemoryEnd × (after ≡ before) × (read ≡ input) × (printed ≡ writer))
    ⊎ ((asked : Words A) × IsRequestOf words (Act asked)
    × DoesAsked in_told told asked before after input read writer printed result)
