-- What is written and what is said, of the contents of files.
use Rattle.std.specs.Prelude.{ℕ, ◌≡◌, ◌++◌, Bool, true, false, not, List, [], map, filter, flat_map}
use Rattle.std.specs.Prelude.{Option, Some, None, Result, Ok, Err, IsErrAnd, codes, slice_get}
use Rattle.std.specs.Prelude.{string_bytes, if◌then◌else◌}
use Rattle.std.specs.Str.{chars}
use Rattle.std.specs.declared.string.String.{String}
use Rattle.clap.specs.Words.{Text}
use Rattle.dotenvy_base.specs.Environment.{Env}
use Rattle.dotenvy_base.specs.Errors.{IsNulOf}
use Rattle.dotenvy_base.specs.Source.{SinkTold}
use Rattle.dotenvy_items.specs.Listed.{pairs_of}
use Rattle.dotenvy_exporter.specs.Declarations.{IsNul, LoadsDeclared}
use Rattle.dotenvy_exporter.specs.declared.declared.Stopped.{Stopped}
use Rattle.dotenvy_exporter.specs.declared.export.Unwritten.{Unwritten}
use Rattle.dotenvy_exporter.specs.declared.export.Unwritten.TheVariants as unwritten
use Rattle.dotenvy_exporter.specs.declared.refusal.Reason.{Reason}
use Rattle.dotenvy_exporter.specs.declared.refusal.Reason.TheVariants as reason
use Rattle.dotenvy_exporter.specs.declared.target.Target.{Target}
use Rattle.dotenvy_exporter.specs.Targets.{WritesFor, first_refusal, refusal}
use Rattle.dotenvy_exporter.specs.Texts.{Pair}
use Rattle.dotenvy_reports.specs.OneLine.{on_one_line}
use Rattle.dotenvy_export_command.specs.declared.failure.Failure.{Failure}
use Rattle.dotenvy_export_command.specs.declared.failure.Failure.TheVariants as failure
use Rattle.dotenvy_export_command.specs.declared.inputs.Inputs.{Inputs}
use Rattle.dotenvy_export_command.specs.declared.words.How.{How}
use Rattle.dotenvy_words.specs.Found.{texts}

-- the target keeps the name for itself
abbrev pub keeps_name : Option Reason → Bool
keeps_name None = false
keeps_name (Some reason.Reserved) = true
keeps_name (Some other) = false

-- a pair whose name the target keeps for itself
abbrev pub is_reserved : Target → Pair → Bool
is_reserved target pair = keeps_name (refusal target pair)

-- the pairs that are written: all, or those whose names the target doesn't keep
abbrev pub kept_pairs : How → List Pair → List Pair
kept_pairs how pairs =
    if how.skips_reserved then filter (λ pair. not (is_reserved how.target pair)) pairs else pairs

-- the names that are left out
abbrev pub names_left_out : How → List Pair → List (List ℕ)
names_left_out how pairs =
    if how.skips_reserved then map (λ pair. pair.0) (filter (is_reserved how.target) pairs) else []

-- what is said of a name that is left out
abbrev pub warning : List ℕ → Text
warning name =
    codes "dotenvy_export: warning: "
    ++ (on_one_line name ++ codes ": shells keep this name, so it is left out\n")

-- what is said of names that are left out, a line each
abbrev pub warnings : List (List ℕ) → Text
warnings names = flat_map warning names

-- the file that is named, at this line, is where a load stops
abbrev pub IsPlaceOf : {A : Type 0} → List Text → Stopped A → Text → ℕ → Type 0
IsPlaceOf names stopped file line =
    (slice_get names stopped.file ≡ Some file) × (line ≡ stopped.line)

-- the failure says in which of the files, and on which line, a load stops, and for a value with a NUL
-- also of which name; or an allocation failed
abbrev pub IsStopOf : {A : Type 0} → List Text → Stopped A → Failure A → Type 0
IsStopOf names stopped (failure.Usage usage) = ⊥
IsStopOf names stopped (failure.File file error) = ⊥
IsStopOf names stopped (failure.Line file line) =
    IsPlaceOf names stopped (string_bytes file) line × ¬ (IsNul stopped.error)
IsStopOf names stopped (failure.Nul file line name) =
    IsPlaceOf names stopped (string_bytes file) line
    × ((key : List ℕ) × IsNulOf key stopped.error × (string_bytes name ≡ on_one_line (chars key)))
IsStopOf names stopped (failure.Refused target name reason) = ⊥
IsStopOf names stopped (failure.Write error) = ⊥
IsStopOf names stopped (failure.Memory refused) = Unit {0}

-- the failure is that of pairs that are not written for a target
abbrev pub IsUnwritten : {A : Type 0} → Target → Unwritten A → Failure A → Type 0
IsUnwritten target (unwritten.Refused refused) (failure.Refused named shown reason) =
    (named ≡ target) × (reason ≡ refused.reason)
    × (string_bytes shown ≡ on_one_line (chars (string_bytes refused.name)))
IsUnwritten target (unwritten.Write error) (failure.Write told) = told ≡ error
IsUnwritten target other told = ⊥

-- pairs were being written when it failed
abbrev pub IsWrite : {A : Type 0} → Unwritten A → Type 0
IsWrite (unwritten.Write error) = Unit {0}
IsWrite other = ⊥

-- the failure is that of the first pair that the target can't be given, and nothing is written; or
-- that of the write; or an allocation failed, and nothing is written
abbrev pub FailsFor : {A W : Type 0} → (W → SinkTold) → Target → List Pair → W → W → Failure A →
    Type 0
FailsFor told target pairs old new (failure.Usage usage) = ⊥
FailsFor told target pairs old new (failure.File file error) = ⊥
FailsFor told target pairs old new (failure.Line file line) = ⊥
FailsFor told target pairs old new (failure.Nul file line name) = ⊥
FailsFor told target pairs old new (failure.Refused named shown reason) =
    (named ≡ target) × ((name : List ℕ) × (first_refusal target pairs ≡ Some (name, reason))
    × (string_bytes shown ≡ on_one_line name)) × (new ≡ old)
FailsFor told target pairs old new (failure.Write error) =
    WritesFor told target pairs old new (Err (unwritten.Write error))
FailsFor told target pairs old new (failure.Memory refused) = new ≡ old

-- pairs are written, but for those that are left out, of which a warning is to be said
abbrev pub WritesKept : {A W : Type 0} → (W → SinkTold) → How → List Pair → W → W →
    Result (String A) (Failure A) → Type 0
WritesKept {A = A} told how pairs old new (Ok said) =
    (string_bytes said ≡ warnings (names_left_out how pairs))
    × WritesFor {A = A} told how.target (kept_pairs how pairs) old new (Ok tt)
WritesKept told how pairs old new (Err failure) =
    FailsFor told how.target (kept_pairs how pairs) old new failure

-- where a load stops, that is told and nothing is written; else what it declares is written
abbrev pub WritesLoaded : {A W : Type 0} → (W → SinkTold) → How → List Text → W → W →
    Result Env (Stopped A) → Result (String A) (Failure A) → Type 0
WritesLoaded told how names old new (Err stopped) result =
    IsErrAnd result (IsStopOf names stopped) × (new ≡ old)
WritesLoaded told how names old new (Ok env) result =
    WritesKept told how (pairs_of env.names) old new result

-- the contents of files
abbrev pub contents_of : {A : Type 0} → Inputs A → List (List ℕ)
contents_of inputs = map (λ contents. contents.items) inputs.contents.items

-- what the files declare over the environment is written for the target
abbrev pub Exports : {A W : Type 0} → (W → SinkTold) → How → Inputs A → W → W →
    Result (String A) (Failure A) → Type 0
Exports {A = A} told how inputs old new result =
    (declared : Result Env (Stopped A))
    × LoadsDeclared how.mode how.dialect inputs.env.names (contents_of inputs) declared
    × WritesLoaded told how (texts inputs.names.items) old new declared result
