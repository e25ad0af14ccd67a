-- How physical lines are joined to one logical line, and what `advance` makes of it.
use Rattle.std.specs.Prelude.{ℕ, ◌≡◌, ◌⊎◌, ◌<◌, Bool, true, false, List, [], length, Option}
use Rattle.std.specs.Prelude.{Some, None, Result, Ok, Err, IsSomeAnd, IsErrAnd, if◌then◌else◌}
use Rattle.std.specs.Str.{chars}
use Rattle.std.specs.IoError.{error_kind}
use Rattle.std.specs.declared.io.ErrorKind.TheVariants.{InvalidData}
use Rattle.dotenvy_base.specs.declared.errors.Error.{Error}
use Rattle.dotenvy_base.specs.declared.errors.Error.TheVariants.{LineParse, Io, EnvVar, Nul, Memory}
use Rattle.dotenvy_lines.specs.declared.lines.Joined.{Joined}
use Rattle.dotenvy_lines.specs.declared.lines.Joined.TheVariants.{Nothing, Skipped, Whole, OpenEnd, BrokenLine}
use Rattle.dotenvy_lines.specs.declared.lines.Stage.{Stage}
use Rattle.dotenvy_lines.specs.declared.lines.Stage.TheVariants.{Open as stage_open, Ended, Failed}
use Rattle.dotenvy_base.specs.Source.{Ahead}
use Rattle.dotenvy_format.specs.LogicalLine.{Skip, HasText, StaysOpen, Broken}
use Rattle.dotenvy_base.specs.Errors.{IsIoOf, IsMemory, IsLineParseOf}
use Rattle.dotenvy_lines.specs.Input.{InputState, IsFinal, input_measure}
use Rattle.dotenvy_lines.specs.Lines.{Counts}
use Rattle.dotenvy_lines.specs.inside.NextLine.{TakesNext, IsUndecided}

-- what was joined is the next logical line, with this text, of so many physical lines
abbrev pub TakesJoined : Ahead → InputState → Joined → List ℕ → ℕ → InputState → Type 0
TakesJoined a s Nothing text count t = (a.bytes ≡ []) × (a.fault ≡ None)
TakesJoined a s Skipped text count t = (text ≡ []) × TakesNext a s Skip count t
TakesJoined a s Whole text count t = TakesNext a s (HasText (chars text)) count t
TakesJoined a s OpenEnd text count t = TakesNext a s (StaysOpen (chars text) (length text)) count t
TakesJoined a s BrokenLine text count t = TakesNext a s Broken count t

-- the next logical line was joined, and its physical lines were counted; or reading failed
abbrev pub JoinsNext : {A : Type 0} → Ahead → InputState → ℕ → Result Joined (Error A) → List ℕ →
    InputState → ℕ → Type 0
JoinsNext a s before (Ok joined) text t after =
    (count : ℕ) × TakesJoined a s joined text count t × Counts before count after
JoinsNext a s before (Err e) text t after = IsFinal a s IsUndecided e t

-- the measure of the input falls, unless there was no line
abbrev pub UsesSome : InputState → Joined → InputState → Type 0
UsesSome s Nothing t = Unit {0}
UsesSome s Skipped t = input_measure t < input_measure s
UsesSome s Whole t = input_measure t < input_measure s
UsesSome s OpenEnd t = input_measure t < input_measure s
UsesSome s BrokenLine t = input_measure t < input_measure s

-- ended where the input is used up, else open
abbrev pub stage_if : Bool → Stage
stage_if used_up = if used_up then Ended else stage_open

-- the stage after a line was joined: ended where there was none, or where the input is used up
abbrev pub stage_joined : Joined → Bool → Stage
stage_joined Nothing used_up = Ended
stage_joined Skipped used_up = stage_if used_up
stage_joined Whole used_up = stage_if used_up
stage_joined OpenEnd used_up = stage_if used_up
stage_joined BrokenLine used_up = stage_if used_up

-- failed where memory was refused, else the stage after what was joined
abbrev pub stage_after : Joined → Bool → Bool → Stage
stage_after joined used_up refused = if refused then Failed else stage_joined joined used_up

-- what was joined, as the result of `advance`: none, a line, or the error of a line that is open or
-- isn't UTF-8
abbrev pub IsOutcome : {A : Type 0} → Joined → List ℕ → Option (Result (Unit {0}) (Error A)) →
    Type 0
IsOutcome Nothing text r = r ≡ None
IsOutcome Skipped text r = r ≡ Some (Ok tt)
IsOutcome Whole text r = r ≡ Some (Ok tt)
IsOutcome OpenEnd text r =
    IsSomeAnd r (λ q. IsErrAnd q (λ e. IsMemory e ⊎ IsLineParseOf (chars text) (length text) e))
IsOutcome BrokenLine text r =
    IsSomeAnd r (λ q. IsErrAnd q (IsIoOf (λ e. error_kind e ≡ InvalidData)))

-- the result is the error that memory was refused
abbrev pub is_refused : {A : Type 0} → Option (Result (Unit {0}) (Error A)) → Bool
is_refused None = false
is_refused (Some (Ok _)) = false
is_refused (Some (Err (LineParse text index))) = false
is_refused (Some (Err (Io e))) = false
is_refused (Some (Err (EnvVar e))) = false
is_refused (Some (Err (Nul key))) = false
is_refused (Some (Err (Memory e))) = true
