-- How a run ends, by what was done.
use Rattle.std.proofs.Common.{◌≡◌, ◌++◌, ◌∷◌, ◌⊎◌, ◌<◌, ◌≤◌, ℕ, List, Ok, Err, Result, ap, arith, inl, inr, length}
use Rattle.std.proofs.Common.{length-append, refl, string_bytes, subst}
use Rattle.std.specs.Prelude.{IsErrAnd}
use Rattle.std.specs.declared.alloc.AllocError.{AllocError}
use Rattle.dotenvy_base.specs.Errors.{IsMemory}
use Rattle.dotenvy_base.specs.declared.errors.Error.TheVariants.{Memory}
use Rattle.dotenvy_format.specs.declared.dialect.Dialect.{Dialect}
use Rattle.env_layers.specs.declared.layers.Mode.{Mode}
use Rattle.dotenvy_exporter.specs.Declarations.{StopsDeclared}
use Rattle.dotenvy_exporter.specs.Targets.{WritesFor}
use Rattle.dotenvy_exporter.specs.Texts.{Pair}
use Rattle.dotenvy_exporter.specs.declared.export.Unwritten.{Unwritten}
use Rattle.dotenvy_exporter.specs.declared.export.Unwritten.TheVariants as unwritten
use Rattle.dotenvy_exporter.specs.declared.target.Target.{Target}
use Rattle.dotenvy_export_command.specs.Failures.{IsMemoryEnd}
use Rattle.std.specs.Prelude.{codes}
use Rattle.std.specs.declared.string.String.{String}
use Rattle.clap.specs.Words.{Text}
use Rattle.dotenvy_base.specs.Environment.{Env, Texts}
use Rattle.dotenvy_base.specs.Source.{SinkTold}
use Rattle.dotenvy_export_command.specs.declared.failure.Failure.{Failure}
use Rattle.dotenvy_export_command.specs.declared.failure.Failure.TheVariants as failure
use Rattle.dotenvy_export_command.specs.declared.failure.Usage.{Usage}
use Rattle.dotenvy_export_command.specs.declared.failure.Usage.TheVariants as usage
use Rattle.dotenvy_export_command.specs.declared.inputs.Inputs.{Inputs}
use Rattle.dotenvy_exporter.specs.declared.declared.Stopped.{Stopped}
use Rattle.dotenvy_export_command.specs.declared.words.How.{How}
use Rattle.dotenvy_export_command.specs.Answers.{IsFailureOf}
use Rattle.dotenvy_streams.specs.Telling.{Says}
use Rattle.dotenvy_export_command.specs.Ends.{memory_line, EndsBy, IsUnread, IsWrongCall, Prints, RefusesCall}
use Rattle.dotenvy_export_command.specs.Ends.{SaysFailure}
use Rattle.dotenvy_export_command.specs.Exports.{Exports, IsWrite, WritesKept, WritesLoaded}
use Rattle.dotenvy_export_command.specs.Words.{AreTaken}

-- a file that can't be read is no wrong call
pub unread_right : {A : Type 0} (failed : Failure A) → IsUnread failed → IsWrongCall failed → ⊥
unread_right (failure.Usage usage) unread wrong = unread
unread_right other unread wrong = wrong

-- neither is what a load comes to
load_right : {A W : Type 0} (told : W → SinkTold) (how : How) (names : List Text) (old new : W) (call : Usage A)
    (declared : Result Env (Stopped A)) → WritesLoaded told how names old new declared (Err (failure.Usage call)) → ⊥
load_right told how names old new call (Ok env) writes = writes
load_right told how names old new call (Err stopped) writes = writes.0

-- nor an export
pub export_right : {A W : Type 0} (told : W → SinkTold) (how : How) (inputs : Inputs A) (old new : W)
    (failed : Failure A) → Exports told how inputs old new (Err failed) → IsWrongCall failed → ⊥
export_right told how inputs old new (failure.Usage call) (declared, loads, writes) wrong =
    load_right told how _ old new call declared writes
export_right told how inputs old new other exports wrong = wrong

-- nor a text that can't be printed
pub print_right : {A W : Type 0} (told : W → SinkTold) (old new : W) (text : Text) (failed : Failure A) →
    Prints told old new text (Err failed) → IsWrongCall failed → ⊥
print_right told old new text (failure.Usage call) prints wrong = prints
print_right told old new text other prints wrong = wrong

-- where words are taken, only an allocation can fail
pub taken_fails : {A : Type 0} (words : List Text) → AreTaken words → (failed : Failure A) → IsFailureOf words failed →
    IsUnread failed
taken_fails words taken (failure.Usage (usage.Word kind word)) is = rw taken.0 at is.0.1.1
taken_fails words taken (failure.Usage usage.NoTarget) is = let none = rw is.1 at taken.1 in cc
taken_fails words taken (failure.Usage (usage.Target name)) is = let none = rw (is.1.1, is.1.2) at taken.1 in cc
taken_fails words taken (failure.File file error) is = tt
taken_fails words taken (failure.Line file line) is = is
taken_fails words taken (failure.Nul file line name) is = is
taken_fails words taken (failure.Refused target name reason) is = is
taken_fails words taken (failure.Write error) is = is
taken_fails words taken (failure.Memory refused) is = tt

-- something was done, and its text is said
pub ends_done : {A E : Type 0} (does : Result (String A) (Failure A) → Type 0) (told : E → SinkTold) (old new : E)
    (said : String A) → does (Ok said) → Says A told old new (string_bytes said) → EndsBy does told old new (Ok 0)
ends_done does told old new said done says = (Ok said, done, (refl, says))

-- something failed, and that is said
pub ends_failed : {A E : Type 0} (does : Result (String A) (Failure A) → Type 0) (told : E → SinkTold) (old new : E)
    (failed : Failure A) → does (Err failed) → SaysFailure told old new failed → EndsBy does told old new (Ok 1)
ends_failed does told old new failed done says = (Err failed, done, (refl, says))

-- a failed allocation is said on one line
memory_said : {A E : Type 0} (told : E → SinkTold) (old new : E) (line : Text) →
    (line ≡ memory_line) ⊎ (line ≡ codes "dotenvy_export: " ++ (codes "error: out of memory" ++ codes "\n")) →
    Says A told old new line → Says A told old new memory_line
memory_said {A = A} told old new line (inl is) says = subst (Says A told old new) is says
memory_said {A = A} told old new line (inr is) says = subst (Says A told old new) is says

-- where the call is wrong, but is not refused, an allocation failed
pub refusal_failed : {A E : Type 0} (words : List Text) (told : E → SinkTold) (old new : E) (failed : Failure A) →
    (IsWrongCall failed → ⊥) → IsFailureOf words failed → SaysFailure told old new failed →
    RefusesCall {A = A} words told old new (Ok 1)
refusal_failed words told old new (failure.Usage call) right is says = absurd (right tt)
refusal_failed words told old new (failure.File file error) right is says = absurd is
refusal_failed words told old new (failure.Line file line) right is says = absurd is
refusal_failed words told old new (failure.Nul file line name) right is says = absurd is
refusal_failed words told old new (failure.Refused target name reason) right is says = absurd is
refusal_failed words told old new (failure.Write error) right is says = absurd is
refusal_failed words told old new (failure.Memory refused) right is (line, said, says) =
    (refl, memory_said told old new line said says)

-- where memory is refused, and nothing is written, that is an end of what was loaded
pub kept_refused : {A W : Type 0} (told : W → SinkTold) (how : How) (pairs : List Pair) (old new : W)
    (result : Result (String A) (Failure A)) → IsErrAnd result IsMemoryEnd → new ≡ old →
    WritesKept told how pairs old new result
kept_refused told how pairs old new (Err (failure.Memory refused)) is same = same
kept_refused told how pairs old new (Err other) is same = absurd is
kept_refused told how pairs old new (Ok said) is same = absurd is

-- where memory is refused before the files are loaded, that is an end of the export
pub load_refused : {A W : Type 0} (told : W → SinkTold) (how : How) (inputs : Inputs A) (refused : AllocError)
    (old : W) (result : Result (String A) (Failure A)) → IsErrAnd result IsMemoryEnd →
    Exports told how inputs old old result
load_refused told how inputs refused old (Err (failure.Memory again)) is =
    (Err (record { file = 0; line = 0; error = Memory refused }), inl (refl, tt), (tt, refl))
load_refused told how inputs refused old (Err other) is = absurd is
load_refused told how inputs refused old (Ok said) is = absurd is

-- pairs that are not written, but by the write itself, leave the sink as it was
pub unwritten_same : {A W : Type 0} (told : W → SinkTold) (target : Target) (pairs : List Pair) (old new : W)
    (refused : Unwritten A) → WritesFor told target pairs old new (Err refused) → (IsWrite refused → ⊥) → new ≡ old
unwritten_same told target pairs old new (unwritten.Refused named) writes not = writes.1
unwritten_same told target pairs old new (unwritten.Write error) writes not = absurd (not tt)
unwritten_same told target pairs old new (unwritten.Memory refused) writes not = writes

-- a load stops for want of memory, or in one of the files
pub stops_within : {A : Type 0} (mode : Mode) (dialect : Dialect) (env : Texts) (files : List (List ℕ)) (names : ℕ)
    (stopped : Stopped A) → length files ≤ names → StopsDeclared mode dialect env files stopped →
    IsMemory stopped.error ⊎ stopped.file < names
stops_within mode dialect env files names stopped enough (inl memory) = inl memory.1
stops_within mode dialect env files names stopped enough (inr (start, is, stops)) =
    let all = ap length stops.cut in
    inr (omega (arith, enough, stops.number, all, length-append stops.front (stops.file ∷ stops.back)))

-- a failure that is none of the words is no wrong call
pub not_wrong : {A : Type 0} (failed : Failure A) → ((call : Usage A) → failed ≡ failure.Usage call → ⊥) →
    IsWrongCall failed → ⊥
not_wrong (failure.Usage call) not wrong = not call refl
not_wrong other not wrong = wrong
