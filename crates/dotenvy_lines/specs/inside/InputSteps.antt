-- What one step of reading does to an input.
use Rattle.dotenvy_lines.specs.Input.{InputState, IsTold, end_reads, most_bytes}
use Rattle.dotenvy_lines.specs.Input.{ReadsFit, IsFinal, Moves}
use Rattle.std.specs.Prelude.{ℕ, ◌≡◌, ◌+◌, ◌-◌, ◌≤◌, ◌<◌, ◌⊎◌, Bool, true, false, List, [], ◌∷◌}
use Rattle.std.specs.Prelude.{◌++◌, length, take, drop, Option, Some, None, Result, Ok, Err}
use Rattle.std.specs.Prelude.{MatchBool}
use Rattle.std.specs.IoError.{error_kind}
use Rattle.std.specs.declared.io.Error.{Error as IoError}
use Rattle.dotenvy_format.specs.PhysicalLines.{no_line_feed, is_whole_line}
use Rattle.dotenvy_base.specs.Calls.{Call, MayGoOn}
use Rattle.dotenvy_base.specs.Source.{Ahead, Told}
use Rattle.dotenvy_base.specs.declared.errors.Error.{Error}
use Rattle.dotenvy_base.specs.Errors.{IsMemory, IsIoOf}

-- what is left to use: the unread bytes, and until the end was read those that the source tells
abbrev pub left_of : Bool → Option Ahead → List ℕ → Option Ahead
left_of true ahead unread = Some (record { bytes = unread; fault = None })
left_of false None unread = None
left_of false (Some a) unread = Some (record { bytes = unread ++ a.bytes; fault = a.fault })

-- if the source tells what is left, and no interrupted read, this holds of it
abbrev pub WhereTold : Option Ahead → (Ahead → Type 0) → Type 0
WhereTold left P = (a : Ahead) → IsTold left a → P a

-- all that is left was read, and no fault follows
abbrev pub IsAllRead : Ahead → ℕ → Type 0
IsAllRead a unread = (length a.bytes ≡ unread) × (a.fault ≡ None)

-- what is left after the first n bytes
abbrev pub drop_left : ℕ → Option Ahead → Option Ahead
drop_left n None = None
drop_left n (Some a) = Some (record { bytes = drop n a.bytes; fault = a.fault })

-- the input after its first n unread bytes were used
abbrev pub used_up : ℕ → InputState → InputState
used_up n s = record s { left = drop_left n s.left; unread = s.unread - n }

-- the source has no bytes left, and gives this fault next
abbrev pub FaultIsNext : Ahead → IoError → Type 0
FaultIsNext a e = (a.bytes ≡ []) × (a.fault ≡ Some (error_kind e))

-- a read took some of the bytes that the source tells: at least one, unless it met the end
pub record Takes (a : Ahead) (old : List ℕ) (at_end : Bool) (after : Option Ahead) (new : List ℕ) :
    Type 0 where
  pub some : List ℕ
  pub later : List ℕ
  pub cut : a.bytes ≡ some ++ later
  pub left : after ≡ Some (record { bytes = later; fault = a.fault })
  pub appends : new ≡ old ++ some
  pub goes_on : 1 ≤ length some + end_reads at_end
  pub ends : at_end ≡ true → (later ≡ []) × (a.fault ≡ None)

-- one read of a source that tells its bytes: it took some of them, or it failed
abbrev pub ReadsOnce : {A : Type 0} → Ahead → List ℕ → Result Bool (Error A) → Option Ahead →
    List ℕ → Type 0
ReadsOnce a old (Ok at_end) after new = Takes a old at_end after new
ReadsOnce a old (Err e) after new = IsMemory e ⊎ IsIoOf (FaultIsNext a) e

-- one read: what is left to use stays as it is, or a fault comes right after the bytes read
abbrev pub ReadsMore : {A : Type 0} → Ahead → InputState → Result (Unit {0}) (Error A) →
    InputState → Type 0
ReadsMore a s (Ok _) t = (t.left ≡ Some a) × ReadsFit a s a t
ReadsMore a s (Err e) t = IsFinal a s (λ bytes. length bytes ≡ s.unread) e t

-- the unread bytes up to the first line feed, with it, or all of them where there is none
pub record IsLinePiece (s : InputState) (piece : List ℕ) (whole : Bool) : Type 0 where
  pub within : length piece ≤ s.unread
  pub is_line :
      MatchBool whole (is_whole_line piece ≡ true)
      ((no_line_feed piece ≡ true) × (length piece ≡ s.unread))
  pub told : (a : Ahead) → s.left ≡ Some a → piece ≡ take (length piece) a.bytes

-- whether something is left: a byte is unread; or the end was read, and nothing is left; or a fault
-- came before any byte
abbrev pub FindsMore : {A : Type 0} → Ahead → InputState → Result Bool (Error A) → InputState →
    Type 0
FindsMore a s (Ok more) t =
    (t.left ≡ Some a) × ReadsFit a s a t
    × MatchBool more (0 < t.unread) ((a.bytes ≡ []) × (a.fault ≡ None) × (t.at_end ≡ true))
FindsMore a s (Err e) t = IsFinal a s (λ bytes. bytes ≡ []) e t

-- the next physical line was used: the bytes up to its line feed, or all that was left
pub record TakesLine (a : Ahead) (s : InputState) (line : List ℕ) (t : InputState) : Type 0 where
  pub left : List ℕ
  pub moves : Moves a s line left t
  pub is_line :
      (is_whole_line line ≡ true)
      ⊎ ((no_line_feed line ≡ true) × (left ≡ []) × (a.fault ≡ None) × (t.at_end ≡ true))

-- the next physical line was skipped, or a fault came before its line feed
abbrev pub SkipsLine : {A : Type 0} → Ahead → InputState → Result (Unit {0}) (Error A) →
    InputState → Type 0
SkipsLine a s (Ok _) t = (line : List ℕ) × TakesLine a s line t
SkipsLine a s (Err e) t = IsFinal a s (λ bytes. no_line_feed bytes ≡ true) e t

-- one read of the source, for at most `most_bytes`; more may follow, unless it met the end, which
-- is to give no byte, or failed
abbrev pub AsksOnce : {A : Type 0} → Told → Result Bool (Error A) → Told → Type 0
AsksOnce before answer after =
    (after.references ≡ before.references)
    × ((all : List Call) → after.calls ≡ Some all →
    (calls : List Call) × (call : Call) × (before.calls ≡ Some calls) × (all ≡ calls ++ call ∷ [])
    × (call.len ≤ most_bytes) × (answer ≡ Ok false → MayGoOn call.answer)
    × (answer ≡ Ok true → call.answer ≡ Ok 0))
