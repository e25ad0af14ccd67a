-- What an input has left, and what a read gives it.
use Rattle.std.specs.Prelude.{ℕ, ◌≡◌, ◌≢◌, ◌+◌, ◌*◌, ◌^◌, ◌≤◌, ◌⊎◌, Bool, true, false, ◌&&◌, nat_eq}
use Rattle.std.specs.Prelude.{nat_lt, List, [], ◌++◌, length, Option, Some, Result, Ok, Err, refl}
use Rattle.std.specs.Prelude.{if◌then◌else◌}
use Rattle.std.specs.List.{starts_with, AllByRecursion}
use Rattle.std.specs.IoError.{error_kind}
use Rattle.std.specs.declared.io.Error.{Error as IoError}
use Rattle.std.specs.declared.io.ErrorKind.TheVariants.{Interrupted, Other}
use Rattle.std.specs.Coded.{Coded, code_by, coded×, coded_ℕ, coded_bool, coded_list, coded_option}
use Rattle.dotenvy_format.specs.Marks.{byte_order_mark, without_mark}
use Rattle.dotenvy_base.specs.Calls.{Call, call_code, AllMayGoOn, LastMovesNone, OnlyLastEnds}
use Rattle.dotenvy_base.specs.Source.{Ahead, Told, ahead_code}
use Rattle.dotenvy_base.specs.declared.errors.Error.{Error}
use Rattle.dotenvy_base.specs.Errors.{IsMemory, IsIoOf}

-- what is left to use; how many bytes of it were read already; how many reads may still be made;
-- whether the end was read; the calls that the source tells, and the references that it is read
-- through
pub record InputState : Type 0 where
  pub left : Option Ahead
  pub unread : ℕ
  pub reads : ℕ
  pub at_end : Bool
  pub calls : Option (List Call)
  pub references : List ℕ

-- the state of an input as a tuple
abbrev pub input_code : Coded InputState
input_code =
    code_by (Option Ahead × (ℕ × (ℕ × (Bool × (Option (List Call) × List ℕ)))))
    (coded× (coded_option ahead_code) (coded× coded_ℕ (coded× coded_ℕ
    (coded× coded_bool (coded× (coded_option (coded_list call_code)) (coded_list coded_ℕ))))))
    (λ s. (s.left, (s.unread, (s.reads, (s.at_end, (s.calls, s.references))))))
    (λ p. record {
      left = p.0;
      unread = p.1.0;
      reads = p.1.1.0;
      at_end = p.1.1.1.0;
      calls = p.1.1.1.1.0;
      references = p.1.1.1.1.1;
    })
    (λ _. refl)

-- it is told what is left, and no interrupted read
abbrev pub IsTold : Option Ahead → Ahead → Type 0
IsTold left a = (left ≡ Some a) × (a.fault ≢ Some Interrupted)

-- the most bytes that one read asks for
abbrev pub most_bytes : ℕ
most_bytes = 8192

-- the most reads that one iterator makes
abbrev pub most_reads : ℕ
most_reads = 2 ^ 32

-- the measure of loops over an input: it falls with each read, and with each byte that is used
abbrev pub input_measure : InputState → ℕ
input_measure s = s.reads * (most_bytes + 1) + s.unread

-- 1 where the end was read
abbrev pub end_reads : Bool → ℕ
end_reads at_end = if at_end then 1 else 0

-- from s with a left to t with b left no more reads were made than bytes came, and one for the end
abbrev pub ReadsFit : Ahead → InputState → Ahead → InputState → Type 0
ReadsFit a s b t =
    s.reads + s.unread + length b.bytes + end_reads s.at_end
    ≤ t.reads + t.unread + length a.bytes + end_reads t.at_end

-- the bound on reads was met on the way from s to t after a front of the bytes, of which P holds:
-- no read is left, and each gave a byte at least
pub record BoundIsMet (a : Ahead) (s : InputState) (P : List ℕ → Type 0) (t : InputState)
    : Type 0 where
  pub front : List ℕ
  pub later : List ℕ
  pub cut : a.bytes ≡ front ++ later
  pub holds : P front
  pub none_left : t.reads ≡ 0
  pub each_gave : s.reads + s.unread + end_reads s.at_end ≤ length front

-- a fault of reading, met after bytes of which P holds: the one that is told, after all of them; or the bound on reads
abbrev pub IsReadFault : Ahead → InputState → (List ℕ → Type 0) → InputState → IoError → Type 0
IsReadFault a s P t e =
    ((a.fault ≡ Some (error_kind e)) × P a.bytes) ⊎ ((error_kind e ≡ Other) × BoundIsMet a s P t)

-- a final fault: memory was refused, or a fault of reading; the fault that follows the specified bytes is specified,
-- and neither refused memory nor the bound on reads is
abbrev pub IsFinal : {A : Type 0} → Ahead → InputState → (List ℕ → Type 0) → Error A → InputState →
    Type 0
IsFinal a s P e t = IsMemory e ⊎ IsIoOf (IsReadFault a s P t) e

-- of what s has left these bytes were used, t has the others left, and the reads made fit them
pub record Moves (a : Ahead) (s : InputState) (used left : List ℕ) (t : InputState) : Type 0 where
  pub joins : a.bytes ≡ used ++ left
  pub is_left : t.left ≡ Some (record { bytes = left; fault = a.fault })
  pub reads : ReadsFit a s (record { bytes = left; fault = a.fault }) t

-- the front of a byte order mark, and not all of it
abbrev pub begins_mark : List ℕ → Bool
begins_mark bytes = nat_lt (length bytes) 3 && starts_with nat_eq byte_order_mark bytes

-- a byte order mark that stood next was dropped, and nothing else, or a fault that is told came before that was decided
abbrev pub DropsMark : {A : Type 0} → Ahead → InputState → Result (Unit {0}) (Error A) →
    InputState → Type 0
DropsMark a s (Ok _) t =
    (t.left ≡ Some (record { bytes = without_mark a.bytes; fault = a.fault }))
    × ReadsFit a s (record { bytes = without_mark a.bytes; fault = a.fault }) t
DropsMark a s (Err e) t = IsFinal a s (λ bytes. begins_mark bytes ≡ true) e t

-- the reads that were made on the way from s to t: each counts, also one that was interrupted; each
-- asks for `most_bytes` at most; none follows the end, or a fault that is no interruption; and the
-- end is met by a read that gave no byte, and by nothing else
pub record MakesReads (s t : InputState) (made : List Call) : Type 0 where
  pub counted : length made + t.reads ≡ s.reads
  pub small : AllByRecursion (λ call. call.len ≤ most_bytes) made
  pub in_turn : OnlyLastEnds made
  pub ended : s.at_end ≡ true → (made ≡ []) × (t.at_end ≡ true)
  pub meets_end : s.at_end ≡ false → t.at_end ≡ true → LastMovesNone made

-- where the source tells its calls, these were made; where reading goes on, and the end was not
-- read, more may follow
abbrev pub TellsReads : Type 0 → InputState → InputState → Type 0
TellsReads goes_on s t =
    (all : List Call) → t.calls ≡ Some all →
    (calls made : List Call) × (s.calls ≡ Some calls) × (all ≡ calls ++ made) × MakesReads s t made
    × (goes_on → t.at_end ≡ false → AllMayGoOn made)

-- such reads were made, of the source itself: it is read through the references that it was
abbrev pub AsksReads : Type 0 → InputState → InputState → Type 0
AsksReads goes_on s t = (t.references ≡ s.references) × TellsReads goes_on s t

-- reads that one iterator makes: at most `most_reads`, each for at most `most_bytes`, none after
-- the end, or after a fault that is no interruption
pub record AreReads (made : List Call) : Type 0 where
  pub few : length made ≤ most_reads
  pub small : AllByRecursion (λ call. call.len ≤ most_bytes) made
  pub in_turn : OnlyLastEnds made

-- between what a source told and what it tells now, one iterator made reads of it, and no one else
abbrev pub ReadsBetween : Told → Told → Type 0
ReadsBetween before after =
    (after.references ≡ before.references)
    × ((all : List Call) → after.calls ≡ Some all →
    (calls made : List Call) × (before.calls ≡ Some calls) × (all ≡ calls ++ made) × AreReads made)
