-- What a call that writes appends to its sink, and which errors it may return.
use Rattle.std.specs.Prelude.{ℕ, ◌≡◌, ◌≤◌, ◌^◌, ◌≢◌, ◌⊎◌, List, [], ◌∷◌, ◌++◌, length, Option, Some}
use Rattle.std.specs.Prelude.{None, Result, Ok, Err, IfErr, OnOk, OnErr, IsErrAnd}
use Rattle.std.specs.IoError.{error_kind}
use Rattle.std.specs.declared.io.Error.{Error as IoError}
use Rattle.std.specs.declared.io.ErrorKind.{ErrorKind}
use Rattle.std.specs.declared.io.ErrorKind.TheVariants.{Interrupted, Other, WriteZero}
use Rattle.dotenvy_base.specs.declared.errors.Error.{Error}
use Rattle.dotenvy_base.specs.Errors.{IsMemory, IsIoOf}
use Rattle.dotenvy_base.specs.Calls.{Call, AllMayGoOn, OnlyLastEnds}
use Rattle.dotenvy_base.specs.Source.{SinkTold}

-- these bytes were appended to a sink, if what it holds is specified
abbrev pub Appended : Option (List ℕ) → Option (List ℕ) → List ℕ → Type 0
Appended None after bytes = Unit {0}
Appended (Some held) after bytes = after ≡ Some (held ++ bytes)

-- the writes ran out, with so many bytes taken: each took a byte at least, or the last to fail was interrupted
abbrev pub NoWriteIsLeft : ℕ → ℕ → Option ErrorKind → IoError → Type 0
NoWriteIsLeft most taken last e =
    (error_kind e ≡ Other) × ((last ≡ Some Interrupted) ⊎ (most ≤ taken))

-- the error is that of the last failed write, which was not interrupted
abbrev pub IsLastFault : Option ErrorKind → IoError → Type 0
IsLastFault last e = (last ≡ Some (error_kind e)) × (error_kind e ≢ Interrupted)

-- if no write had failed before, the error is that of the last failed write, or the writes ran out
abbrev pub IsWriteFault : ℕ → ℕ → Option ErrorKind → Option ErrorKind → IoError → Type 0
IsWriteFault most taken before after e =
    before ≡ None → IsLastFault after e ⊎ NoWriteIsLeft most taken after e

-- the error is that of a write with this result: its own, or `WriteZero` if it took nothing; never an interruption
abbrev pub IsFaultOf : Result ℕ ErrorKind → IoError → Type 0
IsFaultOf (Ok n) e = (n ≡ 0) × (error_kind e ≡ WriteZero)
IsFaultOf (Err kind) e = (kind ≢ Interrupted) × (error_kind e ≡ kind)

-- the error is that of the last of these writes; or they ran out, and none failed except by an interruption
abbrev pub IsFaultOfWrites : ℕ → List Call → IoError → Type 0
IsFaultOfWrites most made e =
    ((front : List Call) × (last : Call) × (made ≡ front ++ last ∷ []) × IsFaultOf last.answer e)
    ⊎ ((error_kind e ≡ Other) × (length made ≡ most) × AllMayGoOn made)

-- the writes of one call: at most `most`, none follows one that failed for good, and an error of the call is theirs
pub record MakesWrites {A : Type 0} (most : ℕ) (made : List Call)
    (answer : Result (Unit {0}) (Error A)) : Type 0 where
  pub few : length made ≤ most
  pub in_turn : OnlyLastEnds made
  pub whole : OnOk answer (AllMayGoOn made)
  pub fault : IfErr answer (IsIoOf (IsFaultOfWrites most made))

-- which writes a call makes on a sink, if the calls on that sink are specified
abbrev pub AsksWrites : {A : Type 0} → ℕ → Option (List Call) → Option (List Call) →
    Result (Unit {0}) (Error A) → Type 0
AsksWrites most before after answer =
    (all : List Call) → after ≡ Some all →
    (calls made : List Call) × (before ≡ Some calls) × (all ≡ calls ++ made)
    × MakesWrites most made answer

-- a call sends bytes to a sink, in so many writes at most: all of them if it returns Ok, else only a first part
pub record Sends {A W : Type 0} (told : W → SinkTold) (most : ℕ) (old new : W) (bytes : List ℕ)
    (answer : Result (Unit {0}) (Error A)) : Type 0 where
  pub front : List ℕ
  pub rest : List ℕ
  pub cut : bytes ≡ front ++ rest
  pub appended : Appended (told old).held (told new).held front
  pub whole : OnOk answer (rest ≡ [])
  pub unsent : OnErr answer (rest ≢ [])
  pub fault : IfErr answer
      (IsIoOf
      (IsWriteFault most (length front) (told old).last_fault (told new).last_fault))
  pub asks : AsksWrites most (told old).calls (told new).calls answer

-- the most writes that one call makes
abbrev pub most_writes : ℕ
most_writes = 2 ^ 32

-- a call builds the bytes and then sends them to a sink; if an allocation fails, the sink is unchanged
abbrev pub Writes : {A W : Type 0} → (W → SinkTold) → W → W → List ℕ →
    Result (Unit {0}) (Error A) → Type 0
Writes told old new bytes answer =
    (IsErrAnd answer IsMemory × (new ≡ old)) ⊎ Sends told most_writes old new bytes answer
