-- The calls that were made on a reader or a writer, with the result of each.
use Rattle.std.specs.Prelude.{ℕ, ◌≡◌, ◌≢◌, List, [], ◌∷◌, ◌++◌, Option, Some, Result, Ok, Err, refl}
use Rattle.std.specs.List.{AllByRecursion}
use Rattle.std.specs.IoError.{error_kind}
use Rattle.std.specs.declared.io.Error.{Error}
use Rattle.std.specs.declared.io.ErrorKind.{ErrorKind}
use Rattle.std.specs.declared.io.ErrorKind.TheVariants.{Interrupted}
use Rattle.std.specs.contracts.io.ErrorKind as kind
use Rattle.std.specs.Coded.{Coded, code_by, coded×, coded_ℕ, coded_result}

-- one call: the length of its buffer, and its result, which is a number of bytes or the kind of an error
pub record Call : Type 0 where
  pub len : ℕ
  pub answer : Result ℕ ErrorKind

-- the encoding of this record, made of those of its fields
abbrev pub call_code : Coded Call
call_code =
    code_by (ℕ × Result ℕ ErrorKind) (coded× coded_ℕ (coded_result coded_ℕ kind.the_row.coded))
    (λ c. (c.len, c.answer)) (λ p. record { len = p.0; answer = p.1 }) (λ _. refl)

-- the result of a call, reduced to the kind of its error if it failed
abbrev pub answer_kind : Result ℕ Error → Result ℕ ErrorKind
answer_kind (Ok n) = Ok n
answer_kind (Err e) = Err (error_kind e)

-- the call with a buffer of so many bytes and the result r
abbrev pub call_of : ℕ → Result ℕ Error → Call
call_of len r = record { len = len; answer = answer_kind r }

-- if the calls are specified after this one, they were before it, and are now those and this one
abbrev pub TellsCall : Option (List Call) → Option (List Call) → Call → Type 0
TellsCall before after call =
    (all : List Call) → after ≡ Some all →
    (calls : List Call) × (before ≡ Some calls) × (all ≡ calls ++ call ∷ [])

-- another call may follow one with this result: it moved some bytes, or was interrupted
abbrev pub MayGoOn : Result ℕ ErrorKind → Type 0
MayGoOn (Ok n) = n ≢ 0
MayGoOn (Err kind) = kind ≡ Interrupted

-- another call may follow each of these calls
abbrev pub AllMayGoOn : List Call → Type 0
AllMayGoOn calls = AllByRecursion (λ call. MayGoOn call.answer) calls

-- another call may follow each of these calls except the last
abbrev pub OnlyLastEnds : List Call → Type 0
OnlyLastEnds [] = Unit {0}
OnlyLastEnds (call ∷ []) = Unit {0}
OnlyLastEnds (call ∷ next ∷ calls) = MayGoOn call.answer × OnlyLastEnds (next ∷ calls)

-- there is a last one of these calls, and it moved no byte
abbrev pub LastMovesNone : List Call → Type 0
LastMovesNone [] = ⊥
LastMovesNone (call ∷ []) = call.answer ≡ Ok 0
LastMovesNone (call ∷ next ∷ calls) = LastMovesNone (next ∷ calls)
