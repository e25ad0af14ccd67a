-- What C is told of an item, or of the result of a load.
use Rattle.std.specs.Prelude.{ℕ, List, [], Option, Some, None, Result, Ok, Err, string_bytes}
use Rattle.std.specs.declared.io.ErrorKind.{ErrorKind}
use Rattle.std.specs.declared.io.ErrorKind.TheVariants.{InvalidData}
use Rattle.std.specs.IoError.{error_kind}
use Rattle.dotenvy.specs.Error.{Error}
use Rattle.dotenvy.specs.Error.TheVariants.{LineParse, Io, EnvVar, Nul, Memory}
use Rattle.dotenvy.specs.NextItem.{Item}
use Rattle.dotenvy_c.specs.declared.status.Told as rust

-- a status; the key of a pair; the value of a pair, or the text of an error; a place in that text
pub record ToldResult : Type 0 where
  pub status : ℕ
  pub key : List ℕ
  pub text : List ℕ
  pub index : ℕ

-- what C is told of an item, and the first and the last physical line that it is on
abbrev pub ToldItem : Type 0
ToldItem = ToldResult × (ℕ × ℕ)

-- what the record of the code says
abbrev pub told_of : rust.Told → ToldResult
told_of told = record {
  status = told.status;
  key = told.key.now;
  text = told.text.now;
  index = told.index;
}

-- the status of an error of reading: 2 for a line that is not UTF-8, and 4 for too many reads
abbrev pub kind_status : ErrorKind → ℕ
kind_status InvalidData = 2
kind_status _ = 4

-- an error with its status, its text and the place in it
abbrev pub as_error : ℕ → List ℕ → ℕ → Option ToldResult
as_error status text index =
    Some (record { status = status; key = []; text = text; index = index })

-- what C is told of an error; of refused memory and of a missing variable nothing is told here
abbrev pub error_told : {A : Type 0} → Error A → Option ToldResult
error_told (LineParse line place) = as_error 1 (string_bytes line) place
error_told (Io fault) = as_error (kind_status (error_kind fault)) [] 0
error_told (EnvVar e) = None
error_told (Nul key) = as_error 3 (string_bytes key) 0
error_told (Memory e) = None

-- what C is told of the result of a load
abbrev pub outcome_told : {A : Type 0} → Result (Unit {0}) (Error A) → Option ToldResult
outcome_told (Ok done) = as_error 0 [] 0
outcome_told (Err e) = error_told e

-- what C is told of an item
abbrev pub item_told : {A : Type 0} → Item A → Option ToldResult
item_told (Ok pair) =
    Some (record { status = 0; key = string_bytes pair.0; text = string_bytes pair.1; index = 0 })
item_told (Err e) = error_told e
