-- What C is told, in the words of the grammar.
use Rattle.std.specs.Prelude.{ℕ, ◌≡◌, List, [], ◌∷◌, Result, Ok, Err}
use Rattle.std.specs.Str.{chars}
use Rattle.dotenvy.specs.Entries.{Failure, LineParse, Io, Nul, Memory}
use Rattle.dotenvy.specs.Environment.{Texts}
use Rattle.dotenvy.specs.Meaning.{values_of}
use Rattle.dotenvy.specs.Run.{Loaded}
use Rattle.dotenvy_c.specs.Told.{ToldItem, ToldResult, kind_status}

-- this is told of a pair, by its characters, or of a failure; refused memory is told of no item
abbrev pub SaysTold : ToldResult → Result (List ℕ × List ℕ) Failure → Type 0
SaysTold told (Ok (key, value)) =
    (told.status ≡ 0) × (chars told.key ≡ key) × (chars told.text ≡ value) × (told.index ≡ 0)
SaysTold told (Err (LineParse text index)) =
    (told.status ≡ 1) × (told.key ≡ []) × (chars told.text ≡ text) × (told.index ≡ index)
SaysTold told (Err (Io kind)) =
    (told.status ≡ kind_status kind) × (told.key ≡ []) × (told.text ≡ []) × (told.index ≡ 0)
SaysTold told (Err (Nul key)) =
    (told.status ≡ 3) × (told.key ≡ []) × (told.text ≡ key) × (told.index ≡ 0)
SaysTold told (Err Memory) = ⊥

-- this is told of the result of a load
abbrev pub SaysLoadAnswer : ToldResult → Result (Unit {0}) Failure → Type 0
SaysLoadAnswer told (Ok done) =
    (told.status ≡ 0) × (told.key ≡ []) × (told.text ≡ []) × (told.index ≡ 0)
SaysLoadAnswer told (Err failure) = SaysTold told (Err failure)

-- an environment has the values that a load leaves, and this is told of the load's result
pub record SaysLoad (loaded : Loaded) (names : Texts) (told : ToldResult) : Type 0 where
  pub values : (name : List ℕ) → values_of names name ≡ loaded.env name
  pub answer : SaysLoadAnswer told loaded.answer

-- this is told of these items: of all, and in order
abbrev pub SayTold : List ToldItem → List (Result (List ℕ × List ℕ) Failure) → Type 0
SayTold [] [] = Unit {0}
SayTold [] (item ∷ items) = ⊥
SayTold (told ∷ later) [] = ⊥
SayTold (told ∷ later) (item ∷ items) = SaysTold told.0 item × SayTold later items
