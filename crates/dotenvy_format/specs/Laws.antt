-- Laws of the format: what holds for every file, whatever its bytes.
use Rattle.std.specs.Prelude.{◌≡◌, ◌≢◌, ◌<◌, ◌≤◌, ◌⊎◌, ℕ, List, [], ◌∷◌, ◌++◌, length, take, Option}
use Rattle.std.specs.Prelude.{Some, map, Ok, encode_utf8_all, IsTrue}
use Rattle.std.specs.Char.{is_ascii}
use Rattle.std.specs.List.{list_all}
use Rattle.dotenvy_format.specs.declared.dialect.Dialect.{Dialect}
use Rattle.dotenvy_format.specs.PhysicalLines.{AreCut, line_texts}
use Rattle.dotenvy_format.specs.LogicalLine.{Logical, IsNext}
use Rattle.dotenvy_format.specs.Statement.{IsStatement}
use Rattle.dotenvy_format.specs.Value.{Piece, Text, Name, LastBackslash, IsValue}
use Rattle.dotenvy_format.specs.Places.{BeginsStatement, BeginsValue, IsPlace}
use Rattle.dotenvy_format.specs.Outcome.{Outcome, Says}
use Rattle.dotenvy_format.specs.Entries.{Entry, Declares, Fails, HasEntries}
use Rattle.dotenvy_format.specs.Items.{LookUp, items}
use Rattle.dotenvy_format.specs.Run.{Keep, Replace, run}
use Rattle.dotenvy_format.specs.Loads.{load_result, override_result, SameLoad}
use Rattle.dotenvy_format.specs.Written.{written_text, AreWritable}
use Rattle.dotenvy_format.specs.Decided.{HasDecided}

-- the physical lines of any bytes can be the lines of a file
abbrev pub LinesAreCut : Type 0
LinesAreCut = (bytes : List ℕ) → AreCut (line_texts bytes)

-- physical lines, if there are any, have one next logical line, made of one number of them
abbrev pub HasOneNext : Type 0
HasOneNext =
    (lines : List (Option (List ℕ))) → lines ≢ [] → AreCut lines →
    (count : ℕ) × (next : Logical) × IsNext lines count next
    × ((number : ℕ) (other : Logical) → IsNext lines number other →
    (number ≡ count) × (other ≡ next))

-- a value has one meaning: one list of pieces
abbrev pub HasOneMeaning : Type 0
HasOneMeaning =
    (dialect : Dialect) (value : List ℕ) (pieces others : List Piece) →
    IsValue dialect value pieces →
    IsValue dialect value others → pieces ≡ others

-- a line says one thing, and only one
abbrev pub HasOneOutcome : Type 0
HasOneOutcome =
    (dialect : Dialect) (line : List ℕ) → (outcome : Outcome) × Says dialect line outcome
    × ((other : Outcome) → Says dialect line other → other ≡ outcome)

-- no front of the text that is longer than this place can be completed
abbrev pub NoLongerBegins : (List ℕ → Type 0) → List ℕ → ℕ → Type 0
NoLongerBegins Begins text place =
    (longer : ℕ) → place < longer → longer ≤ length text → ¬ (Begins (take longer text))

-- no front that is longer than the place of a fault can be completed, to a statement or to a value
abbrev pub PlacesAreLongest : Type 0
PlacesAreLongest =
    ((text : List ℕ) (place : ℕ) → IsPlace BeginsStatement text place →
    NoLongerBegins BeginsStatement text place)
    × ((dialect : Dialect) (text : List ℕ) (place : ℕ) → IsPlace (BeginsValue dialect) text place →
    NoLongerBegins (BeginsValue dialect) text place)

-- what can be completed to a statement or to a value can be by a text, even one of ASCII characters
abbrev pub CompletedByText : Type 0
CompletedByText =
    ((front : List ℕ) → BeginsStatement front →
    (more key rest : List ℕ) × IsTrue (list_all is_ascii more) × IsStatement (front ++ more) key rest)
    × ((dialect : Dialect) (front : List ℕ) → BeginsValue dialect front →
    (more : List ℕ) × (pieces : List Piece) × IsTrue (list_all is_ascii more)
    × IsValue dialect (front ++ more) pieces)

-- bytes have one list of entries, and only one
abbrev pub HasOneReading : Type 0
HasOneReading =
    (dialect : Dialect) (bytes : List ℕ) → (entries : List Entry) × HasEntries dialect bytes entries
    × ((others : List Entry) → HasEntries dialect bytes others → others ≡ entries)

-- bytes decide one list of entries, and only one
abbrev pub HasOneDecision : Type 0
HasOneDecision =
    (dialect : Dialect) (bytes : List ℕ) → (entries : List Entry) × HasDecided dialect bytes entries
    × ((others : List Entry) → HasDecided dialect bytes others → others ≡ entries)

-- the entries that bytes decide are the first entries of these bytes and whatever follows them
abbrev pub DecidesFront : Type 0
DecidesFront =
    (dialect : Dialect) (bytes more : List ℕ) (decided entries : List Entry) →
    HasDecided dialect bytes decided → HasEntries dialect (bytes ++ more) entries →
    (later : List Entry) × (entries ≡ decided ++ later)

-- written pairs are read back as themselves, under every environment
abbrev pub ReadsBack : Type 0
ReadsBack =
    (dialect : Dialect) (env : LookUp) (pairs : List (List ℕ × List ℕ)) (entries : List Entry) →
    AreWritable pairs →
    HasEntries dialect (encode_utf8_all (written_text pairs)) entries →
    items env entries ≡ map Ok pairs

-- loading one entry after another has the result that `load_result` and `override_result` say
abbrev pub LoadsInTurn : Type 0
LoadsInTurn =
    (env remembered : LookUp) (entries : List Entry) →
    SameLoad (run Keep env remembered entries) (load_result env remembered entries)
    × SameLoad (run Replace env remembered entries) (override_result env remembered entries)

-- `load` keeps the value of each name that has one
abbrev pub LoadKeeps : Type 0
LoadKeeps =
    (env remembered : LookUp) (entries : List Entry) (name value : List ℕ) → env name ≡ Some value →
    (load_result env remembered entries).env name ≡ Some value

-- to `load` the same entries again changes nothing, and returns the same
abbrev pub LoadsTwice : Type 0
LoadsTwice =
    (env remembered : LookUp) (entries : List Entry) →
    SameLoad (load_result (load_result env remembered entries).env remembered entries)
    (load_result env remembered entries)

-- the name is declared before `load_override` stops: a load of the entries up to there has no error
abbrev pub IsOverridden : LookUp → LookUp → List Entry → List ℕ → Type 0
IsOverridden env remembered entries name =
    (before : List Entry) × (pieces : List Piece) × (after : List Entry)
    × (entries ≡ before ++ Declares name pieces ∷ after)
    × ((override_result env remembered (before ++ Declares name pieces ∷ [])).answer ≡ Ok tt)

-- `load_override` changes only names that are declared before it stops
abbrev pub OverridesDeclared : Type 0
OverridesDeclared =
    (env remembered : LookUp) (entries : List Entry) (name : List ℕ) →
    ((override_result env remembered entries).env name ≡ env name)
    ⊎ IsOverridden env remembered entries name

-- two environments have the same value for each name in these pieces
abbrev pub AgreeOn : LookUp → LookUp → List Piece → Type 0
AgreeOn env other [] = Unit {0}
AgreeOn env other (Text text ∷ pieces) = AgreeOn env other pieces
AgreeOn env other (Name name after ∷ pieces) = (env name ≡ other name) × AgreeOn env other pieces
AgreeOn env other (LastBackslash ∷ pieces) = AgreeOn env other pieces

-- two environments have the same value for each name in these entries
abbrev pub AgreeIn : LookUp → LookUp → List Entry → Type 0
AgreeIn env other [] = Unit {0}
AgreeIn env other (Declares key pieces ∷ entries) =
    AgreeOn env other pieces × AgreeIn env other entries
AgreeIn env other (Fails failure ∷ entries) = AgreeIn env other entries

-- environments that agree on every name in the entries give the same items
abbrev pub NamesDecideItems : Type 0
NamesDecideItems =
    (env other : LookUp) (entries : List Entry) → AgreeIn env other entries →
    items env entries ≡ items other entries
