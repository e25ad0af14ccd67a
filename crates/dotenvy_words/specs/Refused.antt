-- Which words are refused, which of them is the first, and what is told of it.
-- The words are those of a command line with this description.
use Rattle.std.specs.Prelude.{ℕ, ◌≡◌, ◌≢◌, ◌+◌, ◌⊎◌, Bool, true, false, List, [], Some, codes, slice_get, take}
use Rattle.std.specs.Str.{chars}
use Rattle.clap.specs.Words.{App, IsAmong, Kinds, Text, fault_of}
use Rattle.clap.specs.declared.error.kind.ErrorKind.{ErrorKind}
use Rattle.clap.specs.declared.error.kind.ErrorKind.TheVariants as kind
use Rattle.dotenvy_reports.specs.OneLine.{on_one_line}
use Rattle.dotenvy_words.specs.Asked.{IsUnasked}

-- an error of this kind is a mistake in the words
abbrev pub is_mistake : ErrorKind → Bool
is_mistake kind.DisplayHelp = false
is_mistake kind.DisplayVersion = false
is_mistake kind.OutOfMemory = false
is_mistake other = true

-- words are taken by `clap` exactly if they have none of these kinds of error
abbrev pub IsRefused : Kinds → Bool → Type 0
IsRefused kinds true = kinds ≢ []
IsRefused kinds false = kinds ≡ []

-- words are refused up to a place, also with the word there; or they aren't, with it or without it
abbrev pub StayRefused : App → List Text → ℕ → Bool → Type 0
StayRefused line words place true =
    (fault_of line (take place words) ≢ []) × (fault_of line (take (place + 1) words) ≢ [])
StayRefused line words place false =
    (fault_of line (take place words) ≡ []) ⊎ (fault_of line (take (place + 1) words) ≡ [])

-- the words before this one are taken by `clap`, and with it they are refused, also with the word
-- after it, which could be its value
pub record FirstRefused (line : App) (words : List Text) (word : Text) : Type 0 where
  pub place : ℕ
  pub there : slice_get words place ≡ Some word
  pub before : fault_of line (take place words) ≡ []
  pub refused : fault_of line (take (place + 1) words) ≢ []
  pub stays : fault_of line (take (place + 2) words) ≢ []

-- this is the first word that is refused, at this place
abbrev pub IsFirstRefused : App → List Text → ℕ → Text → Type 0
IsFirstRefused line words place word =
    (first : FirstRefused line words word) × (first.place ≡ place)

-- this kind of mistake is told of words of which these are the first ones: it is in these, or, where
-- they have a text and no mistake, it is an unknown option
abbrev pub IsKindTold : App → List Text → ErrorKind → Type 0
IsKindTold line front told =
    ((is_mistake told ≡ true) × IsAmong told (fault_of line front))
    ⊎ ((told ≡ kind.UnknownArgument)
    × ((other : ErrorKind) × (is_mistake other ≡ false) × IsAmong other (fault_of line front)))

-- a mistake is in these words
abbrev pub HasMistake : App → List Text → Type 0
HasMistake line words = (found : ErrorKind) × IsUnasked line words found

-- a mistake is in these words, this is the first word that is refused, as it is printed, and this
-- kind of mistake is told of the words up to it
abbrev pub IsMistakeOf : App → List Text → ErrorKind → Text → Type 0
IsMistakeOf line words kind shown =
    HasMistake line words
    × ((word : Text) × (first : FirstRefused line words word)
    × IsKindTold line (take (first.place + 1) words) kind
    × (shown ≡ on_one_line (chars word)))

-- what is said of a mistake, before the word that has it
abbrev pub mistake_text : ErrorKind → Text
mistake_text kind.TooManyValues = codes "unexpected value in"
mistake_text kind.InvalidValue = codes "no value after"
mistake_text other = codes "unknown option"
