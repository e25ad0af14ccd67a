-- Which words ask for help, or for the version.
-- The words are those of a command line with this description.
use Rattle.std.specs.Prelude.{◌≡◌, ◌≢◌, ◌||◌, Bool, false, List, [], ◌∷◌, codes}
use Rattle.std.specs.List.{before_first}
use Rattle.std.specs.Str.{bytes_eq}
use Rattle.clap.specs.Words.{App, IsAmong, Text, fault_of}
use Rattle.clap.specs.declared.error.kind.ErrorKind.{ErrorKind}
use Rattle.clap.specs.declared.error.kind.ErrorKind.TheVariants as kind

-- this word is a name of the option that asks for the text of this kind
abbrev pub names_text : ErrorKind → Text → Bool
names_text kind.DisplayHelp word = bytes_eq word (codes "-h") || bytes_eq word (codes "--help")
names_text kind.DisplayVersion word = bytes_eq word (codes "-V") || bytes_eq word (codes "--version")
names_text other word = false

-- the words before the first one that is such a name, or all words
abbrev pub before_text : ErrorKind → List Text → List Text
before_text kind words = before_first (names_text kind) words

-- words ask for the text of this kind: `clap` takes those before its name, and finds it in all
abbrev pub AskFor : App → List Text → ErrorKind → Type 0
AskFor line words kind =
    (fault_of line (before_text kind words) ≡ []) × IsAmong kind (fault_of line words)

-- words ask for the text of this kind, and for no other
abbrev pub AskForOnly : App → List Text → ErrorKind → Type 0
AskForOnly line words kind =
    (fault_of line (before_text kind words) ≡ []) × (fault_of line words ≡ kind ∷ [])

-- this kind of error is in words, and it is no text for which they ask by its name
abbrev pub IsUnasked : App → List Text → ErrorKind → Type 0
IsUnasked line words kind =
    (fault_of line (before_text kind words) ≢ []) × IsAmong kind (fault_of line words)
