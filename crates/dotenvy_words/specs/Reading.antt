-- What the code reads of words.
use Rattle.std.specs.Prelude.{◌≡◌, List, [], string_bytes}
use Rattle.clap.specs.Words.{App, Text, fault_of, found_of, matches_of, rows_of}
use Rattle.clap.specs.declared.error.kind.ErrorKind.TheVariants as kind
use Rattle.dotenvy_words.specs.declared.reading.Reading.{Reading}
use Rattle.dotenvy_words.specs.declared.reading.Reading.TheVariants as reading
use Rattle.dotenvy_words.specs.Asked.{AskFor}
use Rattle.dotenvy_words.specs.Refused.{IsMistakeOf}

-- this is read of these words: what is found in them, what they ask for in its place, or why they
-- are refused
abbrev pub IsReadingOf : {A : Type 0} → App → List Text → Reading A → Type 0
IsReadingOf line words (reading.Found found) =
    (fault_of line words ≡ []) × (rows_of (found_of found) ≡ matches_of line words)
IsReadingOf line words reading.Help = AskFor line words kind.DisplayHelp
IsReadingOf line words reading.Version = AskFor line words kind.DisplayVersion
IsReadingOf line words (reading.Mistake kind word) = IsMistakeOf line words kind (string_bytes word)
