-- What holds of every watch over the bytes of a file, and of all that is told of a line.
use Rattle.std.specs.Prelude.{ℕ, ◌≡◌, List, [], ◌++◌}
use Rattle.std.specs.Prelude.{IsTrue, true, false}
use Rattle.std.specs.List.{list_any}
use Rattle.std.specs.Str.{IsUtf8, chars}
use Rattle.dotenvy_findings.specs.Bytes.{Watch, fresh, is_between, watched, with_end}
use Rattle.dotenvy_format.specs.declared.dialect.Dialect.{Dialect}
use Rattle.dotenvy_findings.specs.declared.place.Place.{Place}
use Rattle.dotenvy_findings.specs.Kinds.{is_fault}
use Rattle.dotenvy_findings.specs.LineTexts.{closed_fault, line_marks, open_line_fault}
use Rattle.dotenvy_findings.specs.Places.{place_after}
use Rattle.dotenvy_findings.specs.Readings.{Known, Told}

-- to watch two parts one after the other is to watch both in one
abbrev pub PartsJoin : Type 0
PartsJoin =
    (watch : Watch) (first second : List ℕ) →
    watched watch (first ++ second) ≡ watched (watched watch first) second

-- in a file that is UTF-8 no byte is found
abbrev pub TextHasNone : Type 0
TextHasNone = (file : List ℕ) → IsUtf8 file → (with_end (watched fresh file)).found ≡ []

-- a file in which no byte is found is UTF-8
abbrev pub OthersHaveOne : Type 0
OthersHaveOne = (file : List ℕ) → (with_end (watched fresh file)).found ≡ [] → IsUtf8 file

-- where a character may begin, text moves the place over its characters, and no byte is found
abbrev pub TextMovesPlace : Type 0
TextMovesPlace =
    (watch : Watch) (text : List ℕ) → IsTrue (is_between watch.cursor) → IsUtf8 text →
    watched watch text ≡ record watch {
      cursor = record (watch.cursor) { place = place_after watch.cursor.place (chars text) };
    }

-- why a line is no declaration, where no part of it stays open, is an error
abbrev pub FaultsAreErrors : Type 0
FaultsAreErrors =
    (dialect : Dialect) (start : Place) (text : List ℕ) →
    is_fault (closed_fault dialect start text).kind ≡ true

-- why a line stays open at the end of a file is an error
abbrev pub OpenFaultsAreErrors : Type 0
OpenFaultsAreErrors =
    (start : Place) (text : List ℕ) → is_fault (open_line_fault start text).kind ≡ true

-- nothing that is told of a declaration is an error
abbrev pub MarksAreWarnings : Type 0
MarksAreWarnings =
    (known : Known) (key : List ℕ) (dialect : Dialect) (start : Place) (text : List ℕ) →
    list_any (λ (told : Told). is_fault told.kind) (line_marks known key dialect start text)
    ≡ false
