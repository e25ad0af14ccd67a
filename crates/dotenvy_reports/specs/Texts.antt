-- A report as a line for a reader.
use Rattle.std.specs.Prelude.{ℕ, List, [], ◌∷◌, ◌++◌, Option, Some, None, codes, decimal}
use Rattle.std.specs.Str.{chars}
use Rattle.dotenvy_format.specs.Characters.{line_feed}
use Rattle.dotenvy_findings.specs.declared.place.Place.{Place}
use Rattle.dotenvy_reports.specs.OneLine.{on_one_line}
use Rattle.dotenvy_reports.specs.Severities.{severity_name}
use Rattle.dotenvy_reports.specs.Told.{Told, message_text}

-- a place as it stands behind the file
abbrev pub place_text : Option Place → List ℕ
place_text None = []
place_text (Some place) = codes ":" ++ (decimal place.line ++ (codes ":" ++ decimal place.column))

-- a kind as it stands at the end of a line
abbrev pub kind_text : Option (List ℕ) → List ℕ
kind_text None = []
kind_text (Some kind) = codes " [" ++ (kind ++ codes "]")

-- where it is, and how bad it is
abbrev pub front_text : Told → List ℕ
front_text told =
    on_one_line (chars told.file)
    ++ (place_text told.place ++ (codes ": " ++ (severity_name told.severity ++ codes ": ")))

-- the line for a reader
abbrev pub text_line : Told → List ℕ
text_line told =
    front_text told ++ (message_text told ++ (kind_text told.kind ++ line_feed ∷ []))
