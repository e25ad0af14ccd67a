-- A report as a command for a workflow of GitHub.
use Rattle.std.specs.Prelude.{ℕ, Bool, true, false, ◌&&◌, ◌==◌, List, [], ◌∷◌, ◌++◌}
use Rattle.std.specs.Prelude.{Option, Some, None, codes, decimal, encode_utf8, if◌then◌else◌}
use Rattle.std.specs.List.{flat_map}
use Rattle.std.specs.Str.{chars}
use Rattle.dotenvy_format.specs.Characters.{line_feed}
use Rattle.dotenvy_findings.specs.declared.place.Place.{Place}
use Rattle.dotenvy_reports.specs.OneLine.{on_one_line}
use Rattle.dotenvy_reports.specs.Severities.{severity_name}
use Rattle.dotenvy_reports.specs.Told.{Told, message_text}

-- the bytes of a character in a command: the percent sign, a carriage return and a line feed are
-- escaped, and in a property the colon and the comma
abbrev pub command_character : Bool → ℕ → List ℕ
command_character is_property c =
    if c == 37 then codes "%25" else
    if c == 13 then codes "%0D" else
    if c == 10 then codes "%0A" else
    if is_property && c == 58 then codes "%3A" else
    if is_property && c == 44 then codes "%2C" else encode_utf8 c

-- the bytes of a text in a command, or in a property of it
abbrev pub command_text : Bool → List ℕ → List ℕ
command_text is_property text = flat_map (command_character is_property) (chars text)

-- the properties that say where it is in the file
abbrev pub place_properties : Option Place → List ℕ
place_properties None = []
place_properties (Some place) =
    codes ",line=" ++ (decimal place.line ++ (codes ",col=" ++ decimal place.column))

-- the property that names the kind
abbrev pub title_property : Option (List ℕ) → List ℕ
title_property None = []
title_property (Some kind) = codes ",title=" ++ command_text true kind

-- the command, as far as its message
abbrev pub command_front : Told → List ℕ
command_front told =
    codes "::" ++ (severity_name told.severity ++ (codes " file="
    ++ (command_text true (on_one_line (chars told.file))
    ++ (place_properties told.place ++ title_property told.kind))))

-- the line for a workflow of GitHub
abbrev pub github_line : Told → List ℕ
github_line told =
    command_front told ++ (codes "::" ++ (command_text false (message_text told) ++ line_feed ∷ []))
