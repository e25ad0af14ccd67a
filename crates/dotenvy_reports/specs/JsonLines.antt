-- A report as a line of JSON: the tokens of its object.
use Rattle.std.specs.Prelude.{ℕ, Bool, true, ◌==◌, List, [], ◌∷◌, ◌++◌, Option, Some, None}
use Rattle.std.specs.Prelude.{codes, decimal, if◌then◌else◌}
use Rattle.std.specs.Str.{chars}
use Rattle.json.specs.Print.{print}
use Rattle.json.specs.Token.{Token, begin_object, end_object, key, string, number, boolean}
use Rattle.dotenvy_format.specs.Characters.{line_feed}
use Rattle.dotenvy_findings.specs.declared.place.Place.{Place}
use Rattle.dotenvy_reports.specs.OneLine.{on_one_line}
use Rattle.dotenvy_reports.specs.Severities.{severity_name}
use Rattle.dotenvy_reports.specs.Told.{Told}

-- a member that is a text
abbrev pub text_member : List ℕ → List ℕ → List Token
text_member name text = key name ∷ string text ∷ []

-- a member that is a number
abbrev pub number_member : List ℕ → ℕ → List Token
number_member name n = key name ∷ number (decimal n) ∷ []

-- the members that say where it is in the file
abbrev pub place_members : Option Place → List Token
place_members None = []
place_members (Some place) =
    number_member (codes "line") place.line ++ number_member (codes "column") place.column

-- the member that names the kind
abbrev pub kind_member : Option (List ℕ) → List Token
kind_member None = []
kind_member (Some kind) = text_member (codes "kind") kind

-- the member that is the line of the other declaration, if there is one
abbrev pub other_member : ℕ → List Token
other_member other = if other == 0 then [] else number_member (codes "other") other

-- the member that says that it is a guess, if it is one
abbrev pub guess_member : Bool → List Token
guess_member is_guess = if is_guess then key (codes "guess") ∷ boolean true ∷ [] else []

-- the members before the kind
abbrev pub front_members : Told → List Token
front_members told =
    text_member (codes "file") (on_one_line (chars told.file))
    ++ (place_members told.place
    ++ text_member (codes "severity") (severity_name told.severity))

-- the members from the kind on
abbrev pub said_members : Told → List Token
said_members told =
    kind_member told.kind
    ++ (text_member (codes "message") told.message
    ++ (other_member told.other ++ guess_member told.is_guess))

-- the tokens of the object
abbrev pub json_tokens : Told → List Token
json_tokens told =
    begin_object ∷ (front_members told ++ (said_members told ++ end_object ∷ []))

-- the line of JSON
abbrev pub json_line : Told → List ℕ
json_line told = print (json_tokens told) ++ line_feed ∷ []
