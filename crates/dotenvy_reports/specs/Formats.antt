-- The forms of reports: their names, and what stands between two reports.
use Rattle.std.specs.Prelude.{ℕ, List, [], Option, Some, None, codes, bytes_eq, if◌then◌else◌}
use Rattle.dotenvy_reports.specs.declared.format.Format.{Format}
use Rattle.dotenvy_reports.specs.declared.format.Format.TheVariants.{Text, Github, Sarif, Json}

-- the form of reports that has this name
abbrev pub format_of : List ℕ → Option Format
format_of name =
    if bytes_eq name (codes "text") then Some Text else
    if bytes_eq name (codes "github") then Some Github else
    if bytes_eq name (codes "sarif") then Some Sarif else
    if bytes_eq name (codes "json") then Some Json else None

-- what stands between two reports: a comma between results of SARIF
abbrev pub separator : Format → List ℕ
separator Text = []
separator Github = []
separator Sarif = codes ","
separator Json = []
