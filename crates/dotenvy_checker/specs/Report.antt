-- What is printed of findings. The text is bytes.
use Rattle.std.specs.Prelude.{ℕ, ◌==◌, Bool, false, List, [], ◌∷◌, ◌++◌, codes, length, map}
use Rattle.std.specs.Prelude.{if◌then◌else◌}
use Rattle.dotenvy_findings.specs.declared.finding.Finding.{Finding}
use Rattle.dotenvy_reports.specs.declared.format.Format.{Format}
use Rattle.dotenvy_reports.specs.declared.format.Format.TheVariants.{Text, Github, Sarif, Json}
use Rattle.dotenvy_reports.specs.Formats.{separator}
use Rattle.dotenvy_reports.specs.Reports.{report_text, told_finding}
use Rattle.dotenvy_checker.specs.Findings.{Remark}

-- what is printed of a finding in the file with this name, in this format
abbrev pub finding_text : Format → List ℕ → Finding → List ℕ
finding_text format file finding = report_text format (told_finding file finding)

-- what a load says of a line, as a line of its own, if that is told
abbrev pub said_line : List ℕ → List ℕ
said_line said =
    if length said == 0 then [] else codes "    " ++ (said ++ codes "\n")

-- what is printed in this format of what a load says of a line, if that is told
abbrev pub said_text : Format → List ℕ → List ℕ
said_text Text said = said_line said
said_text Github said = []
said_text Sarif said = []
said_text Json said = []

-- what is printed of what is told of the file with this name, in this format
abbrev pub remark_text : Format → List ℕ → Remark → List ℕ
remark_text format file remark =
    finding_text format file remark.finding ++ said_text format remark.said

-- texts, each behind what separates two of them in this format; but the first one, if it is first
abbrev pub separated : Format → Bool → List (List ℕ) → List ℕ
separated format is_first [] = []
separated format is_first (text ∷ texts) =
    (if is_first then [] else separator format) ++ (text ++ separated format false texts)

-- all that is printed of what is told of this file, in this format
abbrev pub report : Format → Bool → List ℕ → List Remark → List ℕ
report format is_first file told = separated format is_first (map (remark_text format file) told)
