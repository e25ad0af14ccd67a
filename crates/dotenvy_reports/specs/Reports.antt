-- What is reported, in each form.
use Rattle.std.specs.Prelude.{ℕ, List, ◌++◌, Option, Some, None, codes, false}
use Rattle.std.specs.Option.{option_map}
use Rattle.std.specs.Str.{chars}
use Rattle.dotenvy_findings.specs.declared.finding.Finding.{Finding}
use Rattle.dotenvy_findings.specs.Kinds.{kind_name, message}
use Rattle.dotenvy_reports.specs.declared.format.Format.{Format}
use Rattle.dotenvy_reports.specs.declared.format.Format.TheVariants.{Text, Github, Sarif, Json}
use Rattle.dotenvy_reports.specs.declared.reports.Missing.{Missing}
use Rattle.dotenvy_reports.specs.declared.reports.Said.{Said}
use Rattle.dotenvy_reports.specs.declared.severity.Severity.{Severity}
use Rattle.dotenvy_reports.specs.declared.severity.Severity.TheVariants.{Error}
use Rattle.dotenvy_reports.specs.Github.{github_line}
use Rattle.dotenvy_reports.specs.JsonLines.{json_line}
use Rattle.dotenvy_reports.specs.OneLine.{on_one_line}
use Rattle.dotenvy_reports.specs.Sarif.{sarif_result}
use Rattle.dotenvy_reports.specs.Severities.{severity_of}
use Rattle.dotenvy_reports.specs.Texts.{text_line}
use Rattle.dotenvy_reports.specs.Told.{Told}

-- a report in this form
abbrev pub report_text : Format → Told → List ℕ
report_text Text told = text_line told
report_text Github told = github_line told
report_text Sarif told = sarif_result told
report_text Json told = json_line told

-- what is told of a finding in the file with this name
abbrev pub told_finding : List ℕ → Finding → Told
told_finding file finding = record {
  file = file;
  place = Some finding.place;
  severity = severity_of finding;
  kind = Some (kind_name finding.kind);
  message = message finding.kind;
  other = finding.other;
  is_guess = finding.is_guess;
}

-- what is told of a file, with no place in it
abbrev pub told_of_file : List ℕ → Severity → Option (List ℕ) → List ℕ → Told
told_of_file file severity kind message = record {
  file = file;
  place = None;
  severity = severity;
  kind = kind;
  message = message;
  other = 0;
  is_guess = false;
}

-- what the code says of the file with this name
abbrev pub told_said : List ℕ → Said → Told
told_said file said =
    told_of_file file said.severity (option_map (λ kind. kind.now) said.kind) said.message.now

-- what is told of a file that could not be read, for this reason
abbrev pub told_unread : List ℕ → List ℕ → Told
told_unread file reason = told_of_file file Error None (on_one_line (chars reason))

-- what is said of a name
abbrev pub name_message : List ℕ → List ℕ → List ℕ
name_message message name =
    on_one_line (chars message) ++ (codes ": " ++ on_one_line (chars name))

-- what is told of a name that is missing in the file with this name
abbrev pub told_missing : List ℕ → Missing → Told
told_missing file missing =
    told_of_file file missing.severity (Some (on_one_line (chars missing.kind.now)))
    (name_message missing.message.now missing.name.now)
