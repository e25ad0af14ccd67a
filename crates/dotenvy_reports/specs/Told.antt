-- What a report tells, whatever its form.
use Rattle.std.specs.Prelude.{ℕ, Bool, List, [], ◌++◌, Option, codes, decimal, ◌==◌, if◌then◌else◌}
use Rattle.std.specs.Option.{option_map}
use Rattle.dotenvy_findings.specs.declared.place.Place.{Place}
use Rattle.dotenvy_reports.specs.declared.report.Report.{Report}
use Rattle.dotenvy_reports.specs.declared.severity.Severity.{Severity}

-- what is told: the file's name, the place if there is one, how bad it is, the name of the kind if
-- it has one, the message on one line, the line of the other declaration or 0, and whether it is a
-- guess. The texts are bytes
pub record Told : Type 0 where
  pub file : List ℕ
  pub place : Option Place
  pub severity : Severity
  pub kind : Option (List ℕ)
  pub message : List ℕ
  pub other : ℕ
  pub is_guess : Bool

-- what the code's report tells
abbrev pub told_of : Report → Told
told_of report = record {
  file = report.file.now;
  place = report.place;
  severity = report.severity;
  kind = option_map (λ kind. kind.now) report.kind;
  message = report.message.now;
  other = report.other;
  is_guess = report.is_guess;
}

-- what is said of a guess
abbrev pub guess_text : Bool → List ℕ
guess_text is_guess = if is_guess then codes " (after the open quote)" else []

-- what is said of the line of the other declaration, if there is one
abbrev pub other_text : ℕ → List ℕ
other_text other = if other == 0 then [] else codes " (line " ++ (decimal other ++ codes ")")

-- the message, with what stands behind it
abbrev pub message_text : Told → List ℕ
message_text told = told.message ++ (guess_text told.is_guess ++ other_text told.other)
