-- How bad a finding is.
use Rattle.std.specs.Prelude.{ℕ, List, codes, not, ◌&&◌, if◌then◌else◌}
use Rattle.dotenvy_findings.specs.declared.finding.Finding.{Finding}
use Rattle.dotenvy_findings.specs.Kinds.{is_fault}
use Rattle.dotenvy_reports.specs.declared.severity.Severity.{Severity}
use Rattle.dotenvy_reports.specs.declared.severity.Severity.TheVariants.{Error, Warning}

-- a finding is an error if a load stops at its kind and it is no guess, else a warning
abbrev pub severity_of : Finding → Severity
severity_of finding = if is_fault finding.kind && not finding.is_guess then Error else Warning

-- the name in reports
abbrev pub severity_name : Severity → List ℕ
severity_name Error = codes "error"
severity_name Warning = codes "warning"
