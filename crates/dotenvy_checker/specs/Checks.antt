-- What a check of a file writes and returns.
use Rattle.std.specs.Prelude.{ℕ, ◌≡◌, ◌+◌, ◌++◌, ◌<◌, ◌^◌, ◌⊎◌, ◌||◌, Bool, false, List, length, Option}
use Rattle.std.specs.Prelude.{Some, None, Result, Ok, Err}
use Rattle.std.specs.HashMap.{get_by_text}
use Rattle.std.specs.List.{list_any, AllByRecursion}
use Rattle.dotenvy_base.specs.Environment.{Texts}
use Rattle.dotenvy_base.specs.Errors.{IsIoOf}
use Rattle.dotenvy_base.specs.Source.{Ahead, SinkTold}
use Rattle.dotenvy_base.specs.declared.errors.Error.{Error}
use Rattle.dotenvy_findings.specs.Comments.{Allow}
use Rattle.dotenvy_findings.specs.declared.finding.Finding.{Finding}
use Rattle.dotenvy_findings.specs.Readings.{Known}
use Rattle.dotenvy_format.specs.declared.dialect.Dialect.{Dialect}
use Rattle.dotenvy_format.specs.Marks.{without_mark}
use Rattle.dotenvy_lines.specs.Input.{InputState, IsReadFault}
use Rattle.dotenvy_lines.specs.Lines.{LinesState, whole_lines}
use Rattle.dotenvy_lines.specs.Numbered.{FileLine, AreNumbered, HasNumbered, DecidesNumbered}
use Rattle.dotenvy_items.specs.Iter.{IterState}
use Rattle.dotenvy_items.specs.LoadStops.{unmarked}
use Rattle.std.specs.FinMap as fin
use Rattle.dotenvy_checker.specs.declared.check.Checked.{Checked}
use Rattle.dotenvy_checker.specs.declared.declared.Declared.{Declared as CodeDeclared}
use Rattle.dotenvy_checker.specs.declared.failure.Stop.{Stop}
use Rattle.dotenvy_checker.specs.declared.failure.Stop.TheVariants.{Read, Write, Memory}
use Rattle.dotenvy_checker.specs.declared.report.Found.{Found}
use Rattle.dotenvy_checker.specs.declared.report.Reporting.{Reporting}
use Rattle.dotenvy_findings.specs.declared.kind.Kind.{Kind}
use Rattle.dotenvy_checker.specs.Findings.{Declared, Remark, Row, Setting, SoFar, is_error}
use Rattle.dotenvy_checker.specs.Findings.{is_denied, is_unknown, is_warning, lines_of, nothing_yet}
use Rattle.dotenvy_checker.specs.Findings.{settled_all, shown, with_rows, AreRows, AreTold}
use Rattle.dotenvy_checker.specs.Parts.{SendsParts}
use Rattle.dotenvy_checker.specs.Report.{report}

-- the names that an environment has, by their bytes
abbrev pub names_in : Texts → Known
names_in texts name = fin.contains_key texts name

-- the names that the code keeps as declared, each with the first line that declares it
abbrev pub declared_of : {A : Type 0} → CodeDeclared A → Declared
declared_of declared name = get_by_text declared.lines name

-- the numbers of the lines that are complete in what is told fit 64 bits
abbrev pub FewLines : LinesState → Ahead → Type 0
FewLines s a = s.lines_taken + length (whole_lines (unmarked a)) < 2 ^ 64

-- what of a is read from s on, without a byte order mark: all of its lines, or those that are
-- decided before this fault
abbrev pub ReadsLines : {A : Type 0} → Dialect → LinesState → Ahead → Option (Error A) →
    List FileLine → Type 0
ReadsLines dialect s a None lines =
    (a.fault ≡ None) × HasNumbered dialect (s.lines_taken + 1) (without_mark a.bytes) lines
ReadsLines dialect s a (Some e) lines =
    (t : InputState)
    × IsIoOf (IsReadFault a s.input (λ bytes.
    DecidesNumbered dialect (s.lines_taken + 1) (without_mark bytes) lines) t) e

-- how the lines of a file are checked that is read in this dialect, where these names have a value
abbrev pub file_setting : Known → Dialect → Bool → Setting
file_setting names dialect tells_text = record {
  names = names;
  dialect = dialect;
  is_guess = false;
  tells_text = tells_text;
  above = 0;
}

-- this is found in what of a is read from s on, up to this fault or the end
abbrev pub HasFindings : {A : Type 0} → Setting → LinesState → Ahead → Option (Error A) → SoFar →
    Type 0
HasFindings setting s a fault all =
    (rows : List Row) × ReadsLines setting.dialect s a fault (lines_of rows)
    × AreRows setting.dialect rows × (all ≡ with_rows setting nothing_yet rows)

-- whether there are errors among these findings, and warnings, and warnings of kinds that are
-- denied
abbrev pub found_in : List Kind → List Finding → Found
found_in denied found = record {
  faults = list_any is_error found;
  warnings = list_any is_warning found;
  denied = list_any (is_denied denied) found;
}

-- the same of one finding
abbrev pub found_of : List Kind → Finding → Found
found_of denied finding = record {
  faults = is_error finding;
  warnings = is_warning finding;
  denied = is_denied denied finding;
}

-- what is found in two files together
abbrev pub both : Found → Found → Found
both one other = record {
  faults = one.faults || other.faults;
  warnings = one.warnings || other.warnings;
  denied = one.denied || other.denied;
}

-- the result of a check says what is told, and which names the file declares
pub record Tells {A : Type 0} (how : Reporting) (told : List Remark) (all : SoFar)
    (checked : Checked A) : Type 0 where
  pub found : checked.found ≡ found_in how.denied.now (shown told)
  pub declares : declared_of checked.declared ≡ all.declared

-- these are the first lines that are read of a, from s on
abbrev pub ReadsFirst : Dialect → LinesState → Ahead → List FileLine → Type 0
ReadsFirst dialect s a lines =
    (count : ℕ)
    × AreNumbered dialect (s.lines_taken + 1) (whole_lines (unmarked a)) count lines

-- a finding is no name without a value, which a later line could declare
abbrev pub IsKnown : Remark → Type 0
IsKnown remark = is_unknown remark.finding.kind ≡ false

-- these findings of rows stay as they are, whatever else is read of a from s on: none waits for a
-- later line, or the rows are all that is read
abbrev pub AreFinal : (A : Type 0) → Dialect → LinesState → Ahead → List Row → List Remark → Type 0
AreFinal A dialect s a rows front =
    (ReadsFirst dialect s a (lines_of rows) × AllByRecursion IsKnown front)
    ⊎ ((fault : Option (Error A)) × ReadsLines dialect s a fault (lines_of rows))

-- these are the first findings of what is read of a from s on
abbrev pub FindsFirst : (A : Type 0) → Setting → LinesState → Ahead → List Remark → Type 0
FindsFirst A setting s a front =
    (rows : List Row) × (later : List Remark) × AreRows setting.dialect rows
    × (settled_all (with_rows setting nothing_yet rows) ≡ front ++ later)
    × AreFinal A setting.dialect s a rows front

-- this is told of what is found, for which one list of comments decides what is allowed, and its
-- report is sent to a sink in parts, with this result
abbrev pub ReportsFound : {A W : Type 0} → (W → SinkTold) → Reporting → List ℕ → List Remark →
    List Remark → W → Result (Unit {0}) (Error A) → W → Type 0
ReportsFound told how file found remarks old answer new =
    (comments : List Allow) × AreTold how.allowed.now comments found remarks
    × SendsParts told old (report how.format how.is_first file remarks) answer new

-- the report of the first findings, without what is allowed, is sent to a sink in parts, with this
-- result
abbrev pub ReportsFirst : (A : Type 0) {W : Type 0} → (W → SinkTold) → Reporting → List ℕ →
    Setting → LinesState → Ahead → W → Result (Unit {0}) (Error A) → W → Type 0
ReportsFirst A told how file setting s a old answer new =
    (front remarks : List Remark) × FindsFirst A setting s a front
    × ReportsFound told how file front remarks old answer new

-- the report of what is found in what is read of a, without what is allowed, is sent to a sink in
-- parts while it is read. The result is what is told of all of it, and the names; or the fault of
-- reading, before which all is told; or that of writing, or a failed allocation, before which the
-- first findings are told
abbrev pub Reports : {A W : Type 0} → (W → SinkTold) → Reporting → List ℕ → Known → IterState →
    Ahead → W → Result (Checked A) (Stop A) → W → Type 0
Reports {A = A} told how file names s a old (Ok checked) new =
    (all : SoFar) × HasFindings {A = A} (file_setting names s.dialect how.text) s.lines a None all
    × ((remarks : List Remark) × Tells how remarks all checked
    × ReportsFound {A = A} told how file (settled_all all) remarks old (Ok tt) new)
Reports {A = A} told how file names s a old (Err (Read e)) new =
    (all : SoFar) × HasFindings (file_setting names s.dialect how.text) s.lines a (Some e) all
    × ((remarks : List Remark)
    × ReportsFound {A = A} told how file (settled_all all) remarks old (Ok tt) new)
Reports {A = A} told how file names s a old (Err (Write e)) new =
    ReportsFirst A told how file (file_setting names s.dialect how.text) s.lines a old (Err e) new
Reports {A = A} told how file names s a old (Err (Memory refused)) new =
    ReportsFirst A told how file (file_setting names s.dialect how.text) s.lines a old (Ok tt) new

-- the check stops because an allocation failed
abbrev pub IsMemoryStop : {A : Type 0} → Stop A → Type 0
IsMemoryStop (Read e) = ⊥
IsMemoryStop (Write e) = ⊥
IsMemoryStop (Memory refused) = Unit {0}
