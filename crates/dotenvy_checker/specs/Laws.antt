-- The laws of checks: the lines of a file are there once, no error is found exactly where a load
-- meets no fault, and what is found is decided by the bytes.
use Rattle.std.specs.Prelude.{ℕ, ◌≡◌, false, true, All, List, [], Result, Ok, Err}
use Rattle.std.specs.List.{list_any}
use Rattle.clap.specs.Words.{Text}
use Rattle.dotenvy_base.specs.Environment.{Texts}
use Rattle.dotenvy_base.specs.Errors.{IsMemoryErr}
use Rattle.dotenvy_base.specs.Source.{Ahead, SinkTold}
use Rattle.dotenvy_base.specs.declared.errors.Error.{Error}
use Rattle.dotenvy_format.specs.declared.dialect.Dialect.{Dialect}
use Rattle.dotenvy_format.specs.Entries.{Failure, HasEntries, LineParse, Io, Nul, Memory}
use Rattle.dotenvy_format.specs.Items.{LookUp}
use Rattle.dotenvy_format.specs.Loads.{load_result, override_result}
use Rattle.dotenvy_findings.specs.declared.finding.Finding.{Finding}
use Rattle.dotenvy_findings.specs.Readings.{Known}
use Rattle.dotenvy_items.specs.Iter.{IterState}
use Rattle.dotenvy_items.specs.Iteration.{CanRead}
use Rattle.dotenvy_items.specs.LoadsRest.{IsAnswer, LoadsRest, Rule}
use Rattle.dotenvy_lines.specs.Numbered.{FileLine, entries_of, HasNumbered, DecidesNumbered}
use Rattle.env_layers.specs.declared.missing.Missing.{Missing}
use Rattle.env_layers.specs.Missing.{absent_names, AnswersRequire}
use Rattle.dotenvy_checker.specs.declared.check.Checked.{Checked}
use Rattle.dotenvy_checker.specs.declared.report.Reporting.{Reporting}
use Rattle.dotenvy_checker.specs.Checks.{names_in, Reports}
use Rattle.dotenvy_checker.specs.Findings.{AreRows, Remark, Row, Setting, findings, is_error}
use Rattle.dotenvy_checker.specs.Findings.{lines_of, nothing_yet, with_rows}
use Rattle.dotenvy_checker.specs.Folders.{is_among}
use Rattle.dotenvy_checker.specs.Schema.{found_between}

-- bytes whose first physical line has this number have one list of lines, and only one, and the
-- entries of these lines are the entries of the bytes
abbrev pub HasOneNumbering : Type 0
HasOneNumbering =
    (dialect : Dialect) (number : ℕ) (bytes : List ℕ) →
    (lines : List FileLine) × HasNumbered dialect number bytes lines
    × HasEntries dialect bytes (entries_of lines)
    × ((others : List FileLine) → HasNumbered dialect number bytes others → others ≡ lines)

-- such bytes decide one list of lines, and only one
abbrev pub HasOneNumberedDecision : Type 0
HasOneNumberedDecision =
    (dialect : Dialect) (number : ℕ) (bytes : List ℕ) →
    (lines : List FileLine) × DecidesNumbered dialect number bytes lines
    × ((others : List FileLine) → DecidesNumbered dialect number bytes others → others ≡ lines)

-- a load returned Ok, or stopped at a value with a NUL
abbrev pub IsOkOrNul : Result (Unit {0}) Failure → Type 0
IsOkOrNul (Ok done) = Unit {0}
IsOkOrNul (Err (LineParse text index)) = ⊥
IsOkOrNul (Err (Io kind)) = ⊥
IsOkOrNul (Err (Nul key)) = Unit {0}
IsOkOrNul (Err Memory) = ⊥

-- no error is among the findings of these lines and of the guesses behind them
abbrev pub HasNoError : Setting → List Row → Type 0
HasNoError setting rows = list_any is_error (findings setting rows) ≡ false

-- into every environment, and whatever is remembered, a load of the entries of these lines by this
-- rule returns Ok only if no error is found; and if none is found, it returns Ok, or stops at a NUL
abbrev pub LoadsIfNoError : Rule → Setting → List Row → Type 0
LoadsIfNoError rule setting rows =
    (env remembered : LookUp) →
    ((rule env remembered (entries_of (lines_of rows))).answer ≡ Ok tt → HasNoError setting rows)
    × (HasNoError setting rows →
    IsOkOrNul (rule env remembered (entries_of (lines_of rows))).answer)

-- where no value has a NUL, no error is found in a file exactly where both loads of it return Ok,
-- whatever the environment, and whatever the guesses are
abbrev pub FaultsStopLoads : Type 0
FaultsStopLoads =
    (setting : Setting) (number : ℕ) (bytes : List ℕ) (rows : List Row) →
    setting.is_guess ≡ false → HasNumbered setting.dialect number bytes (lines_of rows) →
    LoadsIfNoError load_result setting rows × LoadsIfNoError override_result setting rows

-- the result of a load says that it returned Ok, or that it stopped at a value with a NUL
abbrev pub SaysOkOrNul : {A : Type 0} → Result (Unit {0}) (Error A) → Type 0
SaysOkOrNul answer = (said : Result (Unit {0}) Failure) × IsOkOrNul said × IsAnswer said answer

-- a check of what a source tells told this; and a load of the same by this rule, in the same
-- dialect and into any environment, that was not refused memory, returned this
pub record CheckedAndLoaded {A W : Type 0} (rule : Rule) (sink : W → SinkTold) (a : Ahead)
    (outcome : Checked A) (answer : Result (Unit {0}) (Error A)) : Type 0 where
  pub checked : IterState
  pub how : Reporting
  pub file : List ℕ
  pub names : Known
  pub before : W
  pub after : W
  pub reports : Reports {A = A} sink how file names checked a before (Ok outcome) after
  pub loaded : IterState
  pub can_read : CanRead loaded a
  pub dialect : loaded.dialect ≡ checked.dialect
  pub old : Texts
  pub new : Texts
  pub loads : LoadsRest rule loaded old answer new
  pub not_refused : ¬ (IsMemoryErr answer)

-- a file in which a check found no fault loads: the result is Ok, or the fault of a NUL; and it is
-- Ok only if the check found no fault
abbrev pub LoadsChecked : Rule → Type 0 → Type 0 → Type 0
LoadsChecked rule A W =
    (sink : W → SinkTold) (a : Ahead) (outcome : Checked A)
    (answer : Result (Unit {0}) (Error A)) →
    CheckedAndLoaded rule sink a outcome answer →
    (outcome.found.faults ≡ false → SaysOkOrNul answer)
    × (answer ≡ Ok tt → outcome.found.faults ≡ false)

-- both loads take what a check found no fault in
abbrev pub CheckedFilesLoad : Type 0 → Type 0 → Type 0
CheckedFilesLoad A W = LoadsChecked load_result A W × LoadsChecked override_result A W

-- nothing of a text is told of these remarks
abbrev pub TellNoText : List Remark → Type 0
TellNoText remarks = All (λ remark. remark.said ≡ []) remarks

-- where the text of a line is not told, nothing of a text is told of lines and their guesses
abbrev pub TextIfTold : Type 0
TextIfTold =
    (setting : Setting) (rows : List Row) → setting.tells_text ≡ false →
    TellNoText (with_rows setting nothing_yet rows).remarks

-- these are the findings of bytes whose first physical line has this number
abbrev pub AreFindings : Setting → ℕ → List ℕ → List Finding → Type 0
AreFindings setting number bytes found =
    (rows : List Row) × HasNumbered setting.dialect number bytes (lines_of rows)
    × AreRows setting.dialect rows × (found ≡ findings setting rows)

-- bytes whose first physical line has this number have one list of findings, and only one
abbrev pub FindingsOnce : Type 0
FindingsOnce =
    (setting : Setting) (number : ℕ) (bytes : List ℕ) →
    (found : List Finding) × AreFindings setting number bytes found
    × ((others : List Finding) → AreFindings setting number bytes others → others ≡ found)

-- where a comparison with a schema finds no fault, and an environment has each name of the files, the
-- names of the schema can be required
abbrev pub SchemaIsMet : Type 0 → Type 0
SchemaIsMet A =
    (schema files : List Text) (env : Texts) (answer : Result (Unit {0}) (Missing A)) →
    (found_between schema files).faults ≡ false →
    ((name : Text) → is_among files name ≡ true → names_in env name ≡ true) →
    AnswersRequire (absent_names env schema) answer → answer ≡ Ok tt
