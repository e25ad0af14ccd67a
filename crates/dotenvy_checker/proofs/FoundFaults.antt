-- Errors that are found, and loads that meet faults.
use Rattle.std.proofs.Common.{◌≡◌, ℕ, ◌+◌, Bool, true, false, ◌&&◌, ◌||◌, List, [], ◌∷◌, inl, inr, refl, sym, ◌∙◌, Ok, map}
use Rattle.std.specs.Prelude.{drop, Option, Some, None}
use Rattle.std.specs.List.{list_any}
use Rattle.std.proofs.Math.Bool.{and-false, or-false, or_assoc}
use Rattle.std.proofs.lemmas.Bool.{cases_Bool}
use Rattle.std.proofs.lemmas.List.Folds.{list_any-append}
use Rattle.dotenvy_format.specs.declared.dialect.Dialect.{Dialect}
use Rattle.dotenvy_format.specs.Entries.{Entry, Declares, Fails, Gives, outcome_entries}
use Rattle.dotenvy_format.specs.Items.{LookUp, meaning, or_else, with_value}
use Rattle.dotenvy_format.specs.LogicalLine.{Logical, Skip, HasText, StaysOpen, Broken}
use Rattle.dotenvy_format.specs.Loads.{load_result, override_result}
use Rattle.dotenvy_format.specs.Outcome.{Outcome, Nothing, Pair, Fault, trimmed}
use Rattle.dotenvy_format.specs.Run.{Mode, Keep, Replace, Loaded, run, sets, has_nul, after_declaration}
use Rattle.dotenvy_format.proofs.lines.NextLine.{Lines}
use Rattle.dotenvy_format.proofs.loads.LoadLaws.{run-keep, run-replace}
use Rattle.dotenvy_findings.specs.declared.finding.Finding.{Finding}
use Rattle.dotenvy_findings.specs.declared.kind.Kind.{Kind}
use Rattle.dotenvy_findings.specs.declared.kind.Kind.TheVariants as kind
use Rattle.dotenvy_findings.specs.declared.place.Place.{Place}
use Rattle.dotenvy_findings.specs.Kinds.{is_fault}
use Rattle.dotenvy_findings.specs.LineTexts.{line_marks}
use Rattle.dotenvy_findings.specs.Readings.{Told}
use Rattle.dotenvy_findings.proofs.FaultKinds.{closed_fault_is_fault, open_fault_is_fault}
use Rattle.dotenvy_findings.proofs.MarkKinds.{marks_are_warnings}
use Rattle.dotenvy_lines.specs.Numbered.{FileLine, entries_of, AreNumbered}
use Rattle.dotenvy_checker.specs.Findings.{Declared, Remark, Row, Setting, SoFar, begins_at, declaration_remarks}
use Rattle.dotenvy_checker.specs.Findings.{findings, first_place, guessing, has_value, is_error, is_unknown, last_of}
use Rattle.dotenvy_checker.specs.Findings.{lines_of, logical_remarks, nothing_yet, resolved, text_remarks, told_remark}
use Rattle.dotenvy_checker.specs.Findings.{twice, under, with_later, with_line, with_lines, with_row, with_rows}
use Rattle.dotenvy_checker.specs.Laws.{IsOkOrNul, LoadsIfNoError, FaultsStopLoads}

-- an entry is a fault
abbrev is_failure : Entry → Bool
is_failure (Declares key pieces) = false
is_failure (Fails failure) = true

-- a remark is an error
abbrev remarks_error : Remark → Bool
remarks_error remark = is_error remark.finding

-- a name that has no value is no fault
unknown_warns : (k : Kind) → is_unknown k ≡ true → is_fault k ≡ false
unknown_warns kind.UnknownName h = refl
unknown_warns kind.UnknownBracedName h = refl
unknown_warns k h = cc

-- a name that has no value is no error, wherever it is declared later
later_warns : (line : Option ℕ) (finding : Finding) → is_fault finding.kind ≡ false →
    is_error (with_later line finding) ≡ is_error finding
later_warns None finding h = refl
later_warns (Some line) finding h = rw h refl

-- what is found is an error exactly where the remark is one
resolved_error : (declared : Declared) (remark : Remark) → is_error (resolved declared remark) ≡ remarks_error remark
resolved_error declared remark =
    elim (cases_Bool (is_unknown remark.finding.kind)) [
      | inl h ↦
          rw h
          (later_warns (declared remark.name) remark.finding (unknown_warns remark.finding.kind h))
      | inr h ↦ rw h refl
    ]

-- an error is found exactly where one is remarked
found_errors : (declared : Declared) (remarks : List Remark) →
    list_any is_error (map (resolved declared) remarks) ≡ list_any remarks_error remarks
found_errors declared [] = refl
found_errors declared (remark ∷ remarks) = rw (resolved_error declared remark, found_errors declared remarks) refl

-- what is told of a declaration is an error exactly where its kind is a fault, and it is no guess
told_errors : (setting : Setting) (marks : List Told) →
    list_any (λ (told : Told). is_fault told.kind) marks ≡ false →
    list_any remarks_error (map (told_remark setting) marks) ≡ false
told_errors setting [] h = refl
told_errors setting (mark ∷ marks) h =
    elim (cases_Bool (is_fault mark.kind)) [
      | inl is ↦ absurd (let e = rw is at h in cc)
      | inr is ↦ rw is (told_errors setting marks (rw is at h))
    ]

-- a second declaration is no error
twice_warns : (setting : Setting) (place : Place) (first : Option ℕ) →
    list_any remarks_error (twice setting place first) ≡ false
twice_warns setting place None = refl
twice_warns setting place (Some first) = refl

-- no error is found in a declaration
declaration_warns : (setting : Setting) (declared : Declared) (number : ℕ) (text key : List ℕ) →
    list_any remarks_error (declaration_remarks setting declared number text key) ≡ false
declaration_warns setting declared number text key =
    let known = has_value setting.names declared in
    let marks = line_marks known key setting.dialect (begins_at number) text in
    rw (
      list_any-append remarks_error (twice setting (first_place number text) (declared key))
          (map (told_remark setting) marks),
      twice_warns setting (first_place number text) (declared key),
    )
    (told_errors setting marks (marks_are_warnings known key setting.dialect (begins_at number) text))

-- no error is found in the text of a guess
guessed_text_warns : (setting : Setting) (declared : Declared) (number : ℕ) (text : List ℕ) (entries : List Entry) →
    list_any remarks_error (text_remarks (guessing setting) declared number text entries) ≡ false
guessed_text_warns setting declared number text [] = refl
guessed_text_warns setting declared number text (Declares key pieces ∷ entries) =
    declaration_warns (guessing setting) declared number (trimmed text) _
guessed_text_warns setting declared number text (Fails failure ∷ entries) = rw (and-false, or-false) refl

-- no error is found in a guess
guessed_warns : (setting : Setting) (declared : Declared) (number last : ℕ) (logical : Logical) (entries : List Entry) →
    list_any remarks_error (logical_remarks (guessing setting) declared number last logical entries) ≡ false
guessed_warns setting declared number last Skip entries = refl
guessed_warns setting declared number last (HasText text) entries =
    guessed_text_warns setting declared number text entries
guessed_warns setting declared number last (StaysOpen text index) entries = rw (and-false, or-false) refl
guessed_warns setting declared number last Broken entries = refl

-- with guesses no error more is found
guesses_warn : (setting : Setting) (so_far : SoFar) (guesses : List FileLine) →
    list_any remarks_error (with_lines (guessing setting) so_far guesses).remarks
    ≡ list_any remarks_error so_far.remarks
guesses_warn setting so_far [] = refl
guesses_warn setting so_far (line ∷ lines) =
    guesses_warn setting (with_line (guessing setting) so_far line) lines
    ∙ list_any-append remarks_error so_far.remarks _
    ∙ rw (guessed_warns (under so_far setting) so_far.declared line.number (last_of line) line.logical line.entries)
    (or-false (list_any remarks_error so_far.remarks))

-- an error is found in a text exactly where it is no statement
text_errors : (setting : Setting) → setting.is_guess ≡ false → (declared : Declared) (number : ℕ) (text : List ℕ)
    (outcome : Outcome) →
    list_any remarks_error (text_remarks setting declared number text (outcome_entries outcome))
    ≡ list_any is_failure (outcome_entries outcome)
text_errors setting e declared number text Nothing = refl
text_errors setting e declared number text (Pair key pieces) =
    declaration_warns setting declared number (trimmed text) _
text_errors setting e declared number text (Fault failed index) =
    rw (closed_fault_is_fault setting.dialect (begins_at number) (trimmed text), e) refl

-- an error is found in a line exactly where one of its entries is a fault
line_errors : (setting : Setting) → setting.is_guess ≡ false → (dialect : Dialect) (declared : Declared)
    (number last : ℕ) (logical : Logical) (entries : List Entry) → Gives dialect logical entries →
    list_any remarks_error (logical_remarks setting declared number last logical entries)
    ≡ list_any is_failure entries
line_errors setting e dialect declared number last Skip entries gives = rw gives refl
line_errors setting e dialect declared number last (HasText text) entries (outcome, says, is) =
    rw is (text_errors setting e declared number text outcome)
line_errors setting e dialect declared number last (StaysOpen text index) entries gives =
    rw (gives, open_fault_is_fault (begins_at number) text, e) refl
line_errors setting e dialect declared number last Broken entries gives = rw (gives, e) refl

-- with lines and their guesses more errors are found exactly where one of their entries is a fault
rows_errors : (setting : Setting) → setting.is_guess ≡ false → (dialect : Dialect) (number count : ℕ)
    (physical : Lines) (so_far : SoFar) (rows : List Row) →
    AreNumbered dialect number physical count (lines_of rows) →
    list_any remarks_error (with_rows setting so_far rows).remarks
    ≡ (list_any remarks_error so_far.remarks || list_any is_failure (entries_of (lines_of rows)))
rows_errors setting e dialect number count physical so_far [] are =
    sym (or-false (list_any remarks_error so_far.remarks))
rows_errors setting e dialect number count physical so_far (row ∷ rows) (some, later, own, is, gives, are, sum) =
    let line = row.line in
    let before = list_any remarks_error so_far.remarks in
    let own_fails = list_any is_failure line.entries in
    let fail = list_any is_failure (entries_of (lines_of rows)) in
    let here = under so_far setting in
    let remarks = logical_remarks here so_far.declared line.number (last_of line) line.logical line.entries in
    let with_own : list_any remarks_error (with_line setting so_far line).remarks ≡ (before || own_fails) =
    list_any-append remarks_error so_far.remarks remarks
    ∙ rw (line_errors here e dialect so_far.declared line.number (last_of line) line.logical line.entries gives) refl
    in
    let rest =
    rows_errors setting e dialect (number + line.count) later (drop line.count physical) (with_row setting so_far row)
    rows are in
    rest
    ∙ rw (
      guesses_warn setting (with_line setting so_far row.line) row.guesses,
      with_own,
      list_any-append is_failure line.entries (entries_of (lines_of rows)),
    )
    (or_assoc before own_fails fail)

-- an error is among the findings of lines exactly where one of their entries is a fault
findings_errors : (setting : Setting) → setting.is_guess ≡ false → (dialect : Dialect) (number count : ℕ)
    (physical : Lines) (rows : List Row) → AreNumbered dialect number physical count (lines_of rows) →
    list_any is_error (findings setting rows) ≡ list_any is_failure (entries_of (lines_of rows))
findings_errors setting e dialect number count physical rows are =
    let all = with_rows setting nothing_yet rows in
    found_errors all.declared all.remarks ∙ rows_errors setting e dialect number count physical nothing_yet rows are

-- a load that returned Ok met no fault, and one of entries without a fault returns Ok, or stops at a NUL
faults_met : (mode : Mode) (env remembered : LookUp) (entries : List Entry) →
    ((run mode env remembered entries).answer ≡ Ok tt → list_any is_failure entries ≡ false)
    × (list_any is_failure entries ≡ false → IsOkOrNul (run mode env remembered entries).answer)
faults_met mode env remembered [] = (λ h. refl, λ h. tt)
faults_met mode env remembered (Fails failure ∷ entries) = (λ h. cc, λ h. cc)
faults_met mode env remembered (Declares key pieces ∷ entries) =
    let value = meaning (or_else env remembered) pieces in
    elim (cases_Bool (sets mode env key && has_nul value)) [
      | inl stops ↦ rw stops (λ h. cc, λ h. tt)
      | inr on ↦
          rw on (faults_met mode (after_declaration mode env key value) (with_value remembered key value) entries)
    ]

-- where a mode and a rule return the same, whatever the environment, the rule loads where no error is found
by_rule : (mode : Mode) (rule : LookUp → LookUp → List Entry → Loaded) (setting : Setting) (rows : List Row) →
    ((env remembered : LookUp) → (run mode env remembered (entries_of (lines_of rows))).answer
    ≡ (rule env remembered (entries_of (lines_of rows))).answer) →
    list_any is_error (findings setting rows) ≡ list_any is_failure (entries_of (lines_of rows)) →
    LoadsIfNoError rule setting rows
by_rule mode rule setting rows same found env remembered =
    rw (found, ← same env remembered) (faults_met mode env remembered (entries_of (lines_of rows)))

-- no error is found exactly where both loads return Ok, but for a NUL
pub faults_stop_loads : FaultsStopLoads
faults_stop_loads setting number bytes rows e has =
    let entries = entries_of (lines_of rows) in
    let found = findings_errors setting e setting.dialect number has.count _ rows has.are in (
      by_rule Keep load_result setting rows (λ env remembered. (run-keep env remembered entries).answer) found,
      by_rule Replace override_result setting rows (λ env remembered. (run-replace env remembered entries).answer)
          found,
    )
