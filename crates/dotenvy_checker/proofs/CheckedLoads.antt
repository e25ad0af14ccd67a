-- A file that was checked, and a load of it.
use Rattle.std.proofs.Common.{◌≡◌, ℕ, ◌+◌, List, [], ◌∷◌, ◌∙◌, ap, append-nil, inl, inr, false, Result, Ok, Err, refl}
use Rattle.std.proofs.Common.{arith, map, sym, true, ◌&&◌, ◌==◌, ◌||◌}
use Rattle.std.proofs.lemmas.Bool.{cases_Bool}
use Rattle.dotenvy_base.specs.declared.errors.Error.{Error}
use Rattle.std.specs.List.{list_any}
use Rattle.dotenvy_findings.specs.Comments.{Allow}
use Rattle.dotenvy_findings.specs.declared.bytes.BadByte.{BadByte}
use Rattle.dotenvy_findings.specs.declared.finding.Finding.{Finding}
use Rattle.dotenvy_findings.specs.declared.kind.Kind.{Kind}
use Rattle.dotenvy_findings.specs.declared.kind.Kind.TheVariants as kind
use Rattle.dotenvy_findings.specs.Kinds.{is_fault}
use Rattle.dotenvy_format.specs.Entries.{Failure}
use Rattle.dotenvy_format.specs.Loads.{load_result, override_result}
use Rattle.dotenvy_format.specs.Marks.{without_mark}
use Rattle.dotenvy_lines.specs.Numbered.{entries_of, HasNumbered}
use Rattle.dotenvy_lines.specs.Reading.{HasEntriesLeft}
use Rattle.dotenvy_items.specs.Laws.{LoadsAllLeft}
use Rattle.dotenvy_items.specs.LoadsRest.{IsAnswer, Rule}
use Rattle.dotenvy_items.specs.Meaning.{values_of, recalled_of}
use Rattle.dotenvy_items.proofs.WholeLoads.{load_takes_all, override_takes_all}
use Rattle.dotenvy_checker.specs.declared.report.Found.{Found}
use Rattle.dotenvy_checker.specs.Checks.{file_setting}
use Rattle.dotenvy_checker.specs.Findings.{AreTold, Declared, Remark, Row, Setting, SoFar, broken_kind}
use Rattle.dotenvy_checker.specs.Findings.{comments_from, findings}
use Rattle.dotenvy_checker.specs.Findings.{findings_of, is_allowed_on, is_among, is_broken, is_error, lines_of}
use Rattle.dotenvy_checker.specs.Findings.{placed_one, resolved, settled, settled_all, shown}
use Rattle.dotenvy_checker.specs.Laws.{CheckedFilesLoad, LoadsChecked, LoadsIfNoError}
use Rattle.dotenvy_checker.proofs.FoundFaults.{faults_stop_loads}
use Rattle.dotenvy_checker.proofs.NumberedLines.{numbered_entries}

-- a result that is Ok says so
ok_said : {A : Type 0} (said : Result (Unit {0}) Failure) (answer : Result (Unit {0}) (Error A)) →
    IsAnswer said answer → answer ≡ Ok tt → said ≡ Ok tt
ok_said (Ok done) answer is e = refl
ok_said (Err failure) (Ok done) is e = absurd is
ok_said (Err failure) (Err error) is e = cc

-- a line that is no text is a fault, whatever the file seems to be
broken_fault : (k : Kind) → is_fault (broken_kind k) ≡ true
broken_fault kind.Utf16 = refl
broken_fault kind.Latin1 = refl
broken_fault k = refl

-- the kind of a line that is no text is a fault
broken_is_fault : (k : Kind) → is_broken k ≡ true → is_fault k ≡ true
broken_is_fault kind.NotUtf8 is = refl
broken_is_fault k is = cc

-- a finding is an error, or none, at the place of a byte that is no text, too
placed_error : (bad : List BadByte) (finding : Finding) → is_error (placed_one bad finding) ≡ is_error finding
placed_error [] finding = refl
placed_error (bad ∷ others) finding =
    elim (cases_Bool (is_broken finding.kind && bad.place.line == finding.place.line)) [
      | inl is ↦
          let broken : is_broken finding.kind ≡ true = grind (arith, is) in
          rw (is, broken_fault bad.hint, broken_is_fault finding.kind broken) refl
      | inr passes ↦ rw passes refl
    ]

-- what is told has an error exactly where what is found has one
errors_told : (allowed : List Kind) (comments : List Allow) (remarks told : List Remark) →
    AreTold allowed comments remarks told → list_any is_error (shown told) ≡ list_any is_error (shown remarks)
errors_told allowed comments [] told is = rw is refl
errors_told allowed comments (remark ∷ remarks) told (bad, others, are, is) =
    let finding = remark.finding in
    let left = comments_from remark.above comments in
    let later = errors_told allowed left remarks others are in
    let same = placed_error bad finding in
    elim (cases_Bool (is_error finding)) [
      | inl error ↦ rw (is, error, same, error) refl
      | inr passes ↦
          elim (cases_Bool (is_among finding.kind allowed || is_allowed_on remark.above finding.kind left)) [
            | inl hidden ↦ rw (is, passes, hidden) later
            | inr other ↦ rw (is, passes, other, same, passes) later
          ]
    ]

-- the findings of what is settled
settled_shown : (declared : Declared) (remarks : List Remark) →
    shown (map (settled declared) remarks) ≡ map (resolved declared) remarks
settled_shown declared [] = refl
settled_shown declared (remark ∷ remarks) = rw (settled_shown declared remarks) refl

-- what is told of all that is found has an error exactly where that has one
errors_reported : (allowed : List Kind) (comments : List Allow) (all : SoFar) (told : List Remark) →
    AreTold allowed comments (settled_all all) told →
    list_any is_error (shown told) ≡ list_any is_error (findings_of all)
errors_reported allowed comments all told are =
    errors_told allowed comments (settled_all all) told are
    ∙ ap (list_any is_error) (settled_shown all.declared all.remarks)

-- a rule loads the lines of a file exactly where no error is found
abbrev StopsAtErrors : Rule → Type 0
StopsAtErrors rule =
    (setting : Setting) (number : ℕ) (bytes : List ℕ) (rows : List Row) → setting.is_guess ≡ false →
    HasNumbered setting.dialect number bytes (lines_of rows) → LoadsIfNoError rule setting rows

-- a rule that loads all that is left, and entries exactly where no error is found, loads what was checked
loads_checked : {A W : Type 0} (rule : Rule) → LoadsAllLeft rule A → StopsAtErrors rule → LoadsChecked rule A W
loads_checked {A = A} rule takes_all if_no_error sink a outcome answer k =
    let (all, (rows, (no_fault, has), are_rows, is_all), (remarks, tells, (comments, are_told, sends))) = k.reports in
    let setting = file_setting k.names k.checked.dialect k.how.text in
    let number = k.checked.lines.lines_taken + 1 in
    let entries = entries_of (lines_of rows) in
    let are = numbered_entries k.checked.dialect number (without_mark a.bytes) (lines_of rows) has in
    let left : HasEntriesLeft k.loaded.dialect a.fault (without_mark a.bytes) entries = rw (no_fault, k.dialect) are in
    let leaves = takes_all k.loaded a k.old k.new answer entries k.can_read left k.loads k.not_refused in
    let loaded = rule (values_of k.old) (recalled_of k.loaded.remembered) entries in
    let said : IsAnswer loaded.answer answer = rw (no_fault, append-nil) at leaves.is_answer in
    let loads =
    if_no_error setting number (without_mark a.bytes) rows refl has (values_of k.old) (recalled_of k.loaded.remembered)
    in
    let errors : outcome.found.faults ≡ list_any is_error (findings setting rows) =
    ap (λ (found : Found). found.faults) tells.found ∙ errors_reported k.how.allowed.now comments all remarks are_told
    ∙ ap (λ (all : SoFar). list_any is_error (findings_of all)) is_all in (
      λ none. (loaded.answer, loads.1 (sym errors ∙ none), said),
      λ ok. errors ∙ loads.0 (ok_said loaded.answer answer said ok),
    )

-- both loads take what a check found no fault in
pub checked_files_load : {A W : Type 0} → CheckedFilesLoad A W
checked_files_load = (
  loads_checked load_result load_takes_all
      (λ setting number bytes rows e has. (faults_stop_loads setting number bytes rows e has).0),
  loads_checked override_result override_takes_all
      (λ setting number bytes rows e has. (faults_stop_loads setting number bytes rows e has).1),
)
