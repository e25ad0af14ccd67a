-- What is settled of what was found stays as it is, whatever is declared later; what was told stands before the rest.
use Rattle.std.proofs.Common.{◌≡◌, ℕ, true, false, List, [], ◌∷◌, ◌++◌, ◌∙◌, map, refl, sym, ap, inl, inr}
use Rattle.std.proofs.Common.{Option, Some, None}
use Rattle.std.specs.Prelude.{bytes_eq, encode_utf8_all, is_some}
use Rattle.std.specs.List.{AllByRecursion}
use Rattle.std.proofs.lemmas.Bool.{cases_Bool}
use Rattle.std.proofs.lemmas.List.{append_assoc}
use Rattle.std.proofs.lemmas.Slice.Eq.{bytes_eq-Decides}
use Rattle.dotenvy_format.specs.Entries.{Entry, Declares, Fails}
use Rattle.dotenvy_format.specs.LogicalLine.{Logical}
use Rattle.dotenvy_findings.specs.declared.finding.Finding.{Finding}
use Rattle.dotenvy_lines.specs.Numbered.{FileLine}
use Rattle.dotenvy_checker.specs.Checks.{IsKnown}
use Rattle.dotenvy_checker.specs.Findings.{Declared, Remark, Setting, SoFar, declared_by, is_unknown, last_of}
use Rattle.dotenvy_checker.specs.Findings.{logical_remarks, settled, under, with_key, with_later, with_line}
use Rattle.dotenvy_checker.specs.Findings.{with_lines, with_logical}
use Rattle.dotenvy_checker.specs.inside.ToldLines.{IsSettled}

-- a name that is declared stays declared on its line
abbrev pub Extends : Declared → Declared → Type 0
Extends names others = (name : List ℕ) (line : ℕ) → names name ≡ Some line → others name ≡ Some line

-- names are those that are declared
pub extends_none : (names : Declared) → Extends names names
extends_none names = λ name line is. is

-- a key more leaves the lines of the others
key_extends : (key : List ℕ) (line : ℕ) (names : Declared) → Extends names (with_key key line names)
key_extends key line names = λ name first is.
    elim (cases_Bool (is_some (names key))) [
      | inl there ↦ rw there is
      | inr absent ↦
          elim (cases_Bool (bytes_eq key name)) [
            | inl same ↦
                let there : is_some (names key) ≡ true = rw ((bytes_eq-Decides key name).0 same, is) refl in cc
            | inr other ↦ rw (absent, other) is
          ]
    ]

-- the keys of entries leave the lines of the others
pub entries_extend : (number : ℕ) (entries : List Entry) (names : Declared) →
    Extends names (declared_by number entries names)
entries_extend number [] names = extends_none names
entries_extend number (Declares key pieces ∷ entries) names =
    λ name line is. entries_extend number entries (with_key (encode_utf8_all key) number names) name line
    (key_extends (encode_utf8_all key) number names name line is)
entries_extend number (Fails failure ∷ entries) names = entries_extend number entries names

-- so do lines
pub lines_extend : (setting : Setting) (s : SoFar) (lines : List FileLine) →
    Extends s.declared (with_lines setting s lines).declared
lines_extend setting s [] = extends_none s.declared
lines_extend setting s (line ∷ lines) =
    λ name first is. lines_extend setting (with_line setting s line) lines name first
    (entries_extend line.number line.entries s.declared name first is)

-- what a name without a value comes to stays, once it is declared
later_stays : (first other : Option ℕ) (finding : Finding) → is_unknown finding.kind ≡ true →
    is_unknown (with_later first finding).kind ≡ false → ((line : ℕ) → first ≡ Some line → other ≡ Some line) →
    with_later other finding ≡ with_later first finding
later_stays None other finding unknown is extends = let both = sym unknown ∙ is in cc
later_stays (Some line) other finding unknown is extends = rw (extends line refl) refl

-- what is settled stays where more is declared
settled_stays : (names others : Declared) (remark : Remark) → Extends names others → IsSettled names remark →
    settled others remark ≡ settled names remark
settled_stays names others remark extends is =
    elim (cases_Bool (is_unknown remark.finding.kind)) [
      | inl unknown ↦
          let same = later_stays (names remark.name) (others remark.name) remark.finding unknown
          (rw unknown at is) (extends remark.name) in rw (unknown, same) refl
      | inr known ↦ rw known refl
    ]

-- so is all that is settled
pub all_stay : (names others : Declared) (front : List Remark) → Extends names others →
    AllByRecursion (IsSettled names) front →
    map (settled others) front ≡ map (settled names) front
all_stay names others [] extends all = refl
all_stay names others (remark ∷ front) extends (is, all) =
    rw (settled_stays names others remark extends is, all_stay names others front extends all) refl

-- and stays settled
still_settled : (names others : Declared) (remark : Remark) → Extends names others → IsSettled names remark →
    IsSettled others remark
still_settled names others remark extends is =
    ap (λ (remark : Remark). is_unknown remark.finding.kind) (settled_stays names others remark extends is) ∙ is

-- all of it
pub all_settled : (names others : Declared) (front : List Remark) → Extends names others →
    AllByRecursion (IsSettled names) front → AllByRecursion (IsSettled others) front
all_settled names others [] extends all = tt
all_settled names others (remark ∷ front) extends (is, all) =
    (still_settled names others remark extends is, all_settled names others front extends all)

-- what is settled is no name without a value
pub all_known : (names : Declared) (front : List Remark) → AllByRecursion (IsSettled names) front →
    AllByRecursion IsKnown (map (settled names) front)
all_known names [] all = tt
all_known names (remark ∷ front) (is, all) = (is, all_known names front all)

-- what was found, behind what was told
abbrev pub behind_front : List Remark → SoFar → SoFar
behind_front front s = record s { remarks = front ++ s.remarks }

-- what is found in a logical line stands behind what was told
logical_behind : (setting : Setting) (front : List Remark) (s : SoFar) (number last : ℕ) (logical : Logical)
    (entries : List Entry) →
    behind_front front (with_logical setting s number last logical entries)
    ≡ with_logical setting (behind_front front s) number last logical entries
logical_behind setting front s number last logical entries =
    rw (append_assoc front s.remarks (logical_remarks (under s setting) s.declared number last logical entries)) refl

-- so does what is found in lines
lines_behind : (setting : Setting) (front : List Remark) (s : SoFar) (lines : List FileLine) →
    behind_front front (with_lines setting s lines) ≡ with_lines setting (behind_front front s) lines
lines_behind setting front s [] = refl
lines_behind setting front s (line ∷ lines) =
    lines_behind setting front (with_line setting s line) lines
    ∙ ap (λ t. with_lines setting t lines)
    (logical_behind setting front s line.number (last_of line) line.logical line.entries)

-- and what is found in a line and the guesses behind it
pub row_behind : (guessing setting : Setting) (front : List Remark) (s : SoFar) (number last : ℕ) (logical : Logical)
    (entries : List Entry) (guesses : List FileLine) →
    behind_front front (with_lines guessing (with_logical setting s number last logical entries) guesses)
    ≡ with_lines guessing (with_logical setting (behind_front front s) number last logical entries) guesses
row_behind guessing setting front s number last logical entries guesses =
    lines_behind guessing front (with_logical setting s number last logical entries) guesses
    ∙ ap (λ t. with_lines guessing t guesses) (logical_behind setting front s number last logical entries)
