-- What is kept of lines of which the text is not told.
use Rattle.std.proofs.Common.{◌≡◌, ℕ, Bool, false, List, [], ◌∷◌, ap, map, refl}
use Rattle.std.specs.Prelude.{Option, Some, None, encode_utf8_all}
use Rattle.std.proofs.lemmas.List.Elements.{All-append, All-cons, All-nil}
use Rattle.dotenvy_format.specs.Entries.{Declares, Entry, Fails, Failure, LineParse}
use Rattle.dotenvy_format.specs.LogicalLine.{Broken, HasText, Logical, Skip, StaysOpen}
use Rattle.dotenvy_format.specs.Outcome.{trimmed}
use Rattle.dotenvy_findings.specs.declared.finding.LineFault.{LineFault}
use Rattle.dotenvy_findings.specs.declared.kind.Kind.TheVariants as kind
use Rattle.dotenvy_findings.specs.declared.place.Place.{Place}
use Rattle.dotenvy_findings.specs.LineTexts.{closed_fault, line_marks, open_line_fault}
use Rattle.dotenvy_findings.specs.Readings.{Told}
use Rattle.dotenvy_lines.specs.Numbered.{FileLine}
use Rattle.dotenvy_checker.specs.Findings.{Declared, Remark, Row, Setting, SoFar, begins_at, declaration_remarks}
use Rattle.dotenvy_checker.specs.Findings.{fault_remarks, first_place, found, guessing, has_value, last_of}
use Rattle.dotenvy_checker.specs.Findings.{logical_remarks, nothing_yet, said_of, text_remarks, told_remark, twice}
use Rattle.dotenvy_checker.specs.Findings.{under, with_line, with_lines, with_row, with_rows}
use Rattle.dotenvy_checker.specs.Laws.{TellNoText, TextIfTold}

-- no text is told of this remark
abbrev IsUntold : Remark → Type 0
IsUntold remark = remark.said ≡ []

-- no text is told of one remark
untold_one : (remark : Remark) → IsUntold remark → TellNoText (remark ∷ [])
untold_one remark is = All-cons IsUntold remark [] is (All-nil IsUntold)

-- no text is told of what is told of a declaration
untold_marks : (setting : Setting) (marks : List Told) → TellNoText (map (told_remark setting) marks)
untold_marks setting [] = All-nil IsUntold
untold_marks setting (mark ∷ marks) =
    All-cons IsUntold (told_remark setting mark) (map (told_remark setting) marks) refl (untold_marks setting marks)

-- no text is told of a second declaration
untold_twice : (setting : Setting) (place : Place) (first : Option ℕ) → TellNoText (twice setting place first)
untold_twice setting place None = All-nil IsUntold
untold_twice setting place (Some first) = untold_one (found setting kind.DeclaredTwice place first) refl

-- no text is told of a declaration
untold_declaration : (setting : Setting) (declared : Declared) (number : ℕ) (text key : List ℕ) →
    TellNoText (declaration_remarks setting declared number text key)
untold_declaration setting declared number text key =
    let marks = line_marks (has_value setting.names declared) key setting.dialect (begins_at number) text in
    All-append IsUntold (twice setting (first_place number text) (declared key)) (map (told_remark setting) marks)
    (untold_twice setting (first_place number text) (declared key)) (untold_marks setting marks)

-- no text is told of a fault
untold_fault : (setting : Setting) (fault : LineFault) (failure : Failure) → setting.tells_text ≡ false →
    TellNoText (fault_remarks setting fault (said_of setting.tells_text failure))
untold_fault setting fault failure e =
    untold_one (record (found setting fault.kind fault.place 0) { said = said_of setting.tells_text failure })
    (ap (λ (told : Bool). said_of told failure) e)

-- no text is told of a text
untold_text : (setting : Setting) → setting.tells_text ≡ false → (declared : Declared) (number : ℕ) (text : List ℕ)
    (entries : List Entry) → TellNoText (text_remarks setting declared number text entries)
untold_text setting e declared number text [] = All-nil IsUntold
untold_text setting e declared number text (Declares key pieces ∷ entries) =
    untold_declaration setting declared number (trimmed text) (encode_utf8_all key)
untold_text setting e declared number text (Fails failure ∷ entries) =
    untold_fault setting (closed_fault setting.dialect (begins_at number) (trimmed text)) failure e

-- no text is told of a logical line
untold_logical : (setting : Setting) → setting.tells_text ≡ false → (declared : Declared) (number last : ℕ)
    (logical : Logical) (entries : List Entry) →
    TellNoText (logical_remarks setting declared number last logical entries)
untold_logical setting e declared number last Skip entries = All-nil IsUntold
untold_logical setting e declared number last (HasText text) entries =
    untold_text setting e declared number text entries
untold_logical setting e declared number last (StaysOpen text index) entries =
    untold_fault setting (open_line_fault (begins_at number) text) (LineParse text index) e
untold_logical setting e declared number last Broken entries =
    untold_one (found setting kind.NotUtf8 (begins_at last) 0) refl

-- with one more line no text is told
untold_line : (setting : Setting) → setting.tells_text ≡ false → (so_far : SoFar) (line : FileLine) →
    TellNoText so_far.remarks → TellNoText (with_line setting so_far line).remarks
untold_line setting e so_far line none =
    All-append IsUntold so_far.remarks
    (logical_remarks (under so_far setting) so_far.declared line.number (last_of line) line.logical line.entries) none
    (untold_logical (under so_far setting) e so_far.declared line.number (last_of line) line.logical line.entries)

-- with more lines no text is told
untold_lines : (setting : Setting) → setting.tells_text ≡ false → (so_far : SoFar) (lines : List FileLine) →
    TellNoText so_far.remarks → TellNoText (with_lines setting so_far lines).remarks
untold_lines setting e so_far [] none = none
untold_lines setting e so_far (line ∷ lines) none =
    untold_lines setting e (with_line setting so_far line) lines (untold_line setting e so_far line none)

-- with more rows no text is told
untold_rows : (setting : Setting) → setting.tells_text ≡ false → (so_far : SoFar) (rows : List Row) →
    TellNoText so_far.remarks → TellNoText (with_rows setting so_far rows).remarks
untold_rows setting e so_far [] none = none
untold_rows setting e so_far (row ∷ rows) none =
    untold_rows setting e (with_row setting so_far row) rows
    (untold_lines (guessing setting) e (with_line setting so_far row.line) row.guesses
    (untold_line setting e so_far row.line none))

-- where the text is not told, no text is told
pub text_if_told : TextIfTold
text_if_told setting rows e = untold_rows setting e nothing_yet rows (All-nil IsUntold)
