-- What is found in a logical line by what it is.
use Rattle.std.proofs.Common.{◌≡◌, ◌+◌, ◌-◌, ℕ, true, false, List, [], ◌∷◌, ◌++◌, Option, None, refl, sym, ap, ◌∙◌}
use Rattle.std.proofs.Common.{arith, get_or, length, length-append, lit<, subst, take}
use Rattle.std.proofs.Math.Seq.{get_or-append_seam, take-append_seam}
use Rattle.std.proofs.lemmas.Str.{IsCharBoundary-before_ascii, IsUtf8-take}
use Rattle.std.specs.Str.{IsUtf8, chars, skip_leading_whitespace}
use Rattle.dotenvy_format.specs.Characters.{begins_with, hash}
use Rattle.std.specs.Prelude.{encode_utf8_all}
use Rattle.dotenvy_format.specs.Entries.{Declares, Fails, LineParse}
use Rattle.dotenvy_format.specs.Outcome.{Nothing, Pair, Fault, Says, trimmed}
use Rattle.dotenvy_format.specs.Value.{Piece}
use Rattle.dotenvy_format.specs.declared.walk.LineMode.TheVariants.{Outside}
use Rattle.dotenvy_format.specs.inside.Walk.{Walk, walk}
use Rattle.dotenvy_format.specs.LogicalLine.{Skip, HasText, StaysOpen, without_carriage_return}
use Rattle.dotenvy_format.proofs.lines.LineTexts.{chars_popped}
use Rattle.dotenvy_findings.specs.LineTexts.{closed_fault, open_line_fault}
use Rattle.dotenvy_findings.specs.declared.finding.LineFault.{LineFault}
use Rattle.dotenvy_checker.specs.declared.lines.Checker.{Checker}
use Rattle.dotenvy_checker.specs.declared.lines.Numbered.{Numbered}
use Rattle.dotenvy_checker.specs.Findings.{begins_at, declaration_remarks, fault_remarks, guessed, walked_alone}
use Rattle.dotenvy_checker.specs.Findings.{said_of, with_key}
use Rattle.dotenvy_checker.specs.inside.CheckedLines.{declared_of, setting_at, ChecksPart, KeepsMore}
use Rattle.dotenvy_checker.proofs.KeptLines.{comes_bare, keeps}

-- a comment, read alone, is skipped
pub guessed_comment : (text : List ℕ) → begins_with hash (skip_leading_whitespace text) ≡ true → guessed text ≡ Skip
guessed_comment text is = rw is refl

-- any other physical line, read alone, is what a walk makes of it
pub guessed_walk : {walked : Walk} (text : List ℕ) → begins_with hash (skip_leading_whitespace text) ≡ false →
    walk Outside [] text ≡ walked → guessed text ≡ walked_alone text walked
guessed_walk text other is = rw (other, is) refl

-- a carriage return at the end of a text goes
pub return_dropped : (text kept : List ℕ) → IsUtf8 text → text ≡ kept ++ 13 ∷ [] →
    chars kept ≡ without_carriage_return (chars text)
return_dropped text kept u e =
    let lengths : length text ≡ length kept + 1 = ap length e ∙ length-append kept (13 ∷ []) in
    let len : length text - 1 ≡ length kept = omega (arith, lengths) in
    let last : get_or text (length text - 1) 0 ≡ 13 = rw (len, e) (get_or-append_seam kept 13 [] 0) in
    let front : kept ≡ take (length text - 1) text = rw (len, e) (sym (take-append_seam kept (13 ∷ []))) in
    let cut = IsCharBoundary-before_ascii text (length text - 1) (omega (arith, lengths)) (rw last (lit< tt)) in
    chars_popped text text kept (length text) true refl refl refl (rw last refl)
    (e ∙ ap (λ first. first ++ 13 ∷ []) front) (λ some ascii. front)
    (subst IsUtf8 (sym front) (IsUtf8-take text (length text - 1) u cut))

-- the fault of a text in which a quote stays open is what is found in it
pub open_part : {A : Type 0} (line : Numbered) (last index : ℕ) (text said : List ℕ) (fault : LineFault)
    (from : Option ℕ) {old new : Checker A} → fault ≡ open_line_fault (begins_at line.number) text →
    said ≡ said_of old.tells_text (LineParse text index) → from ≡ fault.behind →
    KeepsMore (fault_remarks (setting_at old line.is_guess) fault said) (declared_of old.declared) 0 old new →
    ChecksPart line last (StaysOpen text index) from old new
open_part line last index text said fault from is says e kept =
    (Fails (LineParse text index) ∷ [], refl, rw is at e, keeps (rw (is, says) at kept))

-- nothing is found in a text that says nothing
pub nothing_part : {A : Type 0} (line : Numbered) (last : ℕ) (text : List ℕ) {old : Checker A} →
    Says old.dialect text Nothing →
    ChecksPart line last (HasText text) None old (record old { above = line.number })
nothing_part line last text {old} says =
    ([], (Nothing, says, refl), refl, comes_bare line.number old)

-- what is found in a declaration is found in its text
pub pair_part : {A : Type 0} (line : Numbered) (last : ℕ) (text key : List ℕ) (pieces : List Piece)
    {old new : Checker A} → Says old.dialect text (Pair key pieces) →
    KeepsMore
    (declaration_remarks (setting_at old line.is_guess) (declared_of old.declared) line.number (trimmed text)
    (encode_utf8_all key)) (with_key (encode_utf8_all key) line.number (declared_of old.declared)) 0 old new →
    ChecksPart line last (HasText text) None old new
pair_part line last text key pieces says kept =
    (Declares key pieces ∷ [], (Pair key pieces, says, refl), refl, keeps kept)

-- the fault of a text is what is found in it
pub fault_part : {A : Type 0} (line : Numbered) (last index : ℕ) (text wrong said : List ℕ) (fault : LineFault)
    (from : Option ℕ) {old new : Checker A} → Says old.dialect text (Fault wrong index) →
    fault ≡ closed_fault old.dialect (begins_at line.number) (trimmed text) →
    said ≡ said_of old.tells_text (LineParse wrong index) → from ≡ fault.behind →
    KeepsMore (fault_remarks (setting_at old line.is_guess) fault said) (declared_of old.declared) 0 old new →
    ChecksPart line last (HasText text) from old new
fault_part line last index text wrong said fault from says is told e kept =
    (Fails (LineParse wrong index) ∷ [], (Fault wrong index, says, refl), rw is at e, keeps (rw (is, told) at kept))
