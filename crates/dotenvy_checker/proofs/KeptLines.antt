-- What is kept of lines, one after another.
use Rattle.std.proofs.Common.{◌≡◌, ℕ, Bool, List, [], ◌∷◌, ◌++◌, refl, sym, ◌∙◌, ap, map}
use Rattle.std.proofs.Common.{Result, Ok, Err, OnOk}
use Rattle.std.proofs.lemmas.List.{append_assoc, append-nil}
use Rattle.dotenvy_lines.specs.Numbered.{FileLine}
use Rattle.dotenvy_checker.specs.declared.declared.Declared.{Declared as CodeDeclared}
use Rattle.dotenvy_checker.specs.declared.lines.Checker.{Checker}
use Rattle.dotenvy_checker.specs.Findings.{Declared, Remark, Row, Setting, SoFar, with_line, with_lines, with_row}
use Rattle.dotenvy_checker.specs.Findings.{begins_at, declaration_remarks, first_place, has_value, told_remark, twice}
use Rattle.dotenvy_checker.specs.Findings.{with_key, with_rows}
use Rattle.dotenvy_checker.specs.Checks.{names_in}
use Rattle.dotenvy_findings.specs.LineTexts.{line_marks}
use Rattle.dotenvy_findings.specs.declared.line.LineText.{LineText}
use Rattle.dotenvy_findings.specs.Readings.{Told}
use Rattle.dotenvy_checker.specs.inside.CheckedLines.{declared_of, setting_at, setting_of, so_far, ComesTo, KeepsMore}

-- what is kept is where a checker comes to
pub keeps : {A : Type 0} {remarks : List Remark} {declared : Declared} {above : ℕ} {old new : Checker A} →
    KeepsMore remarks declared above old new →
    ComesTo (record { remarks = (so_far old).remarks ++ remarks; declared = declared; above = above }) old new
keeps k = record {
  comes = rw (k.found, k.declares, k.stands) refl;
  names = k.names;
  dialect = k.dialect;
  tells = k.tells;
}

-- what is kept, and then more, is all kept
pub keeps_more : {A : Type 0} {xs ys : List Remark} {middle end : Declared} {here there : ℕ} {a b c : Checker A} →
    KeepsMore xs middle here a b → KeepsMore ys end there b c → KeepsMore (xs ++ ys) end there a c
keeps_more {xs = xs} {ys = ys} {a = a} h k = record {
  found = rw (k.found, h.found) (append_assoc (so_far a).remarks xs ys);
  declares = k.declares;
  stands = k.stands;
  names = k.names ∙ h.names;
  dialect = k.dialect ∙ h.dialect;
  tells = k.tells ∙ h.tells;
}

-- nothing is kept
pub keeps_none : {A : Type 0} (s : Checker A) → KeepsMore [] (declared_of s.declared) s.above s s
keeps_none s = record {
  found = sym (append-nil _);
  declares = refl;
  stands = refl;
  names = refl;
  dialect = refl;
  tells = refl;
}

-- a checker that keeps nothing stays where it is
pub comes_none : {A : Type 0} (s : Checker A) → ComesTo (so_far s) s s
comes_none s = record { comes = refl; names = refl; dialect = refl; tells = refl }

-- a checker comes to the end of a line on which nothing is found
pub comes_bare : {A : Type 0} (number : ℕ) (s : Checker A) →
    ComesTo (record { remarks = (so_far s).remarks ++ []; declared = declared_of s.declared; above = number }) s
    (record s { above = number })
comes_bare number s = record {
  comes = rw (append-nil (so_far s).remarks) refl;
  names = refl;
  dialect = refl;
  tells = refl;
}

-- a checker that comes on from where it came goes all the way
pub comes_on : {A : Type 0} {middle end : SoFar} {old now new : Checker A} → ComesTo middle old now →
    ComesTo end now new → ComesTo end old new
comes_on h k = record {
  comes = k.comes;
  names = k.names ∙ h.names;
  dialect = k.dialect ∙ h.dialect;
  tells = k.tells ∙ h.tells;
}

-- how lines are checked stays the same
pub same_setting : {A : Type 0} {to : SoFar} {old new : Checker A} (is_guess : Bool) → ComesTo to old new →
    setting_of new is_guess ≡ setting_of old is_guess
same_setting is_guess h = rw (h.names, h.dialect, h.tells) refl

-- lines that are kept, and then others, are all kept
pub with_lines-append : (setting : Setting) (s : SoFar) (xs ys : List FileLine) →
    with_lines setting s (xs ++ ys) ≡ with_lines setting (with_lines setting s xs) ys
with_lines-append setting s [] ys = refl
with_lines-append setting s (x ∷ xs) ys = with_lines-append setting (with_line setting s x) xs ys

-- the same of rows
pub with_rows-append : (setting : Setting) (s : SoFar) (xs ys : List Row) →
    with_rows setting s (xs ++ ys) ≡ with_rows setting (with_rows setting s xs) ys
with_rows-append setting s [] ys = refl
with_rows-append setting s (x ∷ xs) ys = with_rows-append setting (with_row setting s x) xs ys

-- what follows from a fact follows from it after Ok
pub after_ok : {T E P Q : Type 0} (r : Result T E) → (P → Q) → OnOk r P → OnOk r Q
after_ok (Ok x) f h = f h
after_ok (Err e) f h = tt

-- what is kept stays kept where another line is the last one
pub keeps_last : {A : Type 0} {remarks : List Remark} {declared : Declared} {above : ℕ} {a b : Checker A}
    (number : ℕ) → KeepsMore remarks declared above a b →
    KeepsMore remarks declared number a (record b { above = number })
keeps_last number k = record {
  found = k.found;
  declares = k.declares;
  stands = refl;
  names = k.names;
  dialect = k.dialect;
  tells = k.tells;
}

-- what is kept stays kept where other names are declared
pub keeps_declared : {A : Type 0} {remarks : List Remark} {middle end : Declared} {above : ℕ} {a b : Checker A}
    (declared : CodeDeclared A) → KeepsMore remarks middle above a b → declared_of declared ≡ end →
    KeepsMore remarks end above a (record b { declared = declared })
keeps_declared declared k e = record {
  found = k.found;
  declares = e;
  stands = k.stands;
  names = k.names;
  dialect = k.dialect;
  tells = k.tells;
}

-- a declaration is kept: its key, if it was declared before, and what is told of it; and then the key is declared
pub declaration_kept : {A : Type 0} (is_guess : Bool) (number : ℕ) (text key : List ℕ) (line : LineText)
    (declared : CodeDeclared A) (marks : List Told) {old one two : Checker A} → line.dialect ≡ old.dialect →
    line.start ≡ begins_at number → line.text.now ≡ text →
    KeepsMore (twice (setting_at old is_guess) (first_place number text) (declared_of old.declared key))
    (declared_of old.declared) old.above old one →
    marks ≡ line_marks (has_value (names_in one.names.env.now.names) (declared_of one.declared)) key line.dialect
    line.start line.text.now →
    KeepsMore (map (told_remark (setting_at one is_guess)) marks) (declared_of one.declared) one.above one two →
    declared_of declared ≡ with_key key number (declared_of two.declared) →
    KeepsMore
    (declaration_remarks (setting_at old is_guess) (declared_of old.declared) number text key)
    (with_key key number (declared_of old.declared)) 0 old (record two { declared = declared; above = 0 })
declaration_kept is_guess number text key line declared marks {old} {one} {two} dialect start is h told k e =
    let same = ap (with_key key number) (k.declares ∙ h.declares) in
    let marked = rw (h.names, h.declares, dialect, start, is) at told in
    let remarks : map (told_remark (setting_at one is_guess)) marks
    ≡ map (told_remark (setting_at old is_guess)) (line_marks
    (has_value (names_in old.names.env.now.names) (declared_of old.declared)) key old.dialect (begins_at number)
    text) = rw (h.names, h.dialect, h.tells, h.stands, marked) refl in
    keeps_last 0 (keeps_declared {b = two} declared (keeps_more h (rw remarks at k)) (e ∙ same))
