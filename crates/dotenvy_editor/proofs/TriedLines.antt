-- The lines that a setting tries in a spot, and the first of them that reads back.
use Rattle.std.proofs.Common.{◌≡◌, ◌≢◌, ◌∙◌, ◌↔◌, ℕ, Bool, true, false, List, [], ◌∷◌, ◌++◌, inl, refl, sym}
use Rattle.std.proofs.Common.{subst}
use Rattle.std.specs.Prelude.{Option, Some, None, Result, IfOk, IsTrue}
use lib.Utf8.{encode}
use Rattle.std.specs.Str.{chars, encode_utf8_all, IsUtf8}
use Rattle.dotenvy_format.specs.Characters.{equals_sign, space}
use Rattle.std.proofs.lemmas.List.{append-nil}
use Rattle.std.proofs.lemmas.Result.{IfOk-weaker}
use Rattle.std.proofs.lemmas.Str.{chars_from_encodes, encodes-append}
use Rattle.dotenvy_editor.specs.declared.forms.Form.{Form}
use Rattle.dotenvy_editor.specs.declared.forms.Form.TheVariants.{Plain, Single, OneLine}
use Rattle.dotenvy_editor.specs.declared.writing.Setting.{Setting}
use Rattle.dotenvy_editor.specs.Assignments.{Spot}
use Rattle.dotenvy_editor.specs.Forms.{candidates, comment_of, form_lines, in_single_quotes, on_one_line, where_true}
use Rattle.dotenvy_editor.specs.Lines.{IsWritten, tried_lines}
use Rattle.dotenvy_editor.specs.Portable.{has_white_space, portable_forms, spot_forms}
use Rattle.dotenvy_editor.specs.inside.Tried.{FindsFirst, IsWrittenAlone, Writes, has_form, may_have}
use Rattle.dotenvy_editor.proofs.FoundLines.{finds_here, finds_later, form_fits, no_forms, some_forms}

-- where the value has no form that is read alike, none is tried; or else one is
pub no_portable : (value comment : List ℕ) → has_form value comment ≡ false → portable_forms value comment ≡ []
no_portable value comment h =
    no_forms (may_have true value comment Plain) (may_have true value comment Single)
    (may_have true value comment OneLine) value (in_single_quotes value) (on_one_line value) h

pub some_portable : (value comment : List ℕ) → has_form value comment ≡ true → portable_forms value comment ≢ []
some_portable value comment h =
    some_forms (may_have true value comment Plain) (may_have true value comment Single)
    (may_have true value comment OneLine) value (in_single_quotes value) (on_one_line value) h

-- the forms in a spot without white space other than spaces
pub spaced_forms : (value : List ℕ) (spot : Spot) → has_white_space spot ≡ false →
    spot_forms value spot ≡ portable_forms value (comment_of spot.rest)
spaced_forms value spot spaced = rw spaced refl

-- whether a value may have a form is what was tested with the comment that was found
pub may_as : (portable : Bool) (value told rest : List ℕ) (form : Form) (fits now : Bool) → told ≡ comment_of rest →
    fits ≡ may_have portable value told form → fits ≡ now →
    may_have portable value (comment_of rest) form ≡ now
may_as portable value told rest form fits now same is test = sym (rw same at is) ∙ test

-- a line with the parts of a spot, and whether it is written
module _ (setting : Setting) (text line : List ℕ) (is : Bool) (spelled : line ≡ encode_utf8_all text)
    (iff : IsTrue is
    ↔ IsWritten setting.how.dialect (chars setting.key.now) (chars setting.value.now) line []) where
  pub tried_found : is ≡ true → FindsFirst (IsWrittenAlone setting) (text ∷ []) (Some line)
  tried_found h = (text, spelled, inl (rw (← spelled) (iff.0 h), refl))

  pub tried_none : is ≡ false → FindsFirst (IsWrittenAlone setting) (text ∷ []) None
  tried_none h = (λ w. let f : false ≡ true = sym h ∙ iff.1 (rw spelled w) in absurd (cc), tt)

-- the text of written bytes
pub written_text : (form bytes written : List ℕ) → IsUtf8 bytes → bytes ≡ written →
    written ≡ encode_utf8_all form → chars bytes ≡ form
written_text form bytes written utf8 is spelled = sym (chars_from_encodes form bytes utf8 (sym (is ∙ spelled)))

-- the old form is tried after the line as it is
module _ (P : List ℕ → Type 0) (spot : Spot) (first : List ℕ) (forms : List (List ℕ)) where
  pub kept_as_is : (line : List ℕ) → FindsFirst P (first ∷ []) (Some line) →
      FindsFirst P (first ∷ candidates spot forms) (Some line)
  kept_as_is line h = finds_here P (first ∷ []) (candidates spot forms) line h

  pub kept_quoted : (form : List ℕ) (found : Option (List ℕ)) → form ∷ [] ≡ forms → FindsFirst P (first ∷ []) None →
      FindsFirst P (form_lines spot form) found → FindsFirst P (first ∷ candidates spot forms) found
  kept_quoted form found is none h =
      rw (← is) (finds_later P (first ∷ []) (form_lines spot form ++ []) found none
      (subst (λ lines. FindsFirst P lines found) (sym (append-nil (form_lines spot form))) h))

  pub kept_bare : [] ≡ forms → FindsFirst P (first ∷ []) None → FindsFirst P (first ∷ candidates spot forms) None
  kept_bare is none = rw (← is) none

-- what is found among the lines that are tried is what the setting writes
pub writes_found : (setting : Setting) (spot : Spot) (found : Option (List ℕ)) →
    FindsFirst (IsWrittenAlone setting) (tried_lines setting.how (chars setting.value.now) spot) found →
    Writes setting spot found
writes_found setting spot None h = h
writes_found setting spot (Some line) (text, is, first) = record { text = text; bytes = is; first = first }

-- for other readers, too, where the line has no white space other than spaces
pub writes_portable : (setting : Setting) (spot : Spot) (found : Option (List ℕ)) → setting.how.is_portable ≡ true →
    has_white_space spot ≡ false →
    FindsFirst (IsWrittenAlone setting)
    (candidates spot (portable_forms (chars setting.value.now) (comment_of spot.rest))) found →
    Writes setting spot found
writes_portable setting spot found portable spaced h = writes_found setting spot found (rw (portable, spaced) h)

-- the bytes of a text and a blank
pub blank_bytes : (form : List ℕ) → encode_utf8_all form ++ space ∷ [] ≡ encode_utf8_all (form ++ space ∷ [])
unfolding encode
blank_bytes form = sym (encodes-append form (space ∷ []))

-- what holds of each value holds after Ok
pub if_ok : {X Y : Type 0} (r : Result X Y) (P Q : X → Type 0) → IfOk r P → ((x : X) → P x → Q x) → IfOk r Q
if_ok r P Q h weaker = IfOk-weaker r P Q weaker h

-- what is found with a form is found where the value may have it
pub fits_ok : {X Y : Type 0} (r : Result X Y) (bytes : X → Option (List ℕ)) (P : List ℕ → Type 0) (spot : Spot)
    (may : Bool) (form : List ℕ) → may ≡ true → IfOk r (λ x. FindsFirst P (form_lines spot form) (bytes x)) →
    IfOk r (λ x. FindsFirst P (candidates spot (where_true may form)) (bytes x))
fits_ok r bytes P spot may form is h = IfOk-weaker r _ _ (λ x first. form_fits P spot may form (bytes x) is first) h

-- the text of an equals sign
pub equals_text : chars (61 ∷ []) ≡ equals_sign ∷ []
unfolding chars
equals_text = refl
