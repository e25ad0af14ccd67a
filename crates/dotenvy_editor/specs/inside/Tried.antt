-- What the code finds that tries lines.
use Rattle.std.specs.Prelude.{ℕ, ◌≡◌, ◌⊎◌, Bool, true, false, not, ◌&&◌, ◌||◌, List, [], ◌∷◌}
use Rattle.std.specs.Prelude.{IsTrue, Option, Some, None}
use Rattle.std.specs.List.{list_any}
use Rattle.std.specs.Str.{chars, encode_utf8_all}
use Rattle.dotenvy.specs.Characters.{double_quote, single_quote}
use Rattle.dotenvy.specs.Outcome.{Pair, Says}
use Rattle.dotenvy.specs.Value.{Piece}
use Rattle.dotenvy.specs.Written.{needs_backslash, written_character}
use Rattle.dotenvy_editor.specs.declared.forms.Form.{Form}
use Rattle.dotenvy_editor.specs.declared.forms.Form.TheVariants.{Plain, Single, Double, OneLine}
use Rattle.dotenvy_editor.specs.declared.refusal.Reason.{Reason}
use Rattle.dotenvy_editor.specs.declared.refusal.Reason.TheVariants.{LongComment}
use Rattle.dotenvy_editor.specs.declared.refusal.Reason.TheVariants.{Unportable as no_form}
use Rattle.dotenvy_editor.specs.declared.refusal.Unportable.TheVariants.{WhiteSpace, Comment}
use Rattle.dotenvy_editor.specs.declared.spot.Spot.{Spot as SpotInCode}
use Rattle.dotenvy_editor.specs.declared.writing.How.{How}
use Rattle.dotenvy_editor.specs.declared.writing.Setting.{Setting}
use Rattle.dotenvy_editor.specs.Assignments.{Spot}
use Rattle.dotenvy_editor.specs.Forms.{comment_of, form_text, has, is_nil}
use Rattle.dotenvy_editor.specs.Forms.{is_word, one_line_character, plain_forms}
use Rattle.dotenvy_editor.specs.Lines.{IsFirst, IsWritten, MeansText, NoneIs, WritesLine, WritesNone}
use Rattle.dotenvy_editor.specs.Portable.{fits_single, has_white_space, portable_forms}
use Rattle.dotenvy_editor.specs.Portable.{single_refusal, spot_forms}

-- how a character is written in double quotes, on one line or not
abbrev pub double_character : Bool → ℕ → List ℕ
double_character true c = one_line_character c
double_character false c = written_character c

-- the form of the value that was found, if one was
abbrev pub found_forms : Option Form → List ℕ → List (List ℕ)
found_forms None value = []
found_forms (Some form) value = form_text form value ∷ []

-- the value may have this form before the comment; for other readers, too, or not
abbrev pub may_have : Bool → List ℕ → List ℕ → Form → Bool
may_have true value comment Plain = is_word value && not (is_nil value && not (is_nil comment))
may_have true value comment Single =
    fits_single (single_refusal value) && not (has single_quote comment)
may_have true value comment Double = false
may_have true value comment OneLine =
    not (list_any needs_backslash value) && not (has double_quote comment)
may_have false value comment Plain = is_word value
may_have false value comment Single = not (has single_quote value)
may_have false value comment Double = true
may_have false value comment OneLine = false

-- the value has a form that other readers give alike before this comment
abbrev pub has_form : List ℕ → List ℕ → Bool
has_form value comment =
    may_have true value comment Plain
    || (may_have true value comment Single || may_have true value comment OneLine)

-- the forms of the value that are tried before the comment; for other readers, too, or not
abbrev pub forms_for : Bool → List ℕ → List ℕ → List (List ℕ)
forms_for true value comment = portable_forms value comment
forms_for false value comment = plain_forms value

-- the texts of a spot
abbrev pub texts_of : SpotInCode → Spot
texts_of spot = record {
  front = chars spot.front.now;
  old = chars spot.old.now;
  rest = chars spot.rest.now;
}

-- the text of a logical line gives the setting's key its value, whatever names stand for
abbrev pub IsSaidBy : Setting → List ℕ → Type 0
IsSaidBy setting text =
    (pieces : List Piece) × Says setting.how.dialect text (Pair (chars setting.key.now) pieces)
    × MeansText pieces (chars setting.value.now)

-- the line of this text, with nothing after it, gives the setting's key its value
abbrev pub IsWrittenAlone : Setting → List ℕ → Type 0
IsWrittenAlone setting text =
    IsWritten setting.how.dialect (chars setting.key.now) (chars setting.value.now)
    (encode_utf8_all text) []

-- the line is the first of the texts of which P holds; or there is none
abbrev pub FindsFirst : (List ℕ → Type 0) → List (List ℕ) → Option (List ℕ) → Type 0
FindsFirst P texts None = NoneIs P texts
FindsFirst P texts (Some line) =
    (text : List ℕ) × (line ≡ encode_utf8_all text) × IsFirst P texts text

-- the setting writes this line in a spot, with nothing after it; or it can write none
abbrev pub Writes : Setting → Spot → Option (List ℕ) → Type 0
Writes setting spot None =
    WritesNone setting.how (chars setting.key.now) (chars setting.value.now) spot []
Writes setting spot (Some line) =
    WritesLine setting.how (chars setting.key.now) (chars setting.value.now) spot [] line

-- why a setting can write no line in a spot: the line has white space other than spaces, no form
-- that the value may have goes with the comment, or the comment is long
abbrev pub IsUnwritten : How → List ℕ → Spot → Reason → Type 0
IsUnwritten how value spot reason =
    ((reason ≡ no_form WhiteSpace) × (how.is_portable ≡ true) × IsTrue (has_white_space spot))
    ⊎ ((reason ≡ no_form Comment) × (how.is_portable ≡ true)
    × IsTrue (not (has_white_space spot)) × (portable_forms value (comment_of spot.rest) ≡ []))
    ⊎ ((reason ≡ LongComment) × ¬ ((how.is_portable ≡ true) × (spot_forms value spot ≡ [])))
