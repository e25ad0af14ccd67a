use Rattle.std.proofs.Common.{List, ℕ, ◌∷◌, [], drop}
use Rattle.std.specs.Prelude.{Option}
use Rattle.std.specs.Str.{chars}
use Rattle.dotenvy_editor.specs.declared.forms.Form.TheVariants.{Plain, Single, Double, OneLine}
use Rattle.dotenvy_editor.specs.Forms.{candidates, comment_of}
use Rattle.dotenvy_editor.specs.inside.Tried.{FindsFirst, IsWrittenAlone, forms_for, texts_of}
use Rattle.dotenvy_editor.proofs.FoundLines.{forms_among}
use Rattle.dotenvy_editor.proofs.writing.Setting.first_form.Given as goal

-- what is found with the forms that are left is found with all of them
abbrev pub invariant-forms : goal.invariant-forms
invariant-forms g l =
    (found : Option (List ℕ)) →
    FindsFirst (IsWrittenAlone l.self) (candidates (texts_of l.spot) (forms_among l.self.how.is_portable
    (chars l.self.value.now) (comment_of (chars l.spot.rest.now))
    (drop l.form-index (Plain ∷ Single ∷ Double ∷ OneLine ∷ [])))) found →
    FindsFirst (IsWrittenAlone l.self) (candidates (texts_of l.spot) (forms_for l.self.how.is_portable
    (chars l.self.value.now) (comment_of (chars l.spot.rest.now)))) found
