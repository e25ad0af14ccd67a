use Rattle.std.proofs.Common.{◌≡◌, ◌+◌, arith, drop}
use Rattle.std.specs.Prelude.{None, Some, get_or, string_bytes}
use Rattle.std.specs.Str.{chars}
use Rattle.dotenvy_editor.specs.declared.forms.Form.TheVariants.{Plain}
use Rattle.dotenvy_editor.specs.Forms.{comment_of, form_text, where_true}
use Rattle.dotenvy_editor.specs.inside.Tried.{IsWrittenAlone, may_have, texts_of}
use Rattle.dotenvy_editor.proofs.FoundLines.{form_failed, form_found, forms_among, forms_from, four_forms}
use Rattle.dotenvy_editor.proofs.writing.Setting.first_form.Goals as goal

pub returns : goal.returns
returns g c = let all : c.forms.form-index ≡ 4 = omega arith in (rw all at c.forms.invariant) None tt

pub returns-in-Some : goal.returns-in-Some
returns-in-Some g c =
    let portable = c.args.self.now.how.is_portable in
    let value = chars c.args.self.now.value.now in
    let comment = comment_of (chars c.args.spot.rest.now) in
    let form = get_or four_forms c.forms.form-index Plain in
    let line = string_bytes c.in-Some.line in
    c.forms.invariant (Some line)
    (forms_from (IsWrittenAlone c.args.self.now) (texts_of c.args.spot) portable value comment c.forms.form-index Plain
    (Some line) c.forms-test.true
    (form_found (IsWrittenAlone c.args.self.now) (texts_of c.args.spot)
    (where_true (may_have portable value comment form) (form_text form value))
    (forms_among portable value comment (drop (c.forms.form-index + 1) four_forms)) line
    (rw c.in-Some.is at c.in_ok-line.ensures)))

pub forms-preserved : goal.forms-preserved
forms-preserved g c =
    λ found h.
    let portable = c.args.self.now.how.is_portable in
    let value = chars c.args.self.now.value.now in
    let comment = comment_of (chars c.args.spot.rest.now) in
    let form = get_or four_forms c.forms.form-index Plain in
    c.forms.invariant found
    (forms_from (IsWrittenAlone c.args.self.now) (texts_of c.args.spot) portable value comment c.forms.form-index Plain
    found c.forms-test.true
    (form_failed (IsWrittenAlone c.args.self.now) (texts_of c.args.spot)
    (where_true (may_have portable value comment form) (form_text form value))
    (forms_among portable value comment (drop (c.forms.form-index + 1) four_forms)) found
    (rw c.in_default.is at c.in_ok-line.ensures) h))
