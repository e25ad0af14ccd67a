use Rattle.std.proofs.Common.{◌≡◌, ◌∙◌, ◌∷◌, ◌++◌, [], true, sym, ap}
use lib.Utf8.{encode}
use Rattle.std.specs.Prelude.{encode_utf8_all, option_map, string_bytes}
use Rattle.std.specs.Str.{chars}
use Rattle.dotenvy_format.specs.Characters.{space}
use Rattle.dotenvy_editor.specs.Forms.{comment_of, form_text, is_nil}
use Rattle.dotenvy_editor.specs.inside.Tried.{IsWrittenAlone, texts_of}
use Rattle.dotenvy_editor.proofs.FoundLines.{tail_bare, tail_blank, tail_first, tail_long}
use Rattle.dotenvy_editor.proofs.TextTests.{nil_text}
use Rattle.dotenvy_editor.proofs.TriedLines.{blank_bytes, if_ok, written_text}
use Rattle.dotenvy_editor.proofs.writing.Setting.first_tail.Goals as goal

pub returns-in-Some : goal.returns-in-Some
returns-in-Some g c =
    let form = form_text c.args.form (chars c.args.self.now.value.now) in
    let spelled = c.in_ok-push_form.ensures ∙ ap (λ bs. bs ++ encode_utf8_all form) c.new-written.ensures.bytes in
    let old = written_text form c.as_str-old.result.now _ c.as_str-old.utf8 c.as_str-old.ensures.value spelled in
    tail_first (IsWrittenAlone c.args.self.now) (texts_of c.args.spot) form _
    (rw (c.in-Some.is, old) at c.in_ok-line.ensures)

pub returns-then-is_empty : goal.returns-then-is_empty
returns-then-is_empty g c =
    let form = form_text c.args.form (chars c.args.self.now.value.now) in
    let spelled = c.in_ok-push_form.ensures ∙ ap (λ bs. bs ++ encode_utf8_all form) c.new-written.ensures.bytes in
    let old = written_text form c.as_str-old.result.now _ c.as_str-old.utf8 c.as_str-old.ensures.value spelled in
    let bare : is_nil (comment_of (chars c.args.spot.rest.now)) ≡ true =
    rw (← c.comment-comment.ensures)
    (nil_text c.comment-comment.result.now c.comment-comment.utf8 ∙ sym c.is_empty.ensures ∙ c.if-is_empty.true) in
    if_ok c.tried-then-is_empty.result _ _ c.tried-then-is_empty.ensures
    (λ found h.
    tail_bare (IsWrittenAlone c.args.self.now) (texts_of c.args.spot) form (option_map string_bytes found) bare
    (rw (c.in_default.is, old) at c.in_ok-line.ensures) (rw (old, c.end-rest.ensures) at h))

pub returns-then-has_long_comment : goal.returns-then-has_long_comment
returns-then-has_long_comment g c =
    let form = form_text c.args.form (chars c.args.self.now.value.now) in
    let spelled = c.in_ok-push_form.ensures ∙ ap (λ bs. bs ++ encode_utf8_all form) c.new-written.ensures.bytes in
    let old = written_text form c.as_str-old.result.now _ c.as_str-old.utf8 c.as_str-old.ensures.value spelled in
    tail_long (IsWrittenAlone c.args.self.now) (texts_of c.args.spot) form
    (rw (← c.comment-comment.ensures)
    (nil_text c.comment-comment.result.now c.comment-comment.utf8 ∙ sym c.is_empty.ensures ∙ c.if-is_empty.false))
    (sym c.has_long_comment.ensures ∙ c.if-has_long_comment.true)
    (rw (c.in_default.is, old) at c.in_ok-line.ensures)

pub returns : goal.returns
unfolding encode
returns g c =
    let form = form_text c.args.form (chars c.args.self.now.value.now) in
    let spelled = c.in_ok-push_form.ensures ∙ ap (λ bs. bs ++ encode_utf8_all form) c.new-written.ensures.bytes in
    let old = written_text form c.as_str-old.result.now _ c.as_str-old.utf8 c.as_str-old.ensures.value spelled in
    let more = c.in_ok-push.ensures.bytes ∙ ap (λ bs. bs ++ space ∷ []) spelled ∙ blank_bytes form in
    let old2 =
    written_text (form ++ space ∷ []) c.as_str-old-2.result.now _ c.as_str-old-2.utf8 c.as_str-old-2.ensures.value
    more in
    if_ok c.tried-2.result _ _ c.tried-2.ensures
    (λ found h.
    tail_blank (IsWrittenAlone c.args.self.now) (texts_of c.args.spot) form (option_map string_bytes found)
    (rw (← c.comment-comment.ensures)
    (nil_text c.comment-comment.result.now c.comment-comment.utf8 ∙ sym c.is_empty.ensures ∙ c.if-is_empty.false))
    (sym c.has_long_comment.ensures ∙ c.if-has_long_comment.false)
    (rw (c.in_default.is, old) at c.in_ok-line.ensures) (rw (old2, c.comment-comment.ensures) at h))
