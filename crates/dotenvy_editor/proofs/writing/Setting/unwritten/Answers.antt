use Rattle.std.proofs.Common.{◌≡◌, ◌∙◌, false, inl, inr, refl, sym}
use Rattle.std.specs.Str.{chars}
use Rattle.dotenvy_editor.specs.Portable.{has_white_space}
use Rattle.dotenvy_editor.specs.inside.Tried.{texts_of}
use Rattle.dotenvy_editor.proofs.TriedLines.{no_portable, some_portable, spaced_forms}
use Rattle.dotenvy_editor.proofs.writing.Setting.unwritten.Goals as goal

pub returns-then-has_form : goal.returns-then-has_form
returns-then-has_form c =
    let value = chars c.args.self.now.value.now in
    let spaced : has_white_space (texts_of c.args.spot) ≡ false =
    sym c.has_white_space.ensures ∙ c.if-has_white_space.false in
    inr (inr (
      refl,
      λ (portable, none).
          some_portable value (chars c.comment.result.now) (sym c.has_form.ensures ∙ c.if-has_form.true)
          (rw (← c.comment.ensures) at (sym (spaced_forms value (texts_of c.args.spot) spaced) ∙ none)),
    ))

pub returns-else-has_form : goal.returns-else-has_form
returns-else-has_form c =
    let value = chars c.args.self.now.value.now in
    let spaced : has_white_space (texts_of c.args.spot) ≡ false =
    sym c.has_white_space.ensures ∙ c.if-has_white_space.false in
    inr (inl (
      refl,
      c.if-not-self.false,
      rw spaced refl,
      rw (← c.comment.ensures) (no_portable value (chars c.comment.result.now)
          (sym c.has_form.ensures ∙ c.if-has_form.false)),
    ))
