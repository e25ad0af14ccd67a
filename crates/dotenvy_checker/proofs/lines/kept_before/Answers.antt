use Rattle.std.proofs.Common.{lit<, ◌∙◌, refl}
use Rattle.std.specs.Str.{chars}
use Rattle.std.proofs.lemmas.Str.Pattern.{strip_suffix_char}
use Rattle.dotenvy_format.proofs.lines.LineTexts.{chars_no_return, kept_at_line_feed}
use Rattle.dotenvy_checker.proofs.Parts.{return_dropped}
use Rattle.dotenvy_checker.proofs.lines.kept_before.Goals as goal

pub returns-in-Some : goal.returns-in-Some
returns-in-Some c =
    let strips = strip_suffix_char 13 c.args.text.now c.strip_suffix.result c.strip_suffix.ensures.cases (lit< tt) in
    return_dropped c.args.text.now c.in-Some.kept.now c.utf8.text (rw c.in-Some.is at strips)
    ∙ kept_at_line_feed c.args.end (chars c.args.text.now) (rw c.if-end-ne10.false refl)

pub returns-in-None : goal.returns-in-None
returns-in-None c =
    let strips = strip_suffix_char 13 c.args.text.now c.strip_suffix.result c.strip_suffix.ensures.cases (lit< tt) in
    chars_no_return c.args.text.now c.utf8.text (rw c.in-None.is at strips)
    ∙ kept_at_line_feed c.args.end (chars c.args.text.now) (rw c.if-end-ne10.false refl)
