use Rattle.std.proofs.Common.{◌∙◌, ◌∷◌, ◌++◌, [], ap, sym}
use Rattle.std.specs.Str.{chars}
use Rattle.std.proofs.lemmas.List.{append_assoc}
use Rattle.dotenvy_format.specs.Characters.{carriage_return, line_feed}
use Rattle.dotenvy_editor.specs.Portable.{without_end}
use Rattle.dotenvy_editor.proofs.TextTests.{last_not, stripped}
use Rattle.dotenvy_editor.proofs.WhiteSpaces.{end_feed, end_none, end_return}
use Rattle.dotenvy_editor.proofs.portable.without_end.Goals as goal

pub returns-in-Some-strip_suffix : goal.returns-in-Some-strip_suffix
returns-in-Some-strip_suffix c =
    let line = stripped line_feed c.args.text.now c.in-Some.line.now c.utf8.text c.in-Some.ensures.cases in
    let before =
    stripped carriage_return c.in-Some.line.now c.in-Some-strip_suffix.before.now line.utf8
    c.in-Some-strip_suffix.ensures.cases in
    sym
    (ap without_end line.spelled
    ∙ ap (λ cs. without_end (cs ++ line_feed ∷ [])) before.spelled
    ∙ ap without_end (append_assoc (chars c.in-Some-strip_suffix.before.now) (carriage_return ∷ []) (line_feed ∷ []))
    ∙ end_return (chars c.in-Some-strip_suffix.before.now))

pub returns-in-None-strip_suffix : goal.returns-in-None-strip_suffix
returns-in-None-strip_suffix c =
    let line = stripped line_feed c.args.text.now c.in-Some.line.now c.utf8.text c.in-Some.ensures.cases in
    sym
    (ap without_end line.spelled
    ∙ end_feed (chars c.in-Some.line.now)
    (last_not carriage_return c.in-Some.line.now line.utf8 c.in-None-strip_suffix.ensures.cases))

pub returns-in-None : goal.returns-in-None
returns-in-None c =
    sym
    (end_none (chars c.args.text.now)
    (last_not line_feed c.args.text.now c.utf8.text c.in-None.ensures.cases))
