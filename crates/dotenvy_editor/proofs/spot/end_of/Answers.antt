use Rattle.std.proofs.Common.{◌∙◌, sym, ap}
use Rattle.std.specs.Str.{chars}
use Rattle.dotenvy_format.specs.Characters.{line_feed}
use Rattle.dotenvy_editor.specs.Forms.{end_of}
use Rattle.dotenvy_editor.proofs.SpotEnds.{end_at_feed, end_at_other, feed_text, return_feed_text, return_text}
use Rattle.dotenvy_editor.proofs.SpotEnds.{end_picked, end_picked_other}
use Rattle.dotenvy_editor.proofs.TextTests.{last_not, stripped}
use Rattle.std.proofs.lemmas.Str.{chars-nil}
use Rattle.dotenvy_editor.proofs.spot.end_of.Goals as goal

pub returns-in-Some : goal.returns-in-Some
returns-in-Some c =
    let cut = stripped line_feed c.args.rest.now c.in-Some.before.now c.utf8.rest c.in-Some.ensures.cases in
    return_feed_text
    ∙ sym
    (ap end_of cut.spelled
    ∙ end_at_feed (chars c.in-Some.before.now)
    ∙ ap end_picked (sym c.if-ends_in.ensures))

pub returns-in-Some-2 : goal.returns-in-Some-2
returns-in-Some-2 c =
    let cut = stripped line_feed c.args.rest.now c.in-Some.before.now c.utf8.rest c.in-Some.ensures.cases in
    feed_text
    ∙ sym
    (ap end_of cut.spelled
    ∙ end_at_feed (chars c.in-Some.before.now)
    ∙ ap end_picked (sym c.if-ends_in.ensures))

pub returns-in-None : goal.returns-in-None
returns-in-None c =
    return_text
    ∙ sym
    (end_at_other (chars c.args.rest.now) (last_not line_feed c.args.rest.now c.utf8.rest c.in-None.ensures.cases)
    ∙ ap end_picked_other (sym c.if-ends_in-2.ensures))

pub returns-in-None-2 : goal.returns-in-None-2
returns-in-None-2 c =
    chars-nil
    ∙ sym
    (end_at_other (chars c.args.rest.now) (last_not line_feed c.args.rest.now c.utf8.rest c.in-None.ensures.cases)
    ∙ ap end_picked_other (sym c.if-ends_in-2.ensures))
