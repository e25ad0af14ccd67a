use Rattle.std.proofs.Common.{◌∙◌, sym, ap}
use Rattle.std.specs.Str.{chars}
use Rattle.dotenvy_format.specs.Characters.{line_feed}
use Rattle.dotenvy_editor.specs.Forms.{is_long}
use Rattle.dotenvy_editor.proofs.SpotEnds.{long_at_feed, long_at_other}
use Rattle.dotenvy_editor.proofs.TextTests.{last_not, stripped}
use Rattle.dotenvy_editor.proofs.spot.is_long.Goals as goal

pub returns-in-Some : goal.returns-in-Some
returns-in-Some c =
    let cut = stripped line_feed c.args.rest.now c.in-Some.before.now c.utf8.rest c.in-Some.ensures.cases in
    c.has.ensures ∙ sym (ap is_long cut.spelled ∙ long_at_feed (chars c.in-Some.before.now))

pub returns-in-None : goal.returns-in-None
returns-in-None c =
    c.has-in-None.ensures
    ∙ sym
    (long_at_other (chars c.args.rest.now) (last_not line_feed c.args.rest.now c.utf8.rest c.in-None.ensures.cases))
