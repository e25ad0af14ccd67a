use Rattle.std.proofs.Common.{◌∙◌, sym, ap}
use Rattle.std.specs.Str.{chars}
use Rattle.std.proofs.lemmas.Str.{chars-nil}
use Rattle.dotenvy_editor.proofs.SpotEnds.{comment_found, comment_none}
use Rattle.dotenvy_editor.proofs.spot.comment_of.Goals as goal

pub returns-in-Some : goal.returns-in-Some
returns-in-Some c =
    ap chars c.split_at.ensures.back
    ∙ comment_found c.args.rest.now c.in-Some.place c.utf8.rest c.in-Some.ensures.cases

pub returns-in-None : goal.returns-in-None
returns-in-None c = chars-nil ∙ sym (comment_none c.args.rest.now c.utf8.rest c.in-None.ensures.cases)
