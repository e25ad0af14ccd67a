use Rattle.std.proofs.Common.{false, true}
use Rattle.std.specs.Prelude.{option_map, string_bytes}
use Rattle.std.specs.Str.{chars}
use Rattle.dotenvy_editor.specs.Forms.{comment_of, form_text}
use Rattle.dotenvy_editor.specs.inside.Tried.{IsWrittenAlone, may_have, texts_of}
use Rattle.dotenvy_editor.proofs.FoundLines.{form_unfit}
use Rattle.dotenvy_editor.proofs.TriedLines.{fits_ok, may_as}
use Rattle.dotenvy_editor.proofs.writing.Setting.first_fitting.Goals as goal

pub returns-then-fits : goal.returns-then-fits
returns-then-fits g c =
    let may = may_have c.args.self.now.how.is_portable (chars c.args.self.now.value.now)
    (comment_of (chars c.args.spot.rest.now)) c.args.form in
    let form = form_text c.args.form (chars c.args.self.now.value.now) in
    let is =
    may_as c.args.self.now.how.is_portable (chars c.args.self.now.value.now) (chars c.comment.result.now)
    (chars c.args.spot.rest.now) c.args.form c.fits.result true c.comment.ensures c.fits.ensures c.if-fits.true in
    fits_ok c.first_tail.result (option_map string_bytes) (IsWrittenAlone c.args.self.now) (texts_of c.args.spot) may form
    is c.first_tail.ensures

pub returns-else-fits : goal.returns-else-fits
returns-else-fits g c =
    let may = may_have c.args.self.now.how.is_portable (chars c.args.self.now.value.now)
    (comment_of (chars c.args.spot.rest.now)) c.args.form in
    let form = form_text c.args.form (chars c.args.self.now.value.now) in
    let is =
    may_as c.args.self.now.how.is_portable (chars c.args.self.now.value.now) (chars c.comment.result.now)
    (chars c.args.spot.rest.now) c.args.form c.fits.result false c.comment.ensures c.fits.ensures c.if-fits.false in
    form_unfit (IsWrittenAlone c.args.self.now) (texts_of c.args.spot) may form is
