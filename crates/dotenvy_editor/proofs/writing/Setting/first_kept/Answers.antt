use Rattle.std.specs.Prelude.{option_map, string_bytes}
use Rattle.std.specs.Str.{chars}
use Rattle.std.proofs.lemmas.Result.{IfOk-weaker}
use Rattle.dotenvy_editor.specs.Assignments.{spot_text}
use Rattle.dotenvy_editor.specs.Forms.{form_text, old_forms}
use Rattle.dotenvy_editor.specs.inside.Tried.{IsWrittenAlone, texts_of}
use Rattle.dotenvy_editor.proofs.TriedLines.{kept_as_is, kept_bare, kept_quoted}
use Rattle.dotenvy_editor.proofs.writing.Setting.first_kept.Goals as goal

pub returns-in-Some : goal.returns-in-Some
returns-in-Some g c =
    kept_as_is (IsWrittenAlone c.args.self.now) (texts_of c.args.spot) (spot_text (texts_of c.args.spot))
    (old_forms (chars c.args.spot.old.now) (chars c.args.self.now.value.now)) _
    (rw c.in-Some.is at c.in_ok-line.ensures)

pub returns-in-Some-old_quotes : goal.returns-in-Some-old_quotes
returns-in-Some-old_quotes g c =
    IfOk-weaker c.first_tail.result _ _
    (λ found h.
    kept_quoted (IsWrittenAlone c.args.self.now) (texts_of c.args.spot) (spot_text (texts_of c.args.spot))
    (old_forms (chars c.args.spot.old.now) (chars c.args.self.now.value.now))
    (form_text c.in-Some-old_quotes.form (chars c.args.self.now.value.now)) (option_map string_bytes found)
    c.in-Some-old_quotes.ensures (rw c.in_default.is at c.in_ok-line.ensures) h) c.first_tail.ensures

pub returns-in-None : goal.returns-in-None
returns-in-None g c =
    kept_bare (IsWrittenAlone c.args.self.now) (texts_of c.args.spot) (spot_text (texts_of c.args.spot))
    (old_forms (chars c.args.spot.old.now) (chars c.args.self.now.value.now)) c.in-None.ensures
    (rw c.in_default.is at c.in_ok-line.ensures)
