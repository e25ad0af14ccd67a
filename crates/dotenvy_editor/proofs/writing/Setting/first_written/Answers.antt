use Rattle.std.proofs.Common.{◌∙◌, sym}
use Rattle.std.specs.Prelude.{Some, option_map, string_bytes}
use Rattle.std.specs.Str.{chars}
use Rattle.dotenvy_editor.specs.Assignments.{spot_text}
use Rattle.dotenvy_editor.specs.Forms.{old_forms, plain_forms}
use Rattle.dotenvy_editor.specs.inside.Tried.{IsWrittenAlone, texts_of}
use Rattle.dotenvy_editor.proofs.FoundLines.{kept_failed, kept_first}
use Rattle.dotenvy_editor.proofs.TriedLines.{if_ok, writes_found, writes_portable}
use Rattle.dotenvy_editor.proofs.writing.Setting.first_written.Goals as goal

pub returns-then-self : goal.returns-then-self
returns-then-self g c =
    if_ok c.first_form.result _ _ c.first_form.ensures
    (λ found h.
    writes_portable c.args.self.now (texts_of c.args.spot) (option_map string_bytes found) c.if-self.true
    (sym c.has_white_space.ensures ∙ c.if-has_white_space.false) (rw c.if-self.true at h))

pub returns-in-Some : goal.returns-in-Some
returns-in-Some g c =
    writes_found c.args.self.now (texts_of c.args.spot) (Some (string_bytes c.in-Some.line))
    (rw c.if-self.false (kept_first (IsWrittenAlone c.args.self.now) (texts_of c.args.spot)
    (spot_text (texts_of c.args.spot)) (old_forms (chars c.args.spot.old.now) (chars c.args.self.now.value.now))
    (plain_forms (chars c.args.self.now.value.now)) (string_bytes c.in-Some.line)
    (rw c.in-Some.is at c.in_ok-line.ensures)))

pub returns-in-None : goal.returns-in-None
returns-in-None g c =
    if_ok c.first_form-in-None.result _ _ c.first_form-in-None.ensures
    (λ found h.
    writes_found c.args.self.now (texts_of c.args.spot) (option_map string_bytes found)
    (rw c.if-self.false (kept_failed (IsWrittenAlone c.args.self.now) (texts_of c.args.spot)
    (spot_text (texts_of c.args.spot)) (old_forms (chars c.args.spot.old.now) (chars c.args.self.now.value.now))
    (plain_forms (chars c.args.self.now.value.now)) (option_map string_bytes found)
    (rw c.in-None.is at c.in_ok-line.ensures) (rw c.if-self.false at h))))
