use Rattle.std.proofs.Common.{append_assoc, refl}
use lib.Utf8.{encode}
use Rattle.std.specs.Str.{chars}
use Rattle.std.proofs.lemmas.Str.{encodes-append, encodes-chars}
use Rattle.dotenvy_editor.proofs.FormBytes.{ok_text}
use Rattle.dotenvy_editor.proofs.forms.push_form.Goals as goal

pub returns-in-Plain : goal.returns-in-Plain
returns-in-Plain g c =
    ok_text c.push_str.result _ _ _ _ c.push_str.ensures.bytes
    (rw (c.in-Plain.is, encodes-chars c.args.value.now c.utf8.value) refl)

pub returns-in_ok-push_str-in-Single : goal.returns-in_ok-push_str-in-Single
unfolding encode
returns-in_ok-push_str-in-Single g c =
    ok_text c.push-in-Single.result _ _ _ _ c.push-in-Single.ensures.bytes
    (rw (
      c.in-Single.is,
      encodes-append (chars c.args.value.now),
      encodes-chars c.args.value.now c.utf8.value,
      c.in_ok-push_str-in-Single.ensures.bytes,
      c.in_ok-push-in-Single.ensures.bytes,
    ) (simp append_assoc refl))
