use Rattle.std.proofs.Common.{append_assoc, refl}
use lib.Utf8.{encode}
use Rattle.std.specs.List.{flat_map}
use Rattle.std.specs.Str.{chars}
use Rattle.std.proofs.lemmas.Str.{encodes-append}
use Rattle.dotenvy_editor.specs.inside.Tried.{double_character}
use Rattle.dotenvy_editor.proofs.FormBytes.{ok_text}
use Rattle.dotenvy_editor.proofs.forms.push_double.Goals as goal

pub returns : goal.returns
unfolding encode
returns g c =
    ok_text c.push-2.result _ _ _ _ c.push-2.ensures.bytes
    (rw (
      encodes-append (flat_map (double_character c.args.is_one_line) (chars c.args.value.now)),
      c.in_ok-push_escaped.ensures,
      c.in_ok-push.ensures.bytes,
    ) (simp append_assoc refl))
