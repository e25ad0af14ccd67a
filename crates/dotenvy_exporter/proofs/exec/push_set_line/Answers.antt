use Rattle.std.proofs.Common.{append_assoc, refl}
use lib.Utf8.{encode}
use Rattle.dotenvy_exporter.proofs.WrittenBytes.{ok_text, set_bytes}
use Rattle.dotenvy_exporter.proofs.exec.push_set_line.Goals as goal

pub returns : goal.returns
unfolding encode
returns g c =
    ok_text c.push_str-2.result _ _ _ _ c.push_str-2.ensures.bytes
    (rw (
      set_bytes c.args.name.now c.args.value.now,
      c.in_ok-push_value-2.ensures,
      c.in_ok-push.ensures.bytes,
      c.in_ok-push_value.ensures,
      c.in_ok-push_str.ensures.bytes,
    ) (simp append_assoc refl))
