use Rattle.std.proofs.Common.{append_assoc}
use Rattle.dotenvy_editor.proofs.FoundLines.{spot_bytes}
use Rattle.dotenvy_editor.proofs.candidates.joined.Goals as goal

pub returns : goal.returns
returns g c =
    rw (
      spot_bytes c.args.first.now c.args.second.now c.args.third.now c.utf8.first c.utf8.second c.utf8.third,
      c.in_ok-push_str-2.ensures.bytes,
      c.in_ok-push_str.ensures.bytes,
      c.in_ok-text.ensures.ok,
    ) (append_assoc c.args.first.now c.args.second.now c.args.third.now)
