use Rattle.std.proofs.Common.{ap, inr, length, refl, sym}
use Rattle.std.specs.Str.{chars}
use Rattle.std.proofs.lemmas.Str.{encodes-chars}
use Rattle.dotenvy_editor.proofs.spot.old_len.Goals as goal

pub returns-in-None : goal.returns-in-None
returns-in-None c =
    λ dialect tells.
    let none = rw c.in-None.is at tells in (
      chars c.args.assigned.now,
      inr (inr (none.0, none.1, refl)),
      ap length (sym (encodes-chars c.args.assigned.now c.utf8.assigned)),
    )
