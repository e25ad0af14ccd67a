use Rattle.std.proofs.Common.{[], refl}
use Rattle.dotenvy_editor.proofs.telling.Telling.new.Goals as goal

pub returns-clause-untold : goal.returns-clause-untold
returns-clause-untold g c = record {
  mentions = rw c.new.ensures.items refl;
  stops = rw c.new.ensures.items refl;
  removed = rw c.new.ensures.items refl;
  changed = c.in_ok-add.ensures [] (λ name. rw c.new-changed.ensures refl);
  stop = refl;
}
