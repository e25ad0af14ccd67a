use Rattle.std.proofs.Common.{◌≤◌, ◌<◌, ◌⊎◌}
use Rattle.dotenvy_base.specs.Source.{Ahead}
use Rattle.dotenvy_lines.specs.Input.{IsTold, AsksReads, input_measure}
use Rattle.dotenvy_lines.proofs.Inputs.{LineSoFar}
use Rattle.dotenvy_lines.proofs.input.Input.skip_line.Given as goal

abbrev pub invariant-skipping : goal.invariant-skipping
invariant-skipping g l =
    (input_measure l.self ≤ input_measure l.fn.self)
    × (0 < l.fn.self.unread → (input_measure l.self < input_measure l.fn.self) ⊎ (0 < l.self.unread))
    × ((a : Ahead) → IsTold l.fn.self.left a → LineSoFar a l.fn.self l.self)
    × AsksReads (Unit {0}) l.fn.self l.self

abbrev pub decreases-skipping : goal.decreases-skipping
decreases-skipping g l = input_measure l.self
