use Rattle.std.proofs.Common.{◌≤◌, []}
use Rattle.dotenvy_base.specs.Source.{Ahead}
use Rattle.dotenvy_lines.specs.Input.{IsTold, AsksReads, Moves, input_measure}
use Rattle.dotenvy_lines.proofs.input.Input.drop_mark.Given as goal

abbrev pub invariant-deciding : goal.invariant-deciding
invariant-deciding g l =
    (input_measure l.self ≤ input_measure l.fn.self)
    × ((a : Ahead) → IsTold l.fn.self.left a → Moves a l.fn.self [] a.bytes l.self)
    × AsksReads (Unit {0}) l.fn.self l.self

abbrev pub decreases-deciding : goal.decreases-deciding
decreases-deciding g l = input_measure l.self
