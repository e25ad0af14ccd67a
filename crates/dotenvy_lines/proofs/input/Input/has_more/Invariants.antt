use Rattle.std.proofs.Common.{◌≡◌, ◌≤◌, true, []}
use Rattle.dotenvy_base.specs.Source.{Ahead}
use Rattle.dotenvy_lines.specs.Input.{IsTold, AsksReads, Moves, input_measure}
use Rattle.dotenvy_lines.proofs.input.Input.has_more.Given as goal

abbrev pub invariant-waiting : goal.invariant-waiting
invariant-waiting g l =
    (input_measure l.self ≤ input_measure l.fn.self)
    × ((a : Ahead) → IsTold l.fn.self.left a → Moves a l.fn.self [] a.bytes l.self)
    × AsksReads (Unit {0}) l.fn.self l.self
    × (l.fn.self.at_end ≡ true → l.self ≡ l.fn.self)

abbrev pub decreases-waiting : goal.decreases-waiting
decreases-waiting g l = input_measure l.self
