use Rattle.std.proofs.Common.{◌≢◌, ◌≤◌, ◌<◌, [], string_bytes}
use Rattle.std.specs.Str.{chars}
use Rattle.dotenvy_base.specs.Source.{Ahead}
use Rattle.dotenvy_lines.specs.Input.{AsksReads, IsTold, input_measure}
use Rattle.dotenvy_lines.proofs.LineJoins.{Joining}
use Rattle.dotenvy_lines.proofs.lines.join_lines.Given as goal

abbrev pub invariant-joining : goal.invariant-joining
invariant-joining g l =
    (input_measure l.input ≤ input_measure l.fn.input)
    × (string_bytes l.text ≢ [] → input_measure l.input < input_measure l.fn.input)
    × ((a : Ahead) → IsTold l.fn.input.left a →
    Joining a l.fn.input l.fn.lines_taken (chars (string_bytes l.text)) l.mode l.input l.lines_taken)
    × AsksReads (Unit {0}) l.fn.input l.input

abbrev pub decreases-joining : goal.decreases-joining
decreases-joining g l = input_measure l.input
