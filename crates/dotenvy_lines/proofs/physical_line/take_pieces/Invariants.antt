use Rattle.std.proofs.Common.{◌≤◌, ◌<◌, ◌⊎◌, string_bytes}
use Rattle.std.specs.Str.{chars}
use Rattle.dotenvy_base.specs.Source.{Ahead}
use Rattle.dotenvy_lines.specs.Input.{IsTold, AsksReads, input_measure}
use Rattle.dotenvy_lines.proofs.TakenLines.{InLine}
use Rattle.dotenvy_lines.proofs.physical_line.take_pieces.Given as goal

abbrev pub invariant-pieces : goal.invariant-pieces
invariant-pieces g l =
    (input_measure l.input ≤ input_measure l.fn.input)
    × ((input_measure l.input < input_measure l.fn.input) ⊎ (0 < l.input.unread))
    × ((a : Ahead) → IsTold l.fn.input.left a →
    InLine l.fn.mode (chars (string_bytes l.fn.text)) a l.fn.input l.progress (chars (string_bytes l.text)) l.input)
    × AsksReads (Unit {0}) l.fn.input l.input

abbrev pub decreases-pieces : goal.decreases-pieces
decreases-pieces g l = input_measure l.input
