use Rattle.std.proofs.Common.{List, length}
use denote.Text.{Utf8}
use denote.Shadow.{shadow}
use Rattle.std.specs.Str.{chars}
use Rattle.dotenvy.specs.Value.{Piece}
use Rattle.dotenvy_format.specs.declared.text.Quoting.TheVariants.{Unquoted}
use Rattle.dotenvy_format.specs.inside.ReadValue.{base}
use Rattle.dotenvy_format.specs.inside.NextPiece.{IsReadTo}
use Rattle.dotenvy_editor.proofs.PieceReadings.{BeginsMeant}
use Rattle.dotenvy_editor.proofs.values.means.Given as goal

-- the pieces so far lead to the rest, and mean the text up to what is left of it
abbrev pub invariant-pieces : goal.invariant-pieces
invariant-pieces l =
    shadow (Utf8 l.rest)
    × ((pieces : List Piece)
    × IsReadTo l.dialect (base Unquoted) (chars l.assigned) pieces (base l.quoting) (chars l.rest)
    × BeginsMeant l.text pieces l.left)

abbrev pub decreases-pieces : goal.decreases-pieces
decreases-pieces l = length (chars l.rest)
