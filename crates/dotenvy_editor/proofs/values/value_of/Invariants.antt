use Rattle.std.proofs.Common.{◌≡◌, ℕ, List, length}
use denote.Text.{Utf8}
use denote.Shadow.{shadow}
use Rattle.std.specs.List.{list_any}
use Rattle.std.specs.Str.{chars}
use Rattle.dotenvy.specs.Value.{Piece}
use Rattle.dotenvy_format.specs.declared.text.Quoting.TheVariants.{Unquoted}
use Rattle.dotenvy_format.specs.inside.ReadValue.{base}
use Rattle.dotenvy_format.specs.inside.NextPiece.{IsReadTo}
use Rattle.dotenvy_editor.specs.Told.{AreNames}
use Rattle.dotenvy_editor.specs.Warnings.{has_nul, mention}
use Rattle.dotenvy_editor.proofs.values.value_of.Given as goal

-- the pieces so far lead to the rest, and were asked
abbrev pub invariant-pieces : goal.invariant-pieces
invariant-pieces g l =
    shadow (Utf8 l.rest)
    × ((pieces : List Piece)
    × IsReadTo l.dialect (base Unquoted) (chars l.assigned) pieces (base l.quoting) (chars l.rest)
    × (l.nul ≡ list_any has_nul pieces)
    × ((names : List (List ℕ)) → AreNames l.names names → l.mentioned ≡ mention names pieces))

abbrev pub decreases-pieces : goal.decreases-pieces
decreases-pieces g l = length (chars l.rest)
