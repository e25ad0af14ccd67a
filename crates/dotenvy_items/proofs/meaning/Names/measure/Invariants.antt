use Rattle.std.proofs.Common.{◌≡◌, length}
use denote.Text.{Utf8}
use denote.Shadow.{shadow}
use Rattle.std.specs.Str.{chars}
use Rattle.dotenvy_format.specs.declared.text.Quoting.TheVariants.{Unquoted}
use Rattle.dotenvy_format.specs.Characters.{byte_len}
use Rattle.dotenvy_format.specs.Items.{meaning}
use Rattle.dotenvy_format.specs.inside.ReadValue.{base}
use Rattle.dotenvy_format.specs.inside.NextPiece.{IsReadTo}
use Rattle.dotenvy_items.specs.Meaning.{look_up_of}
use Rattle.dotenvy_items.specs.inside.ValuePasses.{saturated, IsKnown}
use Rattle.dotenvy_items.proofs.meaning.Names.measure.Given as goal

-- the pieces so far lead to the rest, and what they mean is known
abbrev pub invariant-pieces : goal.invariant-pieces
invariant-pieces g l =
    let look_up = look_up_of l.self in
    shadow (Utf8 l.rest)
    × ((pieces : _) × IsReadTo l.dialect (base Unquoted) (chars l.value) pieces (base
    l.quoting) (chars l.rest) × (l.len ≡ saturated (byte_len (meaning look_up pieces)))
    × IsKnown look_up l.known)

abbrev pub decreases-pieces : goal.decreases-pieces
decreases-pieces g l = length (chars l.rest)
