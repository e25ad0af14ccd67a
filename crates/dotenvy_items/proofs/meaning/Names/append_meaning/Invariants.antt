use Rattle.std.proofs.Common.{◌≡◌, ◌≤◌, ◌++◌, length}
use denote.Text.{Utf8}
use denote.Shadow.{shadow}
use Rattle.std.specs.Prelude.{string_bytes}
use Rattle.std.specs.String.{string_capacity}
use Rattle.std.specs.Str.{chars, encode_utf8_all}
use Rattle.dotenvy_format.specs.declared.text.Quoting.TheVariants.{Unquoted}
use Rattle.dotenvy_format.specs.Items.{meaning}
use Rattle.dotenvy_format.specs.inside.ReadValue.{base}
use Rattle.dotenvy_format.specs.inside.NextPiece.{IsReadTo}
use Rattle.dotenvy_items.specs.Meaning.{look_up_of}
use Rattle.dotenvy_items.specs.inside.ValuePasses.{IsKnown}
use Rattle.dotenvy_items.proofs.meaning.Names.append_meaning.Given as goal

-- the pieces so far lead to the rest, and their meaning was appended
abbrev pub invariant-pieces : goal.invariant-pieces
invariant-pieces g l =
    shadow (Utf8 l.rest)
    × IsKnown (look_up_of l.self) l.known
    × ((pieces : _) × IsReadTo l.dialect (base Unquoted) (chars l.value.text.now) pieces (base
    l.quoting) (chars l.rest) × (string_bytes l.text
    ≡ string_bytes l.initial.text
    ++ encode_utf8_all (meaning (look_up_of l.self) pieces)) × (string_capacity l.initial.text
    ≤ string_capacity l.text))

abbrev pub decreases-pieces : goal.decreases-pieces
decreases-pieces g l = length (chars l.rest)
