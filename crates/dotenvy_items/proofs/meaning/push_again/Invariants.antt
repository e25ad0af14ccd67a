use Rattle.std.proofs.Common.{◌≡◌, ◌≤◌, ◌++◌, suc}
use Rattle.std.specs.Prelude.{string_bytes}
use Rattle.std.specs.String.{string_capacity}
use Rattle.dotenvy_format.specs.inside.NextPiece.{times}
use Rattle.dotenvy_items.proofs.meaning.push_again.Given as goal

-- what was pushed, and what is left to push, is all of it
abbrev pub invariant-pushes : goal.invariant-pushes
invariant-pushes g l =
    (string_bytes l.text ++ times l.left l.fn.meant ≡ string_bytes l.fn.text ++ times (suc l.fn.more) l.fn.meant)
    × (string_capacity l.fn.text ≤ string_capacity l.text)

abbrev pub decreases-pushes : goal.decreases-pushes
decreases-pushes g l = l.left
