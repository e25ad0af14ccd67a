use Rattle.std.proofs.Common.{◌≡◌, ◌≤◌, ◌++◌, List, ℕ, length}
use denote.Text.{Utf8}
use denote.Shadow.{shadow}
use Rattle.std.specs.Prelude.{string_bytes}
use Rattle.std.specs.String.{string_capacity}
use Rattle.std.specs.Str.{chars}
use Rattle.dotenvy_format.specs.declared.dialect.Dialect.{Dialect}
use Rattle.dotenvy_format.specs.inside.NextPiece.{ReadsTexts}
use Rattle.dotenvy_format.proofs.texts.push_texts.Given as goal

-- the texts so far lead to the rest, and what they mean was appended
abbrev pub invariant-texts : goal.invariant-texts
invariant-texts g l =
    shadow (Utf8 l.rest)
    × ((meant : List ℕ) × (string_bytes l.out ≡ string_bytes l.fn.out ++ meant)
    × (string_capacity l.fn.out ≤ string_capacity l.out)
    × ((dialect : Dialect) → ReadsTexts dialect l.fn.start (chars l.fn.value) meant l.quoting (chars l.rest)))

abbrev pub decreases-texts : goal.decreases-texts
decreases-texts g l = length (chars l.rest)
