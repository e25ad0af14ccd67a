use Rattle.std.proofs.Common.{◌≡◌, ◌-◌, List, ℕ, length, min}
use Rattle.std.specs.Prelude.{◌^◌}
use denote.Text.{Utf8}
use denote.Shadow.{shadow}
use Rattle.std.specs.Str.{chars}
use Rattle.dotenvy_format.specs.declared.dialect.Dialect.{Dialect}
use Rattle.dotenvy_format.specs.inside.NextPiece.{ReadsTexts}
use Rattle.dotenvy_format.proofs.texts.measure_texts.Given as goal

-- the texts so far lead to the rest, and what they mean is measured
abbrev pub invariant-texts : goal.invariant-texts
invariant-texts l =
    shadow (Utf8 l.rest)
    × ((meant : List ℕ) × (l.len ≡ min (length meant) (2 ^ 64 - 1))
    × ((dialect : Dialect) → ReadsTexts dialect l.fn.start (chars l.fn.value) meant l.quoting (chars l.rest)))

abbrev pub decreases-texts : goal.decreases-texts
decreases-texts l = length (chars l.rest)
