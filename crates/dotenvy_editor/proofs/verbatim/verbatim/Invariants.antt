use Rattle.std.proofs.Common.{◌≡◌, ◌++◌, length}
use denote.Text.{Utf8}
use denote.Shadow.{shadow}
use Rattle.std.specs.Prelude.{string_bytes}
use Rattle.std.specs.Str.{chars, encode_utf8_all}
use Rattle.dotenvy_format.specs.declared.text.Quoting.TheVariants.{Unquoted}
use Rattle.dotenvy_editor.specs.declared.tail.Reading.TheVariants.{Base}
use Rattle.dotenvy_editor.specs.inside.VerbatimReading.{verbatim}
use Rattle.dotenvy_editor.proofs.verbatim.verbatim.Given as goal

-- with what the rest gives, the text is that of the value
abbrev pub invariant-characters : goal.invariant-characters
invariant-characters g l =
    shadow (Utf8 l.rest)
    × (string_bytes l.text ++ encode_utf8_all (verbatim l.dialect l.reading (chars l.rest))
    ≡ encode_utf8_all (verbatim l.dialect (Base Unquoted) (chars l.value)))

abbrev pub decreases-characters : goal.decreases-characters
decreases-characters g l = length l.rest
