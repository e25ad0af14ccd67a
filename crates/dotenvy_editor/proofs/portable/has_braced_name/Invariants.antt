use Rattle.std.proofs.Common.{◌≡◌, length}
use denote.Text.{Utf8}
use denote.Shadow.{shadow}
use Rattle.std.specs.Str.{chars}
use Rattle.dotenvy_editor.specs.Portable.{has_braced_name}
use Rattle.dotenvy_editor.proofs.portable.has_braced_name.Given as goal

-- what was passed has no dollar before braces
abbrev pub invariant-dollars : goal.invariant-dollars
invariant-dollars l = record {
  utf8 : shadow (Utf8 l.rest);
  same : has_braced_name (chars l.rest) ≡ has_braced_name (chars l.fn.value);
}

abbrev pub decreases-dollars : goal.decreases-dollars
decreases-dollars l = length l.rest
