use Rattle.std.proofs.Common.{◌≡◌, length}
use denote.Text.{Utf8}
use denote.Shadow.{shadow}
use Rattle.std.specs.Str.{chars}
use Rattle.dotenvy_editor.specs.Warnings.{has_dollar_name}
use Rattle.dotenvy_editor.proofs.forms.has_name.Given as goal

-- what was passed has no dollar before a name
abbrev pub invariant-dollars : goal.invariant-dollars
invariant-dollars l = record {
  utf8 : shadow (Utf8 l.rest);
  same : has_dollar_name l.fn.dialect (chars l.rest) ≡ has_dollar_name l.fn.dialect (chars l.fn.value);
}

abbrev pub decreases-dollars : goal.decreases-dollars
decreases-dollars l = length l.rest
