use Rattle.std.proofs.Common.{◌≡◌, length}
use denote.Text.{Utf8}
use denote.Shadow.{shadow}
use Rattle.std.specs.Str.{chars}
use Rattle.dotenvy_editor.specs.Portable.{has_backslashes}
use Rattle.dotenvy_editor.proofs.portable.has_backslashes.Given as goal

-- what was passed has no two backslashes in a row
abbrev pub invariant-backslashes : goal.invariant-backslashes
invariant-backslashes l = record {
  utf8 : shadow (Utf8 l.rest);
  same : has_backslashes (chars l.rest) ≡ has_backslashes (chars l.fn.value);
}

abbrev pub decreases-backslashes : goal.decreases-backslashes
decreases-backslashes l = length l.rest
