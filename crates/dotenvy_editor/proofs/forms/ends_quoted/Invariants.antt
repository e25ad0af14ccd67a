use Rattle.std.proofs.Common.{◌≡◌, length}
use denote.Text.{Utf8}
use denote.Shadow.{shadow}
use Rattle.std.specs.Str.{chars}
use Rattle.dotenvy_editor.specs.Forms.{closes}
use Rattle.dotenvy_editor.proofs.forms.ends_quoted.Given as goal

-- what was passed is inside the quotes
abbrev pub invariant-quoted : goal.invariant-quoted
invariant-quoted l = record {
  utf8 : shadow (Utf8 l.rest);
  same : closes l.fn.quote (chars l.rest) ≡ closes l.fn.quote (chars l.fn.after);
}

abbrev pub decreases-quoted : goal.decreases-quoted
decreases-quoted l = length l.rest
