use Rattle.std.proofs.Common.{◌≡◌, ◌++◌, length}
use denote.Text.{Utf8}
use denote.Shadow.{shadow}
use Rattle.std.specs.Prelude.{string_bytes}
use Rattle.std.specs.Str.{chars}
use Rattle.dotenvy_editor.proofs.FormBytes.{left_bytes}
use Rattle.dotenvy_editor.proofs.forms.push_escaped.Given as goal

-- with what is left of the value it is whole
abbrev pub invariant-characters : goal.invariant-characters
invariant-characters g l = record {
  utf8 : shadow (Utf8 l.rest);
  whole :
      string_bytes l.out ++ left_bytes l.fn.is_one_line (chars l.rest)
      ≡ string_bytes l.fn.out ++ left_bytes l.fn.is_one_line (chars l.fn.value);
}

abbrev pub decreases-characters : goal.decreases-characters
decreases-characters g l = length l.rest
