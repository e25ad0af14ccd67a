use Rattle.std.proofs.Common.{◌≡◌, ◌++◌, length}
use denote.Text.{Utf8}
use denote.Shadow.{shadow}
use Rattle.std.specs.Prelude.{string_bytes}
use Rattle.std.specs.Str.{chars}
use Rattle.dotenvy_reports.specs.Github.{command_text}
use Rattle.dotenvy_reports.proofs.github.push_escaped.Given as goal

-- with what is left of it the text is escaped whole
abbrev pub invariant-characters : goal.invariant-characters
invariant-characters g l = record {
  utf8 : shadow (Utf8 l.rest);
  whole :
      string_bytes l.text ++ command_text l.fn.is_property l.rest
      ≡ string_bytes l.fn.text ++ command_text l.fn.is_property l.fn.added;
}

abbrev pub decreases-characters : goal.decreases-characters
decreases-characters g l = length (chars l.rest)
