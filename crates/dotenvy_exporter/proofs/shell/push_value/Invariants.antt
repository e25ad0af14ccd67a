use Rattle.std.proofs.Common.{◌≡◌, ◌++◌, length}
use denote.Text.{Utf8}
use denote.Shadow.{shadow}
use Rattle.std.specs.Prelude.{string_bytes}
use Rattle.std.specs.Str.{chars}
use Rattle.dotenvy_exporter.proofs.ShellBytes.{left_bytes}
use Rattle.dotenvy_exporter.proofs.shell.push_value.Given as goal

-- with what is left of the value it is whole
abbrev pub invariant-parts : goal.invariant-parts
invariant-parts g l = record {
  utf8 : shadow (Utf8 l.rest);
  whole : string_bytes l.out ++ left_bytes (chars l.rest) ≡ string_bytes l.fn.out ++ left_bytes (chars l.fn.value);
}

abbrev pub decreases-parts : goal.decreases-parts
decreases-parts g l = length l.rest
