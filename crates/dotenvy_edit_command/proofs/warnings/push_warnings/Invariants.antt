use Rattle.std.proofs.Common.{◌≡◌, ◌++◌, drop, string_bytes}
use Rattle.dotenvy_edit_command.specs.Warnings.{warning_lines}
use Rattle.dotenvy_edit_command.proofs.warnings.push_warnings.Given as goal

-- what is there, and what is said of the warnings that are left, is what there will be
abbrev pub invariant-warnings : goal.invariant-warnings
invariant-warnings g l =
    string_bytes l.text ++ warning_lines l.file l.name (drop l.warning-index l.warnings)
    ≡ string_bytes l.initial.text ++ warning_lines l.file l.name l.warnings
