use Rattle.std.proofs.Common.{◌≡◌, ◌++◌, drop, map, string_bytes}
use Rattle.std.specs.Str.{chars}
use Rattle.dotenvy_words.specs.Found.{texts}
use Rattle.dotenvy_export_command.specs.Exports.{warnings}
use Rattle.dotenvy_export_command.proofs.export.warnings.Given as goal

-- what is there, and what is said of the names that are left, is all
abbrev pub invariant-names : goal.invariant-names
invariant-names g l =
    string_bytes l.text ++ warnings (map chars (texts (drop l.name-index l.names)))
    ≡ warnings (map chars (texts l.names))
