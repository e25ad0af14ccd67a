use Rattle.std.proofs.Common.{◌≡◌, ◌++◌, drop}
use Rattle.dotenvy_edit_command.specs.Diffs.{marked, texts}
use Rattle.dotenvy_edit_command.proofs.diff.push_lines.Given as goal

-- what is there, and the lines that are left, are what there will be
abbrev pub invariant-lines : goal.invariant-lines
invariant-lines g l =
    l.text.items ++ marked l.sign (texts (drop l.line-index l.lines))
    ≡ l.initial.text.items ++ marked l.sign (texts l.lines)
