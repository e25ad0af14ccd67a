use Rattle.std.proofs.Common.{drop}
use Rattle.dotenvy_c.specs.Warnings.{edit_bytes, edit_warnings}
use Rattle.dotenvy_c.proofs.Warned.{ToldSoFar}
use Rattle.dotenvy_c.proofs.warnings.told_file.Given as goal

-- with the warnings that are left, all are told
abbrev pub invariant-warnings : goal.invariant-warnings
invariant-warnings l =
    ToldSoFar (drop l.warning-index l.warning-items) l.bytes.items (edit_bytes l.fn.edited) l.warnings.items
    (edit_warnings l.fn.edited)
