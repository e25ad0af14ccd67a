use Rattle.std.proofs.Common.{◌≡◌, false, is_some}
use Rattle.dotenvy_edit_command.proofs.file.RealFileReplaceable.make.Given as goal

-- no new file is made yet
abbrev pub invariant-names : goal.invariant-names
invariant-names g l = is_some l.self.beside ≡ false
