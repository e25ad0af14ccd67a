use Rattle.std.proofs.Common.{◌≡◌, drop}
use Rattle.dotenvy_words.specs.Found.{texts}
use Rattle.dotenvy_edit_command.specs.Edited.{is_among}
use Rattle.dotenvy_edit_command.proofs.edits.is_among.Given as goal

-- the name is none of the names so far
abbrev pub invariant-names : goal.invariant-names
invariant-names g l =
    is_among (texts l.names) l.name ≡ is_among (texts (drop l.other-index l.names)) l.name
