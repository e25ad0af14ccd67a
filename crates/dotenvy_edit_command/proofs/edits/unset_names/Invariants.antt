use Rattle.std.proofs.Common.{◌≤◌, ◌-◌, ◌++◌, List, [], ℕ, drop, length, string_bytes, take}
use Rattle.clap.specs.Words.{Text}
use Rattle.dotenvy_words.specs.Found.{texts}
use Rattle.dotenvy_edit_command.specs.Edited.{RefusesEach, UnsetsEach, bytes_of, each_once}
use Rattle.dotenvy_edit_command.specs.declared.failure.Failure.{Failure}
use Rattle.dotenvy_edit_command.proofs.UnsetNames.{Keeps}
use Rattle.dotenvy_edit_command.proofs.edits.unset_names.Given as goal

-- what is made of the names that are left, behind what was made of the others, is made of all; and these can be unset
-- still in what is left of the file
abbrev pub invariant-names : goal.invariant-names
invariant-names g l = record {
  inside : l.index ≤ length l.names;
  made : (new : List ℕ) (said : Text) →
      UnsetsEach g.row.A.Denot l.old.how (string_bytes l.old.file) (bytes_of l.old.bytes)
      (each_once (texts (take l.index l.names)) (texts (drop l.index l.names))) l.all.bytes.items new said →
      UnsetsEach g.row.A.Denot l.old.how (string_bytes l.old.file) (bytes_of l.old.bytes)
      (each_once [] (texts l.names)) (bytes_of l.old.bytes) new (string_bytes l.all.said ++ said);
  refused : (failed : Failure g.row.A.Denot) →
      RefusesEach l.old.how (string_bytes l.old.file) (bytes_of l.old.bytes)
      (each_once (texts (take l.index l.names)) (texts (drop l.index l.names))) failed →
      RefusesEach l.old.how (string_bytes l.old.file) (bytes_of l.old.bytes)
      (each_once [] (texts l.names)) failed;
  keeps : Keeps l.old.how.dialect (bytes_of l.old.bytes) (texts (take l.index l.names)) l.all.bytes.items;
}

abbrev pub decreases-names : goal.decreases-names
decreases-names g l = length l.names - l.index
