use Rattle.std.proofs.Common.{◌≡◌, ◌++◌, map}
use Rattle.std.specs.Prelude.{filter}
use Rattle.std.specs.FinMap as fin
use Rattle.std.specs.Str.{chars}
use Rattle.dotenvy_base.specs.Environment.{pair_ok, text_entries}
use Rattle.dotenvy_words.specs.Found.{texts}
use Rattle.dotenvy_export_command.proofs.KeptPairs.{is_kept, left_of}
use Rattle.dotenvy_export_command.proofs.export.without_reserved.Given as goal

-- with the pairs that are left, all that are kept are there, and all names that are left out
abbrev pub invariant-pairs : goal.invariant-pairs
invariant-pairs g l = record {
  good : filter pair_ok (text_entries l.pairs.items) ≡ text_entries l.pairs.items;
  kept : text_entries l.pairs.items ++ filter (is_kept l.how.target) l.name-iterator
      ≡ filter (is_kept l.how.target) (fin.entries l.fn.env.names);
  left_out : map chars (texts l.left_out.items) ++ left_of l.how.target l.name-iterator
      ≡ left_of l.how.target (fin.entries l.fn.env.names);
}
