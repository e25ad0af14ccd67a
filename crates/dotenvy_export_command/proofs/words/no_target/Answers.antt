use Rattle.std.proofs.Common.{rules}
use Rattle.std.specs.Prelude.{codes}
use Rattle.clap.specs.Words.{found_of}
use Rattle.dotenvy_words.proofs.FoundValues.{first_by}
use Rattle.dotenvy_export_command.proofs.words.no_target.Goals as goal

pub returns-in_ok-one_line-in-Some : goal.returns-in_ok-one_line-in-Some
returns-in_ok-one_line-in-Some g c =
    let first =
    first_by (found_of c.args.found.now) (codes "target") _ (rw c.in-Some.is at c.get_str.ensures) in
    (c.in-Some.name.now, first, rw first at c.requires, search rules)

pub returns-in-None : goal.returns-in-None
returns-in-None g c =
    first_by (found_of c.args.found.now) (codes "target") _ (rw c.in-None.is at c.get_str.ensures)
