use Rattle.std.proofs.Common.{rules}
use Rattle.std.specs.Prelude.{codes}
use Rattle.clap.specs.Words.{found_of}
use Rattle.dotenvy_words.proofs.FoundValues.{first_by}
use Rattle.dotenvy_export_command.proofs.options.target.Goals as goal

pub returns-in-Some : goal.returns-in-Some
returns-in-Some c =
    rw (first_by (found_of c.args.found.now) (codes "target") _ (rw c.in-Some.is at c.get_str.ensures)) (search rules)

pub returns-in-None : goal.returns-in-None
returns-in-None c =
    rw (first_by (found_of c.args.found.now) (codes "target") _ (rw c.in-None.is at c.get_str.ensures)) (search rules)
