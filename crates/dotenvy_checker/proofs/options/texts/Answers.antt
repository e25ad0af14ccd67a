use Rattle.std.proofs.Common.{rules}
use Rattle.clap.specs.Words.{found_of}
use Rattle.dotenvy_words.proofs.FoundValues.{values_by}
use Rattle.dotenvy_checker.proofs.options.texts.Goals as goal

pub returns-in-Some : goal.returns-in-Some
returns-in-Some g c =
    rw (values_by (found_of c.args.found.now) c.args.name.now _ (rw c.in-Some.is at c.get_strs.ensures))
    (search rules)

pub returns-in-None : goal.returns-in-None
returns-in-None g c =
    rw (values_by (found_of c.args.found.now) c.args.name.now _ (rw c.in-None.is at c.get_strs.ensures))
    (search rules)
