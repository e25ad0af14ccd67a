use Rattle.std.proofs.Common.{rules}
use Rattle.clap.specs.Words.{found_of}
use Rattle.dotenvy_words.proofs.FoundValues.{values_by}
use Rattle.dotenvy_export_command.proofs.options.located.Goals as goal

pub returns-in-Some-indices_of : goal.returns-in-Some-indices_of
returns-in-Some-indices_of g c =
    rw (values_by (found_of c.args.found.now) c.args.name.now _ (rw c.in-Some.is at c.get_strs.ensures))
    (search rules)

pub returns-in-None-indices_of : goal.returns-in-None-indices_of
returns-in-None-indices_of g c =
    rw (values_by (found_of c.args.found.now) c.args.name.now _ (rw c.in-Some.is at c.get_strs.ensures))
    (search rules)

pub returns-in-None : goal.returns-in-None
returns-in-None g c =
    rw (values_by (found_of c.args.found.now) c.args.name.now _ (rw c.in-None.is at c.get_strs.ensures))
    (search rules)
