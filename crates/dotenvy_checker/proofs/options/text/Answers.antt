use Rattle.std.proofs.Common.{rules}
use Rattle.clap.specs.Words.{found_of}
use Rattle.dotenvy_words.proofs.FoundValues.{first_by}
use Rattle.dotenvy_checker.proofs.options.text.Goals as goal

pub returns-in_ok-from_str-in-Some : goal.returns-in_ok-from_str-in-Some
returns-in_ok-from_str-in-Some g c =
    rw (first_by (found_of c.args.found.now) c.args.name.now _ (rw c.in-Some.is at c.get_str.ensures)) (search rules)

pub returns-in-None : goal.returns-in-None
returns-in-None g c =
    rw (first_by (found_of c.args.found.now) c.args.name.now _ (rw c.in-None.is at c.get_str.ensures)) (search rules)
