use Rattle.std.proofs.Common.{◌∙◌, sym}
use Rattle.clap.specs.Words.{found_of}
use Rattle.dotenvy_words.proofs.FoundValues.{on_by}
use Rattle.dotenvy_words.proofs.found.is_on.Goals as goal

pub returns-in-Some : goal.returns-in-Some
returns-in-Some c =
    c.eq.ensures ∙ sym (on_by (found_of c.args.found.now) c.args.name.now _ (rw c.in-Some.is at c.get_str.ensures))

pub returns-in-None : goal.returns-in-None
returns-in-None c = sym (on_by (found_of c.args.found.now) c.args.name.now _ (rw c.in-None.is at c.get_str.ensures))
