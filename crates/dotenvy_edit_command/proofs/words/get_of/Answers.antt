use Rattle.std.proofs.Common.{arith, inl, refl}
use Rattle.std.specs.Prelude.{codes}
use Rattle.dotenvy_edit_command.proofs.CommandWords.{one_too_many, word_at}
use Rattle.dotenvy_edit_command.proofs.words.get_of.Goals as goal

pub returns-in-len3-up : goal.returns-in-len3-up
returns-in-len3-up g c =
    one_too_many (codes "get") _ 2 _ c.unexpected.result (inl (refl, refl))
    (word_at c.args.words.now 2 _ (omega (arith, c.in-len3-up.len_at_least))) c.unexpected.ensures
