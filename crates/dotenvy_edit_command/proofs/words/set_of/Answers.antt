use Rattle.std.proofs.Common.{arith, inl, inr, refl}
use Rattle.std.specs.Prelude.{codes}
use Rattle.dotenvy_edit_command.proofs.CommandWords.{one_too_many, word_at}
use Rattle.dotenvy_edit_command.proofs.words.set_of.Goals as goal

pub returns-in-len4-up : goal.returns-in-len4-up
returns-in-len4-up g c =
    one_too_many (codes "set") _ 3 _ c.unexpected.result (inr (inl refl, refl))
    (word_at c.args.words.now 3 _ (omega (arith, c.in-len4-up.len_at_least))) c.unexpected.ensures
