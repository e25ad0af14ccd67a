use Rattle.std.proofs.Common.{refl}
use Rattle.clap.proofs.OnLiterals.{clap_on_literals}
use Rattle.dotenvy_checker.specs.Words.{checker}
use Rattle.dotenvy_checker.specs.WorkedWords.{FlagsAsk, ValuesAsk, ValuesFail, WordsFail}
use Rattle.dotenvy_checker.proofs.laws.worked_words.Goals as goal

-- each example computes
flags : FlagsAsk
unfolding clap_on_literals checker
flags = (refl, refl, refl, refl)

values : ValuesAsk
unfolding clap_on_literals checker
values = (refl, refl, refl, refl)

faults : WordsFail
unfolding clap_on_literals checker
faults = (refl, refl, refl, refl, refl, refl, (refl, refl), (refl, refl), refl, refl, refl, refl, refl)

mistakes : ValuesFail
unfolding clap_on_literals checker
mistakes = (refl, refl, refl, refl, refl, refl, refl)

pub returns : goal.returns
returns c = (flags, values, faults, mistakes)
