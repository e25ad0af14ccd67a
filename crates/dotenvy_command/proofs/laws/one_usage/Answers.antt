use Rattle.dotenvy_command.proofs.WordsOnce.{one_usage_of_words, usage_exists}
use Rattle.dotenvy_command.proofs.laws.one_usage.Goals as goal

pub returns : goal.returns
returns c = λ words. let u = usage_exists words in (u.0, u.1, λ other has. one_usage_of_words words u.0 other u.1 has)
