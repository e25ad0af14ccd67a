use Rattle.std.proofs.Common.{refl}
use Rattle.clap.proofs.OnLiterals.{clap_on_literals}
use Rattle.dotenvy_export_command.specs.Words.{exporter}
use Rattle.dotenvy_export_command.specs.WorkedWords.{FilesMerge, WordsAsk, WordsFail}
use Rattle.dotenvy_export_command.proofs.laws.worked_words.Goals as goal

-- each example computes
asks : WordsAsk
unfolding clap_on_literals exporter
asks = ((refl, refl, refl), (refl, refl, refl), (refl, refl, refl), (refl, refl, refl), (refl, refl, refl))

faults : WordsFail
unfolding clap_on_literals exporter
faults = (refl, refl, refl, refl, refl, refl, (refl, refl), (refl, refl), refl, refl, refl, refl)

files : FilesMerge
files = (refl, refl)

pub returns : goal.returns
returns c = (asks, faults, files)
