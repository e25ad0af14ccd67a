use Rattle.std.proofs.Common.{arith, refl, rules}
use Rattle.std.proofs.lemmas.Grind.{common_steps}
use Rattle.dotenvy_command.specs.Answers.{texts}
use Rattle.dotenvy_command.specs.Words.{next_file}
use Rattle.dotenvy_command.proofs.command_line.first_group.Goals as goal

pub returns-in_ok-from_str-in-Unknown : goal.returns-in_ok-from_str-in-Unknown
returns-in_ok-from_str-in-Unknown g c = (texts c.in-Some.after.now, search rules, search rules)

pub returns-in-Some-split_first : goal.returns-in-Some-split_first
returns-in-Some-split_first g c =
    (next_file c.in-BeforeFile.ensures.0 c.as_str-in-Some-split_first.result.now, tt, search rules, (refl, refl, refl))

pub returns-in_default : goal.returns-in_default
returns-in_default g c = grind (arith, common_steps)

pub returns-in-None : goal.returns-in-None
returns-in-None g c = grind (arith, common_steps)
