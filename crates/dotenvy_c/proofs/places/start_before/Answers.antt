use Rattle.dotenvy_c.proofs.Standing.{none_before}
use Rattle.dotenvy_c.proofs.places.start_before.Goals as goal

pub returns-else-known-lines-clause-skips : goal.returns-else-known-lines-clause-skips
returns-else-known-lines-clause-skips c = none_before c.args.file.now
