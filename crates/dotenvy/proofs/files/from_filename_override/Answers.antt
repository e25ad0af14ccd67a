use Rattle.std.proofs.Common.{rules}
use Rattle.dotenvy.proofs.files.from_filename_override.Goals as goal

pub returns-clause-path : goal.returns-clause-path
returns-clause-path g c = search rules
