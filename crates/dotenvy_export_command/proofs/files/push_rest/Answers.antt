use Rattle.std.proofs.Common.{refl}
use Rattle.std.proofs.lemmas.List.{take_rest}
use Rattle.dotenvy_export_command.specs.Files.{placed_of}
use Rattle.dotenvy_export_command.proofs.MergedFiles.{drop_map}
use Rattle.dotenvy_export_command.proofs.files.push_rest.Goals as goal

pub optional-init : goal.optional-init
optional-init g c =
    rw (take_rest c.args.optional.now c.args.from, drop_map placed_of c.args.from c.args.optional.now) refl
