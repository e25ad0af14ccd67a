use Rattle.std.specs.Path.{path_bytes}
use Rattle.dotenvy_base.proofs.Searching.{finds_a_path}
use Rattle.dotenvy.proofs.find.find_filename.Goals as goal

pub returns-in-Ok-find-clause-path : goal.returns-in-Ok-find-clause-path
returns-in-Ok-find-clause-path g c =
    finds_a_path _ _ _ (path_bytes c.as_path.result) (path_bytes c.args.filename) c.in-Ok-find.path
    (rw c.in-Ok-find.is at c.find.ensures)
