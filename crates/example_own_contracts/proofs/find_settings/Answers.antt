use Rattle.std.proofs.Common.{ℕ, List, IfOk, Ok, Err}
use Rattle.std.specs.Prelude.{codes, Result}
use Rattle.std.specs.Path.{path_bytes, path_buf_bytes}
use Rattle.std.specs.declared.path.PathBuf.{PathBuf}
use Rattle.dotenvy.specs.Error.{Error}
use Rattle.dotenvy.specs.Find.{Finds, IsPathOf, LookStep}
use Rattle.dotenvy.proofs.Lemmas.{finds_a_path}
use Rattle.example_own_contracts.proofs.find_settings.Goals as goal

-- what a search finds is a path of the name
is_path : {F A : Type 0} (step : LookStep F) (before after : F) (directory name : List ℕ)
    (result : Result (PathBuf A) (Error A)) → Finds step before after directory name result →
    IfOk result (λ path. IsPathOf name (path_buf_bytes path))
is_path step before after directory name (Ok path) finds =
    finds_a_path step before after directory name path finds
is_path step before after directory name (Err error) finds = tt

pub returns-clause-path : goal.returns-clause-path
returns-clause-path g c =
    is_path _ _ _ (path_bytes c.args.directory) (codes "settings.env") c.find.result
    (rw c.new.ensures at c.find.ensures)
