use Rattle.std.specs.Path.{path_bytes}
use Rattle.dotenvy_base.proofs.Paths.{join_is_path_in}
use Rattle.dotenvy_base.proofs.search.path_in.Goals as goal

pub returns : goal.returns
returns g c =
    rw (c.in_ok-push.ensures.ok, c.in_ok-path.ensures, c.as_str.ensures)
    (join_is_path_in (path_bytes c.args.directory) (path_bytes c.args.filename))
