-- The names of the targets.
use Rattle.std.specs.Prelude.{ℕ, List, Option, Some, None, codes, bytes_eq, if◌then◌else◌}
use Rattle.dotenvy_exporter.specs.declared.target.Target.{Target}
use Rattle.dotenvy_exporter.specs.declared.target.Target.TheVariants.{Docker, Kubernetes, Systemd, Sh, Json, Exec}

-- the target that has this name
abbrev pub target_named : List ℕ → Option Target
target_named name =
    if bytes_eq name (codes "docker") then Some Docker else
    if bytes_eq name (codes "kubernetes") then Some Kubernetes else
    if bytes_eq name (codes "systemd") then Some Systemd else
    if bytes_eq name (codes "sh") then Some Sh else
    if bytes_eq name (codes "json") then Some Json else
    if bytes_eq name (codes "exec") then Some Exec else None

-- the name of a target
abbrev pub target_name : Target → List ℕ
target_name Docker = codes "docker"
target_name Kubernetes = codes "kubernetes"
target_name Systemd = codes "systemd"
target_name Sh = codes "sh"
target_name Json = codes "json"
target_name Exec = codes "exec"
