-- What each target can read at all.
use Rattle.std.proofs.Common.{List, [], ◌∷◌, refl, subst}
use Rattle.dotenvy_exporter.specs.declared.target.Target.TheVariants as target
use Rattle.dotenvy_exporter.specs.Laws.{AllGivable, ReadsNoOther}
use Rattle.dotenvy_exporter.specs.Texts.{Pair}
use Rattle.dotenvy_exporter.proofs.ExecHolds.{exec_holds}
use Rattle.dotenvy_exporter.proofs.PairsHold.{docker_holds, kubernetes_holds}
use Rattle.dotenvy_exporter.proofs.ShellHolds.{Givable, shell_holds}
use Rattle.dotenvy_exporter.proofs.SystemdHolds.{systemd_holds}

-- JSON holds all texts
json_holds : (pairs : List Pair) → AllGivable target.Json pairs
json_holds [] = tt
json_holds (pair ∷ pairs) = (refl, json_holds pairs)

-- a target reads only pairs that it can be given, or that are left out
pub reads_no_other : ReadsNoOther
reads_no_other target.Docker bytes pairs e = subst (Givable target.Docker) e (docker_holds bytes)
reads_no_other target.Kubernetes bytes pairs e = subst (Givable target.Kubernetes) e (kubernetes_holds bytes)
reads_no_other target.Systemd bytes pairs e = subst (Givable target.Systemd) e (systemd_holds bytes)
reads_no_other target.Sh bytes pairs e = subst (Givable target.Sh) e (shell_holds bytes)
reads_no_other target.Json bytes pairs e = json_holds pairs
reads_no_other target.Exec bytes pairs e = subst (Givable target.Exec) e (exec_holds bytes)
