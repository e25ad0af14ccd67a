use Rattle.std.proofs.Common.{refl}
use Rattle.dotenvy_findings.proofs.named.kind_named.Goals as goal

pub kinds-init : goal.kinds-init
kinds-init c = rw c.as_slice-rest.ensures refl
