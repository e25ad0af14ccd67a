use Rattle.std.proofs.Common.{◌≡◌, length}
use Rattle.std.specs.List.{find}
use Rattle.std.specs.Str.{bytes_eq}
use Rattle.dotenvy_findings.specs.Kinds.{kind_name}
use Rattle.dotenvy_findings.specs.Named.{kind_named}
use Rattle.dotenvy_findings.proofs.named.kind_named.Given as goal

-- the kind is found in what is left of the kinds
abbrev pub invariant-kinds : goal.invariant-kinds
invariant-kinds l =
    find (λ kind. bytes_eq (kind_name kind) l.name) l.rest ≡ kind_named l.name

abbrev pub decreases-kinds : goal.decreases-kinds
decreases-kinds l = length l.rest
