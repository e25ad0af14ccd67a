use Rattle.std.proofs.Common.{◌≡◌}
use Rattle.std.specs.FinMap as fin
use Rattle.dotenvy_exporter.specs.Declarations.{restricted}
use Rattle.dotenvy_exporter.proofs.declared.kept_of.Given as goal

-- with the names that are left what is kept comes to all that is to be kept
abbrev pub invariant-names : goal.invariant-names
invariant-names g l =
    restricted l.names.names l.name-iterator l.kept.names
    ≡ restricted l.names.names (fin.entries l.how.env.now.names) fin.empty
