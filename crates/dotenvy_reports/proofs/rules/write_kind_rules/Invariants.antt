use Rattle.std.proofs.Common.{take}
use Rattle.std.specs.List.{flat_map}
use Rattle.dotenvy_reports.specs.Sarif.{kind_rule}
use Rattle.dotenvy_reports.specs.inside.Writing.{HasMore}
use Rattle.dotenvy_reports.proofs.rules.write_kind_rules.Given as goal

-- the rules of the kinds so far were written
abbrev pub invariant-kinds : goal.invariant-kinds
invariant-kinds g l = HasMore l.fn.writer l.writer (flat_map kind_rule (take l.kind-index l.fn.kinds))
