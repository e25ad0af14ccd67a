use Rattle.std.proofs.Common.{map, take}
use Rattle.env_layers.specs.Missing.{absent_names, HoldsTexts}
use Rattle.env_layers.proofs.layers.Layers.absent.Given as goal

-- the absent names so far
abbrev pub invariant-names : goal.invariant-names
invariant-names g l = HoldsTexts l.absent.items
    (absent_names l.self.names (map (λ name. name.now) (take l.name-index l.names)))
