use Rattle.std.proofs.Common.{◌++◌, take}
use Rattle.std.specs.Prelude.{codes, string_bytes}
use Rattle.std.specs.Fmt.{IsPlainFormatter, HasWritten}
use Rattle.std.specs.List.{flat_map}
use Rattle.env_layers.proofs.missing.write_others.Given as goal

-- the names so far were written
abbrev pub invariant-others : goal.invariant-others
invariant-others g l =
    IsPlainFormatter l.fn.f →
    HasWritten g.W.Write.write_str_gives l.fn.f
    (flat_map (λ name. codes ", " ++ string_bytes name) (take l.name-index l.others)) l.f
