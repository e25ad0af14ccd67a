use Rattle.std.proofs.Common.{◌≡◌}
use Rattle.std.specs.FinMap as fin
use Rattle.dotenvy_items.specs.Remembered.{remembered_of, with_values}
use Rattle.dotenvy_items.proofs.remembered.remember_all.Given as goal

-- with the values that are left what is remembered comes to what all values make of it
abbrev pub invariant-names : goal.invariant-names
invariant-names g l =
    with_values l.name-iterator (remembered_of l.remembered.entries)
    ≡ with_values (fin.entries l.env.names) (remembered_of l.fn.remembered.entries)
