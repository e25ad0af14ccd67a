use Rattle.std.proofs.Common.{rules, ap}
use Rattle.std.specs.Prelude.{string_bytes}
use Rattle.std.specs.FinMap.{insert}
use Rattle.dotenvy_base.proofs.TextMaps.{of_strings, insert-strings, good-insert}
use Rattle.dotenvy_base.proofs.environment.Environment.set.Goals as goal

pub invariant_of-self : goal.invariant_of-self
invariant_of-self g c = rw c.in_err-insert.ensures.err c.self.invariant

pub returns-in_err-insert-clause-nul : goal.returns-in_err-insert-clause-nul
returns-in_err-insert-clause-nul g c = λ no. absurd (search rules)

pub invariant_of-self-2 : goal.invariant_of-self-2
invariant_of-self-2 g c =
    rw (c.in_ok-insert.ensures.entries, insert-strings) (good-insert (of_strings c.self.inside.entries.entries)
    c.self.inside.loaded _ _ c.self.invariant c.requires (search rules))

pub returns-clause-ok : goal.returns-clause-ok
returns-clause-ok g c =
    rw (c.in_ok-insert.ensures.entries, insert-strings) (ap
    (λ e.
    record { names = insert e.names (string_bytes c.args.key) (string_bytes c.args.value); loaded = e.loaded })
    c.self.view_is)
