use Rattle.std.proofs.Common.{rules, sym, ◌∙◌}
use Rattle.std.specs.Prelude.{◌&&◌}
use Rattle.std.specs.String.{string_eq}
use Rattle.std.specs.Cmp.Lexicographic.{unequal}
use Rattle.dotenvy_base.proofs.SameEnvironments.{same_strings}
use Rattle.dotenvy_base.proofs.environment.EnvironmentPartialEq.eq.Goals as goal

pub returns-then-len : goal.returns-then-len
returns-then-len g c =
    let same = same_strings _ _ c.len.ensures.ordered c.len-2.ensures.ordered in
    let other = unequal (λ p q. string_eq p.0 q.0 && string_eq p.1 q.1) _ _
    (λ e. c.if-len.true (c.len.ensures.len ∙ e ∙ sym c.len-2.ensures.len)) in
    rw (← c.self.view_is, ← c.other.view_is, same, other) (search rules)

pub returns-then-eq : goal.returns-then-eq
returns-then-eq g c =
    let same = same_strings _ _ c.len.ensures.ordered c.len-2.ensures.ordered in
    rw (← c.self.view_is, ← c.other.view_is, same, ← c.eq.ensures, c.if-eq.true) (search rules)

pub returns-else-eq : goal.returns-else-eq
returns-else-eq g c =
    let same = same_strings _ _ c.len.ensures.ordered c.len-2.ensures.ordered in
    rw (← c.self.view_is, ← c.other.view_is, same, ← c.eq.ensures, c.if-eq.false) (search rules)
