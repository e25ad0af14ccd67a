use Rattle.std.proofs.Common.{◌∙◌, refl, sym}
use Rattle.std.proofs.lemmas.Str.{encodes-chars}
use Rattle.dotenvy_exporter.proofs.shell.refusal.Goals as goal

pub returns-then-is_reserved : goal.returns-then-is_reserved
returns-then-is_reserved c =
    rw (
      sym c.is_name.ensures ∙ c.if-not-is_name.false,
      encodes-chars c.args.name.now c.utf8.name,
      sym c.is_reserved.ensures ∙ c.if-is_reserved.true,
    ) refl

pub returns-then-has : goal.returns-then-has
returns-then-has c =
    rw (
      sym c.is_name.ensures ∙ c.if-not-is_name.false,
      encodes-chars c.args.name.now c.utf8.name,
      sym c.is_reserved.ensures ∙ c.if-is_reserved.false,
      sym c.has.ensures ∙ c.if-has.true,
    ) refl

pub returns-else-has : goal.returns-else-has
returns-else-has c =
    rw (
      sym c.is_name.ensures ∙ c.if-not-is_name.false,
      encodes-chars c.args.name.now c.utf8.name,
      sym c.is_reserved.ensures ∙ c.if-is_reserved.false,
      sym c.has.ensures ∙ c.if-has.false,
    ) refl
