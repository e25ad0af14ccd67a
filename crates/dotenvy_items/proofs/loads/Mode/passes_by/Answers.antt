use Rattle.std.proofs.Common.{rules}
use Rattle.dotenvy_items.proofs.KeyLookUps.{is_none-contains}
use Rattle.dotenvy_items.proofs.loads.Mode.passes_by.Goals as goal

pub returns-then-looks_first : goal.returns-then-looks_first
returns-then-looks_first g c = λ there.
    rw (
      c.in-Keep.is,
      is_none-contains c.args.env.now.names c.args.key.now c.contains.result c.utf8.key
          c.contains.ensures,
      there,
    ) (search rules)
