use Rattle.std.proofs.Common.{[], ◌++◌, refl}
use Rattle.dotenvy_format.specs.declared.dialect.Dialect.TheVariants.{V15}
use Rattle.dotenvy_format.proofs.values.TextReads.{counted_on, nothing_read, part_read}
use Rattle.dotenvy_format.proofs.texts.measure_texts.Goals as goal

pub texts-init : goal.texts-init
texts-init c = (c.utf8.value, ([], refl, λ dialect. nothing_read dialect _ _))

pub texts-preserved : goal.texts-preserved
texts-preserved c =
    let i = c.texts.invariant.1 in
    let part = c.in-Some.ensures.0 in (
      (part V15).follows,
      (
        i.0 ++ c.in-Some.part.meant.now,
        counted_on i.0 c.in-Some.part.meant.now i.1 c.saturating_add-len.ensures,
        λ dialect. part_read (i.2 dialect) (part dialect),
      ),
    )

pub texts-smaller : goal.texts-smaller
texts-smaller c = c.in-Some.ensures.1

pub returns : goal.returns
returns c =
    let i = c.texts.invariant in record {
      meant = i.1.0;
      len = i.1.1;
      follows = i.0;
      reads = i.1.2;
      ends = c.in_default.ensures;
    }
