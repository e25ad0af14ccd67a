use Rattle.std.proofs.Common.{[], ◌++◌, refl, sym, ap, arith, length, length-append, append_assoc}
use Rattle.std.proofs.lemmas.List.{append-nil}
use Rattle.dotenvy_format.specs.declared.dialect.Dialect.TheVariants.{V15}
use Rattle.dotenvy_format.proofs.values.TextReads.{nothing_read, part_read}
use Rattle.dotenvy_format.proofs.texts.push_texts.Goals as goal

pub texts-init : goal.texts-init
texts-init g c = (c.utf8.value, ([], sym (append-nil _), omega arith, λ dialect. nothing_read dialect _ _))

pub push_short-requires : goal.push_short-requires
push_short-requires g c =
    let i = c.texts.invariant.1 in
    let room = c.requires in
    let part = c.in-Some.ensures.0 room.0 in
    let fits = room.1 (i.0 ++ c.in-Some.part.meant.now) _ _ (part_read (i.3 room.0) part) in
    let total = simp length-append at (ap length i.1) in
    let both = length-append i.0 c.in-Some.part.meant.now in
    omega (arith, fits, total, both, c.args.out.now.bytes.ok.0, c.texts.out.bytes.ok.0, i.2)

pub texts-preserved : goal.texts-preserved
texts-preserved g c =
    let i = c.texts.invariant.1 in
    let part = c.in-Some.ensures.0 in (
      (part V15).follows,
      (
        i.0 ++ c.in-Some.part.meant.now,
        rw (c.push_short.ensures.bytes, i.1, append_assoc) refl,
        (let k = c.push_short.ensures.capacity in omega (arith, k, i.2)),
        λ dialect. part_read (i.3 dialect) (part dialect),
      ),
    )

pub texts-smaller : goal.texts-smaller
texts-smaller g c = c.in-Some.ensures.1

pub returns-clause-texts : goal.returns-clause-texts
returns-clause-texts g c =
    let i = c.texts.invariant in record {
      meant = i.1.0;
      bytes = i.1.1;
      follows = i.0;
      reads = i.1.3;
      ends = c.in_default.ensures;
    }
