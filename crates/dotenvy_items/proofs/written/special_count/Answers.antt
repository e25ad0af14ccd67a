use Rattle.std.proofs.Common.{rules, arith, length, Fits, w64}
use Rattle.dotenvy_format.proofs.lines.LineEnds.{span_shorter}
use Rattle.dotenvy_items.proofs.WrittenBytes.{none_special, one_special, specials_len}
use Rattle.dotenvy_items.proofs.written.special_count.Goals as goal

pub returns-in_default : goal.returns-in_default
returns-in_default c =
    omega (arith, c.runs.invariant, none_special c.split_run.ensures c.in_default.ensures.cases)

pub overflow_add-count : goal.overflow_add-count
overflow_add-count c =
    let bound : Fits w64 (length c.args.bytes.now) = search rules in
    omega (
      arith,
      c.runs.invariant,
      bound.fits,
      specials_len c.args.bytes.now,
      one_special c.split_run.ensures c.in-Some.ensures.cases.0,
    )

pub runs-preserved : goal.runs-preserved
runs-preserved c = omega (arith, c.runs.invariant, one_special c.split_run.ensures c.in-Some.ensures.cases.0)

pub runs-smaller : goal.runs-smaller
runs-smaller c = span_shorter c.split_run.ensures c.in-Some.ensures.cases.0
