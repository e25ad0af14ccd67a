use Rattle.std.proofs.Common.{rules}
use Rattle.dotenvy_c.proofs.Entries.{more_fits, one_more}
use Rattle.dotenvy_c.proofs.block.block_of.Goals as goal

pub pairs-preserved : goal.pairs-preserved
pairs-preserved c =
    let steps = c.in-Some.ensures.steps in record {
      whole =
          one_more c.pairs.block.items _ _ c.pairs.name-iterator c.next.new.self steps.1
          (search rules) c.pairs.invariant.whole;
      fits = λ rest.
          c.pairs.invariant.fits (more_fits c.in-Some.name.now c.in-Some.value.now c.pairs.name-iterator
          c.next.new.self steps.1 steps.0.0 steps.0.1 rest);
    }
