use Rattle.dotenvy_base.proofs.errors.ErrorDisplay.fmt.Goals as goal

-- src/errors.rt:44:5
pub returns-in-LineParse-clause-writes : goal.returns-in-LineParse-clause-writes
returns-in-LineParse-clause-writes g c = rw c.in-LineParse.is c.write.ensures.writes
