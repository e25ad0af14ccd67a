use Rattle.dotenvy_base.proofs.Writes.{Sending}
use Rattle.dotenvy_base.proofs.output.write_all.Given as goal

-- what was sent so far
abbrev pub invariant-writes : goal.invariant-writes
invariant-writes g l =
    Sending (g.W.Sink.told l.fn.writer) (g.W.Sink.told l.writer) l.fn.bytes l.rest l.counter
