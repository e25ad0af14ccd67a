use Rattle.std.proofs.Common.{arith}
use Rattle.dotenvy_checker.proofs.ToldFronts.{tells_nothing}
use Rattle.dotenvy_checker.proofs.WrittenParts.{writes_not, writes_text}
use Rattle.dotenvy_checker.proofs.file_report.FileReport.write_part.Goals as goal

pub returns-then-len-lt-PART_LEN-clause-part : goal.returns-then-len-lt-PART_LEN-clause-part
returns-then-len-lt-PART_LEN-clause-part g c = tells_nothing g.W.Sink.told c.args.self.now c.args.writer.now

pub returns-in-Ok-clause-part : goal.returns-in-Ok-clause-part
returns-in-Ok-clause-part g c =
    writes_text g.W.Sink.told (omega (arith, c.len.ensures)) c.in-Ok.ensures.sends c.in-Ok.ensures.same
    c.in-Ok.ensures.empty

pub returns-in-Err-clause-part : goal.returns-in-Err-clause-part
returns-in-Err-clause-part g c = writes_not g.W.Sink.told c.in-Err.ensures.sends
