use Rattle.std.proofs.Common.{sym, ◌∙◌}
use Rattle.dotenvy_checker.proofs.WrittenParts.{ends_sent, ends_unsent, ends_unwritten}
use Rattle.dotenvy_checker.proofs.file_report.FileReport.end.Goals as goal

pub returns-then-is_unwritten-clause-ends : goal.returns-then-is_unwritten-clause-ends
returns-then-is_unwritten-clause-ends g c =
    ends_unwritten g.W.Sink.told c.args.self.now c.args.writer.now c.args.read
    (sym c.is_unwritten.ensures ∙ c.if-is_unwritten.true)

pub returns-in-Ok-clause-ends : goal.returns-in-Ok-clause-ends
returns-in-Ok-clause-ends g c =
    ends_sent g.W.Sink.told c.args.self.now c.args.writer.now c.write.new.writer c.args.read
    (sym c.is_unwritten.ensures ∙ c.if-is_unwritten.false) c.in-Ok.ensures.sends

pub returns-in-Err-clause-ends : goal.returns-in-Err-clause-ends
returns-in-Err-clause-ends g c =
    ends_unsent g.W.Sink.told c.args.self.now c.args.writer.now c.write.new.writer c.args.read c.in-Err.unwritten
    (sym c.is_unwritten.ensures ∙ c.if-is_unwritten.false) c.in-Err.ensures.sends
