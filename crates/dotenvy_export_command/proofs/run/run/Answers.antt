use Rattle.std.proofs.Common.{lit<}
use Rattle.dotenvy_words.specs.Found.{texts}
use Rattle.dotenvy_export_command.specs.Ends.{EndsExport, Prints}
use Rattle.dotenvy_export_command.specs.Help.{help_text, version_text}
use Rattle.dotenvy_export_command.proofs.Endings.{ends_failed, not_wrong, refusal_failed}
use Rattle.dotenvy_export_command.proofs.run.run.Goals as goal

pub returns-in_default : goal.returns-in_default
returns-in_default g c =
    let failed = c.in-Err.failure in
    let words = texts c.args.words.now in
    let before = c.args.streams.now in
    let after = c.done.new.streams in
    let says = rw c.in-Err.ensures.errors at c.say_failure.ensures in
    record {
      mistaken = λ mistaken.
          refusal_failed words g.E.Sink.told before.errors c.say_failure.new.errors failed
          (not_wrong failed c.in_default.not-Usage) (c.in-Err.ensures.mistaken mistaken) says;
      early = tt;
      status = lit< tt;
      help = λ is. let (prints, same) = c.in-Err.ensures.help is in (
        ends_failed (Prints g.W.Sink.told before.writer after.writer help_text) g.E.Sink.told before.errors
            c.say_failure.new.errors failed prints says,
        same,
      );
      version = λ is. let (prints, same) = c.in-Err.ensures.version is in (
        ends_failed (Prints g.W.Sink.told before.writer after.writer version_text) g.E.Sink.told before.errors
            c.say_failure.new.errors failed prints says,
        same,
      );
      exports = λ taken.
          ends_failed (EndsExport g.W.Sink.told words before.writer after.writer) g.E.Sink.told before.errors
          c.say_failure.new.errors failed (c.in-Err.ensures.exports taken) says;
    }
