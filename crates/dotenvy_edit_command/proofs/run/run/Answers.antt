use Rattle.std.proofs.Common.{Err, refl}
use Rattle.dotenvy_words.specs.Found.{texts}
use Rattle.dotenvy_edit_command.proofs.FailureTexts.{few_statuses, not_wrong}
use Rattle.dotenvy_edit_command.proofs.TaskSteps.{refusal_failed}
use Rattle.dotenvy_edit_command.proofs.run.run.Goals as goal

pub returns-in_default : goal.returns-in_default
returns-in_default g c =
    let failed = c.in-Err.failure in
    let says = rw c.in-Err.ensures.errors at c.say_failure.ensures in
    record {
      mistaken = λ mistaken. let (refused, file, streams) = c.in-Err.ensures.mistaken mistaken in (
        rw c.status.ensures
            (refusal_failed (texts c.args.words.now) g.E.Sink.told c.args.streams.now.errors c.say_failure.new.errors
            failed (not_wrong failed c.in_default.not-Usage) refused says),
        file,
        rw streams refl,
        rw streams refl,
      );
      early = tt;
      early_file = tt;
      status = rw c.status.ensures (few_statuses failed);
      help = λ is. let (prints, file, input) = c.in-Err.ensures.help is in (
        (Err failed, prints, (c.status.ensures, says)),
        file,
        input,
      );
      version = λ is. let (prints, file, input) = c.in-Err.ensures.version is in (
        (Err failed, prints, (c.status.ensures, says)),
        file,
        input,
      );
      tasks = λ taken. (Err failed, c.in-Err.ensures.tasks taken, (c.status.ensures, says));
    }
