use Rattle.dotenvy_edit_command.proofs.failure.FailureDisplay.fmt.Goals as goal

pub returns-in-Stops-clause-writes : goal.returns-in-Stops-clause-writes
returns-in-Stops-clause-writes g c =
    rw c.in-Stops.is
    (rw (c.as_str-file.ensures.value, c.as_str-name-in-Stops.ensures.value) at c.write-in-Stops.ensures.writes)
