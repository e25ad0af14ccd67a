use Rattle.dotenvy_lines.proofs.lines.QuotedLines.next_line.Goals as goal

pub returns-in-Ok-copy_of-clause-told : goal.returns-in-Ok-copy_of-clause-told
returns-in-Ok-copy_of-clause-told g c = λ a is_open told.
    let view = c.self.view_is in
    let takes = c.in_ok-advance.ensures.told a (rw (← view) at is_open) (rw (← view) at told) in
    rw (← view, c.in-Ok-copy_of.ensures.text, c.line.ensures) (rw c.in-Ok.is at takes)

pub returns-in-Err-clause-told : goal.returns-in-Err-clause-told
returns-in-Err-clause-told g c = λ a is_open told.
    let view = c.self.view_is in
    let takes = c.in_ok-advance.ensures.told a (rw (← view) at is_open) (rw (← view) at told) in
    rw (← view) (rw c.in-Err.is at takes)
