use Rattle.std.proofs.Common.{refl, inr, string_bytes}
use Rattle.dotenvy_lines.specs.Lines.{LinesState}
use Rattle.dotenvy_lines.proofs.AskedReads.{asks_none}
use Rattle.dotenvy_lines.proofs.NumberedLines.{counts_none, counts_one}
use Rattle.dotenvy_lines.proofs.LineJoins.{advanced}
use Rattle.dotenvy_lines.proofs.lines.Splitter.advance.Goals as goal

pub returns-then-not-is_open-clause-asks : goal.returns-then-not-is_open-clause-asks
returns-then-not-is_open-clause-asks g c =
    asks_none _ c.args.self.now.lines.input c.args.self.now.lines.input refl refl refl refl

pub returns-clause-told : goal.returns-clause-told
returns-clause-told g c = λ a is_open told.
    let view = c.self.view_is in
    let is = c.self.inside in
    let n = is.lines_taken in
    let first = c.saturating_add-self-inside.result in
    let before : LinesState =
    record { input = is.input; stage = is.stage; lines_taken = n; first_line = is.first_line } in
    let after : LinesState = record {
      input = c.join_lines.new.input;
      stage = c.stage_after-self-inside.result;
      lines_taken = c.join_lines.new.lines_taken;
      first_line = first;
    } in
    rw (← view) (advanced a before after c.in-Ok.joined (string_bytes c.join_lines.new.text) c.outcome-outcome.result
    c.is_used_up.result (c.in-Ok.ensures.told a (rw (← view) at told))
    (counts_one n 0 n first 1 (counts_none n) c.saturating_add-self-inside.ensures refl)
    (rw c.as_str.ensures.value at c.outcome-outcome.ensures)
    (rw c.is_refused.ensures at c.stage_after-self-inside.ensures) c.is_used_up.ensures.told)

pub returns-in-Err-clause-told : goal.returns-in-Err-clause-told
returns-in-Err-clause-told g c = λ a is_open told.
    let view = c.self.view_is in
    rw (← view) (inr (refl, c.in-Err.ensures.told a (rw (← view) at told)))
