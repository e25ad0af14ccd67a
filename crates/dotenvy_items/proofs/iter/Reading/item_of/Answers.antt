use Rattle.std.proofs.Common.{◌≡◌, ◌∙◌, Ok, Err, refl}
use Rattle.std.specs.Result.{result_transpose}
use Rattle.dotenvy_items.specs.inside.ItemStep.{AddsLine}
use Rattle.dotenvy_items.proofs.ItemSteps.{line_added, lines_said}
use Rattle.dotenvy_items.proofs.iter.Reading.item_of.Goals as goal
use Rattle.dotenvy_items.proofs.iter.Reading.item_of.Goals.{in-Ok, in-Err, in-Ok-said, in-Err-said}

pub returns-clause-adds : goal.returns-clause-adds
returns-clause-adds g c =
    let said = c.match-outcome.said in
    let after = c.match-outcome.self in
    let left : c.match-said.self ≡ record after { lines = lines_said said after.lines } = elim c.match-said.branch [
      | in-Ok-said w ↦ rw w.in-Ok-said.is w.self-is
      | in-Err-said w ↦ rw w.in-Err-said.is (w.self-is ∙ w.fail_if_refused.ensures)
    ] in
    let names = c.args.env.now.names in
    let added : AddsLine names c.args.self.now c.args.outcome (result_transpose said)
    (record after { lines = lines_said said after.lines }) = elim c.match-outcome.branch [
      | in-Ok w ↦ rw (w.in-Ok.is, w.said-is) (line_added names c.args.self.now after (Ok tt) w.parse_line-said.result
          (rw (← c.self.view_is) (rw w.line.ensures at w.parse_line-said.ensures.answer))
          (rw (← c.self.view_is, w.self-is) (rw w.line.ensures at w.parse_line-said.ensures.remembers)) tt
          (rw (w.self-is, ← c.self.view_is) refl))
      | in-Err w ↦ rw (w.in-Err.is, w.said-is) (line_added names c.args.self.now after (Err w.in-Err.fault)
          (Err w.in-Err.fault) tt tt (refl, rw (w.self-is, ← c.self.view_is) refl)
          (rw (w.self-is, ← c.self.view_is) refl))
    ] in
    rw (c.transpose.ensures, left) added
