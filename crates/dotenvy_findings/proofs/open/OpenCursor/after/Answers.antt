use Rattle.std.proofs.Common.{ap, sym, ◌∙◌}
use Rattle.dotenvy_findings.specs.declared.place.Place.{Place}
use Rattle.dotenvy_findings.proofs.LineWalks.{went_on, walks_over}
use Rattle.dotenvy_findings.proofs.open.OpenCursor.after.Goals as goal

pub returns-then-walks_on : goal.returns-then-walks_on
returns-then-walks_on c =
    let self = c.args.self in
    ap (λ (place : Place). record (went_on c.args.c self) { place = place }) c.after-moved.ensures
    ∙ sym (walks_over self c.args.c c.args.rest.now (sym c.walks_on.ensures ∙ c.if-walks_on.true))
