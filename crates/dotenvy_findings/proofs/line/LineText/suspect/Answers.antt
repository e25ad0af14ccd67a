use Rattle.std.proofs.Common.{sym, ◌∙◌}
use Rattle.dotenvy_findings.specs.LineTexts.{single_place, value_place, value_text}
use Rattle.dotenvy_findings.specs.Opens.{open_begun}
use Rattle.dotenvy_findings.proofs.LineWalks.{no_suspect}
use Rattle.dotenvy_findings.proofs.line.LineText.suspect.Goals as goal

pub returns-else-contains : goal.returns-else-contains
returns-else-contains c =
    let text = c.args.self.text.now in
    let start = c.args.self.start in
    let begun = open_begun start (single_place (value_text text) (value_place start text)) in
    sym (no_suspect text begun (sym c.contains.ensures.value ∙ c.if-contains.false))
