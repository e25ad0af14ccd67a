use Rattle.std.proofs.Common.{rules, ◌≡◌, ◌∙◌}
use Rattle.clap.specs.Words.{fault_of, IsAmong}
use Rattle.dotenvy_words.specs.Found.{texts}
use Rattle.dotenvy_words.proofs.Refusals.{some_kinds}
use Rattle.dotenvy_words.proofs.TextNames.{all_unnamed}
use Rattle.dotenvy_words.proofs.reading.read.Goals as goal

pub unreachable-requires : goal.unreachable-requires
unreachable-requires g c =
    let line = g.L.CommandLine.described in
    let words = c.args.words.now in
    let among : IsAmong c.kind.result (fault_of line (texts words)) = search rules in
    let none = rw c.if-branch.false at c.in_ok-is_refused-in_default.ensures in
    let same : texts c.before_text.result.now ≡ texts words =
    c.before_text.ensures
    ∙ all_unnamed c.kind.result c.in_default-kind.not-DisplayHelp c.in_default-kind.not-DisplayVersion (texts words) in
    some_kinds c.kind.result (fault_of line (texts words)) among (rw same at none)
