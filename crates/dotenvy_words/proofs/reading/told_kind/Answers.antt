use Rattle.std.proofs.Common.{rules}
use Rattle.clap.specs.Words.{fault_of, IsAmong}
use Rattle.dotenvy_words.specs.Found.{texts}
use Rattle.dotenvy_words.proofs.Refusals.{asks_for_text, unknown_told}
use Rattle.dotenvy_words.proofs.reading.told_kind.Goals as goal

pub returns-in-DisplayHelp : goal.returns-in-DisplayHelp
returns-in-DisplayHelp g c =
    let line = g.L.CommandLine.described in
    let among : IsAmong c.kind.result (fault_of line (texts c.args.front.now)) = search rules in
    let untold = asks_for_text c.kind.result c.in-DisplayHelp.is in
    unknown_told line (texts c.args.front.now) c.kind.result untold among
