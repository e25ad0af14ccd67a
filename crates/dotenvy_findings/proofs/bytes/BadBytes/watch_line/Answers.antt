use Rattle.std.proofs.Common.{rules, ◌<◌, ◌^◌}
use Rattle.dotenvy_findings.specs.Bytes.{watch_of}
use Rattle.dotenvy_findings.proofs.Watches.{ascii_line}
use Rattle.dotenvy_findings.proofs.bytes.BadBytes.watch_line.Goals as goal

pub returns-then-is_ascii : goal.returns-then-is_ascii
returns-then-is_ascii g c =
    let fits : c.args.self.now.cursor.place.column < 2 ^ 64 = search rules in
    ascii_line (watch_of c.args.self.now) c.args.bytes.now c.saturating_add-self.result
    (search rules) fits (search rules) c.requires c.saturating_add-self.ensures
