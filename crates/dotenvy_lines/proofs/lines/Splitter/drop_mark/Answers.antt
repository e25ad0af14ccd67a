use Rattle.std.proofs.Common.{refl}
use Rattle.dotenvy_lines.proofs.AskedReads.{asks_none}
use Rattle.dotenvy_lines.proofs.lines.Splitter.drop_mark.Goals as goal

pub returns-then-not-is_open-clause-asks : goal.returns-then-not-is_open-clause-asks
returns-then-not-is_open-clause-asks g c =
    asks_none _ c.args.self.now.lines.input c.args.self.now.lines.input refl refl refl refl
