use Rattle.std.proofs.Common.{◌≡◌, ◌++◌, ℕ, Ok, rules}
use Rattle.std.proofs.lemmas.Iterator.{YieldsList-from_chars}
use Rattle.std.proofs.lemmas.Iterator.Adapters.{items_from_extend}
use Rattle.std.specs.Str.{chars}
use Rattle.dotenvy_findings.proofs.line.characters_of.Goals as goal

pub returns : goal.returns
returns g c =
    let read = YieldsList-from_chars c.args.text.now c.utf8.text c.chars.ensures.rest in
    let added : c.extend.new.self.items ≡ c.in_ok-characters.characters.items ++ chars c.args.text.now =
    (items_from_extend {E = ℕ} (Ok tt) c.in_ok-extend.ensures.ran read).0 in
    search (rules, added)
