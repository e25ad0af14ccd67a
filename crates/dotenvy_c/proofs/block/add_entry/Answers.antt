use Rattle.std.proofs.Common.{rules, ◌∙◌, ap, arith}
use Rattle.std.specs.List.{before_first, after_first}
use Rattle.dotenvy_c.specs.Block.{is_equals}
use Rattle.dotenvy_c.proofs.Entries.{no_text, added}
use Rattle.dotenvy_c.proofs.block.add_entry.Goals as goal

pub returns-in_default-clause-ok : goal.returns-in_default-clause-ok
returns-in_default-clause-ok c = let e = no_text c.args.entry.now c.in_default.ensures.cases.0 in rw e (search rules)

pub returns-clause-ok : goal.returns-clause-ok
returns-clause-ok c =
    let text = c.in-Ok.ensures.cases.0 in
    let cut = c.in-Some.ensures.byte (omega arith) (λ w o found. found) in
    added c.args.pairs.now.items c.push.new.self.items c.in_ok-name.name c.in_ok-from_str.field-0 c.args.entry.now
    c.in_ok-push.ensures.items c.in-Ok.ensures.cases.1
    (rw text at cut.2)
    (c.in_ok-name.ensures.ok ∙ cut.0 ∙ ap (before_first is_equals) text)
    (c.in_ok-from_str.ensures.ok ∙ cut.1 ∙ ap (after_first is_equals) text)
