use Rattle.std.proofs.Common.{sym, ◌∙◌, ap, string_bytes}
use Rattle.std.specs.Prelude.{not}
use Rattle.dotenvy_checker.proofs.DeclaredNames.{declared_more, none_is}
use Rattle.dotenvy_checker.proofs.declared.Declared.declare.Goals as goal

pub returns-in_ok-insert : goal.returns-in_ok-insert
returns-in_ok-insert g c =
    declared_more c.args.self.now.lines c.insert.new.self (string_bytes c.in_ok-from_str.field-0) c.args.key.now
    c.args.line c.in_ok-from_str.ensures.ok
    (sym c.first_line.ensures ∙ none_is c.first_line.result (c.is_none.ensures ∙ ap not c.if-is_none.true))
    c.in_ok-insert.ensures.updates
