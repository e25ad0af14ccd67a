use Rattle.std.proofs.Common.{refl, string_bytes}
use Rattle.std.specs.Str.{chars}
use Rattle.dotenvy_base.proofs.Basics.{ok-weaker}
use Rattle.dotenvy_items.specs.Meaning.{look_up_of}
use Rattle.dotenvy_items.proofs.LinePasses.{says_declared}
use Rattle.dotenvy_checker.proofs.Parts.{fault_part, nothing_part, pair_part}
use Rattle.dotenvy_checker.proofs.lines.Checker.check_text.Goals as goal

pub returns-in-Ok-None : goal.returns-in-Ok-None
returns-in-Ok-None g c = λ last.
    nothing_part c.args.line last (chars c.args.text.now) (rw c.in-Ok-None.field-0-is at c.in-Ok-None.ensures)

pub returns-in_ok-check_declaration-in-Ok-Some : goal.returns-in_ok-check_declaration-in-Ok-Some
returns-in_ok-check_declaration-in-Ok-Some g c = λ last.
    let declared = rw c.in-Ok-Some.field-0-is at c.in-Ok-Some.ensures in
    let key = chars c.in-Ok-Some.declaration.key.now in
    pair_part c.args.line last (chars c.args.text.now) key declared.pieces
    (says_declared c.args.self.now.dialect (look_up_of c.args.self.now.names) (chars c.args.text.now) key
    c.in-Ok-Some.declaration declared refl) c.in_ok-check_declaration-in-Ok-Some.ensures

pub returns-in_ok-said-in-Err : goal.returns-in_ok-said-in-Err
returns-in_ok-said-in-Err g c = λ last.
    let fault = rw (
      c.text.ensures.dialect,
      c.text.ensures.text,
      c.text.ensures.start,
      c.as_slice.ensures.value,
      c.in_ok-characters-in-Err.ensures,
    ) at c.fault-fault.ensures in
    ok-weaker _ _ c.keep_fault.result
    (λ from kept.
    fault_part c.args.line last c.in-Err.wrong.index (chars c.args.text.now) (chars c.in-Err.wrong.text.now)
    (string_bytes c.in_ok-said-in-Err.said) c.fault-fault.result from c.in-Err.ensures fault
    c.in_ok-said-in-Err.ensures kept.0 kept.1)
    c.keep_fault.ensures
