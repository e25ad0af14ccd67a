use Rattle.std.proofs.Common.{ap, length, string_bytes}
use Rattle.std.specs.Str.{chars}
use Rattle.std.proofs.lemmas.Str.{encodes-chars}
use Rattle.dotenvy_base.proofs.Basics.{ok-weaker}
use Rattle.dotenvy_format.specs.Characters.{byte_len}
use Rattle.dotenvy_checker.proofs.Parts.{open_part}
use Rattle.dotenvy_checker.proofs.lines.Checker.check_part.Goals as goal

pub returns-in-Text : goal.returns-in-Text
returns-in-Text g c = λ last. rw c.in-Text.is (c.check_text.ensures last)

pub returns-in_ok-said-in-Open : goal.returns-in_ok-said-in-Open
returns-in_ok-said-in-Open g c = λ last.
    let text = chars c.text-open.result.now in
    let is = rw c.in-Open.is at c.text-open.ensures in
    let bytes = ap length (encodes-chars c.text-open.result.now c.text-open.utf8) in
    let fault = rw (
      c.text.ensures.text,
      c.text.ensures.start,
      c.as_slice.ensures.value,
      c.in_ok-characters-in-Open.ensures,
    ) at c.open_fault-fault.ensures in
    let said = rw (← bytes) at c.in_ok-said-in-Open.ensures in
    rw (c.in-Open.is, ← is) (ok-weaker _ _ c.keep_fault.result
    (λ from kept.
    open_part c.args.line last (byte_len text) text (string_bytes c.in_ok-said-in-Open.said) c.open_fault-fault.result
    from fault said kept.0 kept.1)
    c.keep_fault.ensures)
