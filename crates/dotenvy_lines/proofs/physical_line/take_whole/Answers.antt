use Rattle.std.proofs.Common.{◌≡◌, ◌∙◌, ◌++◌, ap, refl, string_bytes}
use Rattle.std.specs.Str.{chars}
use Rattle.std.proofs.lemmas.Str.{IsUtf8-string_bytes, chars-append}
use Rattle.dotenvy_lines.proofs.WholeLines.{closed_falls, closed_taken}
use Rattle.dotenvy_lines.proofs.AskedReads.{asks_none}
use Rattle.dotenvy_lines.proofs.physical_line.take_whole.Goals as goal

pub returns-in_default-clause-whole : goal.returns-in_default-clause-whole
returns-in_default-clause-whole g c = (
  refl,
  refl,
  λ a left kept rest is. c.in_default.ensures kept rest (rw (c.unread.ensures.told a left) is),
)

pub returns-in_default-clause-asks : goal.returns-in_default-clause-asks
returns-in_default-clause-asks g c = asks_none _ _ _ refl refl refl refl

pub returns-in_err-push_str-clause-asks : goal.returns-in_err-push_str-clause-asks
returns-in_err-push_str-clause-asks g c = asks_none _ _ _ refl refl refl refl

pub returns-clause-whole : goal.returns-clause-whole
returns-clause-whole g c =
    let is = c.in-Some.ensures in
    let old = string_bytes c.args.text.now in
    let kept = c.in-Some.line.kept.now in
    let pushed : chars (string_bytes c.push_str.new.self) ≡ chars old ++ chars kept =
    ap chars c.in_ok-push_str.ensures.bytes ∙ chars-append old kept (IsUtf8-string_bytes c.args.text.now) in
    rw (c.use_up.ensures, c.drop_carriage_return.ensures, pushed) (
      closed_falls c.args.input.now c.unread.ensures.len is,
      λ a left. closed_taken (chars old) (c.unread.ensures.told a left) c.unread.ensures.len left is,
    )

pub returns-clause-asks : goal.returns-clause-asks
returns-clause-asks g c = rw c.use_up.ensures (asks_none _ _ _ refl refl refl refl)
