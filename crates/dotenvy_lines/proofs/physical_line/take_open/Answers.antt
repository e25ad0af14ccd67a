use Rattle.std.proofs.Common.{◌≡◌, ◌∙◌, ◌∷◌, [], ◌++◌, ap, arith, refl, append_assoc, string_bytes}
use Rattle.std.specs.Str.{chars}
use Rattle.std.proofs.lemmas.Str.{IsUtf8-string_bytes, chars-append, encode_ascii}
use Rattle.dotenvy_format.specs.Characters.{line_feed}
use Rattle.dotenvy_format.proofs.lines.OpenLines.{open_begins, open_line_text}
use Rattle.dotenvy_lines.proofs.WholeLines.{open_taken, whole_falls}
use Rattle.dotenvy_lines.proofs.LineJoins.{begun_chars}
use Rattle.dotenvy_lines.proofs.AskedReads.{asks_none}
use Rattle.dotenvy_lines.proofs.physical_line.take_open.Goals as goal

pub returns-in_default-clause-open : goal.returns-in_default-clause-open
returns-in_default-clause-open g c = (
  refl,
  refl,
  λ a left line is. c.in_default.ensures line (rw (c.unread.ensures.told a left) is),
)

pub returns-in_default-clause-asks : goal.returns-in_default-clause-asks
returns-in_default-clause-asks g c = asks_none _ _ _ refl refl refl refl

pub returns-in_err-push_str-clause-asks : goal.returns-in_err-push_str-clause-asks
returns-in_err-push_str-clause-asks g c = asks_none _ _ _ refl refl refl refl

pub returns-in_err-push-clause-asks : goal.returns-in_err-push-clause-asks
returns-in_err-push-clause-asks g c = asks_none _ _ _ refl refl refl refl

pub returns-clause-open : goal.returns-clause-open
returns-clause-open g c =
    let is = c.in-Some.ensures in
    let old = string_bytes c.args.text.now in
    let line = c.in-Some.line.now in
    let bytes : string_bytes c.push.new.self ≡ old ++ (line ++ line_feed ∷ []) =
    c.in_ok-push.ensures.bytes
    ∙ rw (c.in_ok-push_str.ensures.bytes, encode_ascii line_feed (omega arith), append_assoc) refl in
    let pushed : chars (string_bytes c.push.new.self) ≡ chars old ++ (chars line ++ line_feed ∷ []) =
    ap chars bytes ∙ chars-append old (line ++ line_feed ∷ []) (IsUtf8-string_bytes c.args.text.now)
    ∙ ap (λ more. chars old ++ more) (open_line_text is) in
    let some = begun_chars old (IsUtf8-string_bytes c.args.text.now) c.requires.1 in
    rw (c.use_up.ensures, pushed) (
      whole_falls c.args.input.now c.unread.ensures.len (open_begins is),
      λ a left. open_taken (chars old) c.requires.0 some (c.unread.ensures.told a left) c.unread.ensures.len left is,
    )

pub returns-clause-asks : goal.returns-clause-asks
returns-clause-asks g c = rw c.use_up.ensures (asks_none _ _ _ refl refl refl refl)
