use Rattle.std.proofs.Common.{◌≡◌, ◌∙◌, ◌==◌, ◌++◌, arith, ap, string_bytes}
use Rattle.std.specs.Str.{chars}
use Rattle.std.proofs.lemmas.Str.{IsUtf8-string_bytes, chars-append}
use Rattle.dotenvy_format.specs.inside.Walk.{kept_before}
use Rattle.dotenvy_format.proofs.lines.LineTexts.{kept_at_line_feed, kept_elsewhere}
use Rattle.dotenvy_lines.proofs.physical_line.walk_on.Goals as goal
use Rattle.dotenvy_lines.proofs.physical_line.walk_on.Goals.{then-end-eq10, else-end-eq10}

pub returns-in_ok-push_str-in-Going-clause-walks : goal.returns-in_ok-push_str-in-Going-clause-walks
returns-in_ok-push_str-in-Going-clause-walks g c = (
  c.in-Going.ensures,
  ap chars c.in_ok-push_str-in-Going.ensures.bytes
      ∙ chars-append (string_bytes c.args.text.now) c.args.piece.now (IsUtf8-string_bytes c.args.text.now),
)

pub returns-after-end-eq10-clause-walks : goal.returns-after-end-eq10-clause-walks
returns-after-end-eq10-clause-walks g c =
    let old = string_bytes c.args.text.now in
    let end = c.in-EndedAt.end in
    let all = chars old ++ chars c.range.result.now in
    let pushed : chars (string_bytes c.push_str-in-EndedAt.new.self) ≡ all =
    ap chars c.in_ok-push_str-in-EndedAt.ensures.bytes
    ∙ chars-append old c.range.result.now (IsUtf8-string_bytes c.args.text.now) in
    let kept : chars (string_bytes c.if-end-eq10.text) ≡ kept_before end all =
    elim c.if-end-eq10.branch [
      | then-end-eq10 w ↦
          rw (w.text-is, w.drop_carriage_return.ensures, pushed)
          (kept_at_line_feed end all (ap (λ d. d == 10) w.if-end-eq10.true))
      | else-end-eq10 w ↦ rw (w.text-is, pushed) (kept_elsewhere end all w.if-end-eq10.false)
    ] in
    grind (arith, kept, c.range.ensures.value, c.in-EndedAt.ensures.2 (chars old))
