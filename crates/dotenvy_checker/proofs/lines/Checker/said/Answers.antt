use Rattle.std.proofs.Common.{◌≡◌, ◌∙◌, List, ℕ, ap, string_bytes}
use Rattle.std.specs.Prelude.{encode_utf8_all}
use Rattle.std.specs.Str.{chars}
use Rattle.std.proofs.lemmas.Str.{encodes-chars}
use Rattle.dotenvy_base.specs.Errors.{line_parse_text}
use Rattle.dotenvy_base.proofs.Basics.{ok-weaker}
use Rattle.dotenvy_reports.specs.OneLine.{on_one_line}
use Rattle.dotenvy_checker.proofs.lines.Checker.said.Goals as goal

pub returns : goal.returns
returns g c =
    let text = c.args.text.now in
    let printed : string_bytes c.in_ok-printed.printed ≡ line_parse_text (encode_utf8_all (chars text)) c.args.index =
    rw (encodes-chars text c.utf8.text, ← c.in_ok-from_str.ensures.ok) c.in_ok-printed.ensures.ok in
    rw c.if-not-self.false (ok-weaker _ _ c.one_line.result
    (λ line is. is ∙ ap (λ (shown : List ℕ). on_one_line (chars shown)) (c.as_str.ensures.value ∙ printed))
    c.one_line.ensures)
