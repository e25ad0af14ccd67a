use Rattle.std.proofs.Common.{◌≡◌, ◌∙◌, refl, sym, Some, None}
use Rattle.dotenvy_format.proofs.lines.OpenLines.{feed_shorter, open_text}
use Rattle.dotenvy_format.proofs.walk.open_line.Goals as goal

pub slice_bounds-as_text-count : goal.slice_bounds-as_text-count
slice_bounds-as_text-count c = feed_shorter c.args.quote c.args.bytes.now c.in_ok-end.end.now c.in_ok-end.ensures

pub returns-in_err-end : goal.returns-in_err-end
returns-in_err-end c =
    rw c.from_residual.ensures (λ line is.
    let none : None ≡ Some is.end = sym c.in_err-end.ensures ∙ is.ends in cc)

pub returns : goal.returns
returns c = open_text c.args.quote c.args.bytes.now _ c.as_text.result c.in_ok-end.ensures refl c.as_text.ensures
