use Rattle.std.proofs.Common.{◌≡◌, ◌∙◌, refl, sym, Some, None}
use Rattle.dotenvy_format.proofs.lines.WholeLines.{found_kept, found_shorter, only_end, only_kept}
use Rattle.dotenvy_format.proofs.walk.whole_line.Goals as goal

pub slice_bounds-as_text-count : goal.slice_bounds-as_text-count
slice_bounds-as_text-count c = found_shorter c.args.bytes.now c.in_ok-end.end.now c.in_ok-end.ensures

pub returns-in_err-end : goal.returns-in_err-end
returns-in_err-end c =
    rw c.from_residual.ensures (λ kept rest is.
    let none : None ≡ Some is.end = sym c.in_err-end.ensures ∙ is.ends in cc)

pub returns-in_err-rest : goal.returns-in_err-rest
returns-in_err-rest c =
    rw c.from_residual-in_err-rest.ensures (λ kept rest is.
    c.in_err-rest.ensures rest (rw (only_end c.in_ok-end.ensures is) at is.line))

pub returns-in_err-kept : goal.returns-in_err-kept
returns-in_err-kept c =
    rw c.from_residual-in_err-kept.ensures (λ kept rest is.
    c.in_err-kept.ensures (rw (only_kept _ c.in_ok-end.ensures refl is) at is.text))

pub returns : goal.returns
returns c =
    let ends = c.in_ok-end.ensures in
    let kept = c.in_ok-kept.ensures in record {
      text = kept.1;
      end = c.in_ok-end.end.now;
      begins = rw kept.0 (found_kept _ ends refl);
      ends = ends;
      line = c.in_ok-rest.ensures;
    }
