-- Whole statements are within the bytes.
use Rattle.std.proofs.Common.{ℕ, ◌≤◌, ◌∙◌, List, length, ap, arith, inl, inr, length-append, length-drop}
use Rattle.std.specs.Prelude.{nat_eq}
use Rattle.std.specs.List.{starts_with}
use Rattle.std.proofs.lemmas.Bool.{cases_Bool}
use Rattle.dotenvy_format.proofs.lines.DecidedFront.{front_is}
use Rattle.dotenvy_format.specs.Decided.{up_to_last_line_feed}
use Rattle.dotenvy.specs.Marks.{byte_order_mark, without_mark}
use Rattle.dotenvy_editor.specs.Slices.{slices_bytes}
use Rattle.dotenvy_editor.specs.Whole.{IsWholeLen}
use Rattle.dotenvy_c.specs.Options.{bytes_asked, has_option}

-- whole lines are no more bytes than there are
pub whole_fits : {bytes : List ℕ} {count : ℕ} → IsWholeLen bytes count → count ≤ length bytes
whole_fits {bytes} {count} is =
    let front = front_is bytes in
    let all = ap length front.joins ∙ length-append (up_to_last_line_feed bytes) front.after in
    let lines = ap length is.cut ∙ length-append (slices_bytes is.slices) is.left in
    omega (arith, all, lines, is.counts)

-- without a byte order mark there are no more bytes
mark_fits : (file : List ℕ) → length (without_mark file) ≤ length file
mark_fits file = elim (cases_Bool (starts_with nat_eq file byte_order_mark)) [
  | inl is ↦ rw is (omega (arith, length-drop 3 file))
  | inr not ↦ rw not (omega arith)
]

-- the bytes that are asked for are no more than those of the file
pub asked_fits : (options : ℕ) (file : List ℕ) → length (bytes_asked options file) ≤ length file
asked_fits options file = elim (cases_Bool (has_option options 4)) [
  | inl is ↦ rw is (mark_fits file)
  | inr not ↦ rw not (omega arith)
]
