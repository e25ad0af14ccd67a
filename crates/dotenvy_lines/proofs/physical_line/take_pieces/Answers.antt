use Rattle.std.proofs.Common.{rules, arith, refl, ◌≡◌, ◌<◌, inl, inr, length, string_bytes, true}
use Rattle.std.specs.Prelude.{string_len}
use Rattle.std.specs.Str.{chars}
use Rattle.std.proofs.lemmas.Str.{IsUtf8-string_bytes, IsUtf8-nil, chars-nil}
use Rattle.std.proofs.lemmas.Result.{err_from_is_err_and}
use Rattle.dotenvy_lines.specs.Input.{input_measure}
use Rattle.dotenvy_base.proofs.Basics.{tested_empty, tested_some}
use Rattle.dotenvy_lines.proofs.LineJoins.{begun_chars}
use Rattle.dotenvy_lines.proofs.Inputs.{final_behind, so_far_none, so_far_more, none_after, read_front, told_behind}
use Rattle.dotenvy_lines.proofs.TakenLines.{starts_blank, pieced, in_line-ends, in_line-input-ends}
use Rattle.dotenvy_lines.proofs.TakenLines.{in_line-breaks}
use Rattle.dotenvy_format.specs.PhysicalLines.{no_line_feed}
use Rattle.dotenvy_lines.proofs.AskedReads.{asks_none, asks_on, asks_then, asks_ends}
use Rattle.dotenvy_lines.proofs.physical_line.take_pieces.Goals as goal

pub pieces-init : goal.pieces-init
pieces-init g c =
    let text = string_bytes c.args.text.now in
    let len : string_len c.args.text.now ≡ length text = search rules in (
      omega arith,
      inr c.requires,
      λ a told.
          let walks =
          starts_blank c.args.mode (chars text) c.is_empty.result
          (λ is. rw (tested_empty text _ c.is_empty.result c.is_empty.ensures len is) chars-nil)
          (λ is. begun_chars text (IsUtf8-string_bytes c.args.text.now)
          (tested_some text _ c.is_empty.result c.is_empty.ensures len is).1) in
          rw c.starting-progress.ensures (record {
            so_far = so_far_none told;
            is_text = IsUtf8-nil;
            walks = walks;
            waits = λ e. c.requires;
          }),
      asks_none _ _ _ refl refl refl refl,
    )

pub returns-in-LineEnd-clause-told : goal.returns-in-LineEnd-clause-told
returns-in-LineEnd-clause-told g c = λ a told.
    let k = pieced (c.pieces.invariant.2 a told) c.in_ok-step.ensures.told in
    rw c.at_line_end.ensures (elim c.in-LineEnd.is [
      | inl is ↦ in_line-ends (rw is at k)
      | inr is ↦ in_line-input-ends (rw is at k)
    ])

pub returns-in-LineEnd-clause-falls : goal.returns-in-LineEnd-clause-falls
returns-in-LineEnd-clause-falls g c = elim c.in-LineEnd.is [
  | inl is ↦ omega (arith, rw is at c.in_ok-step.ensures.falls, c.pieces.invariant.0)
  | inr is ↦ grind (arith, rw is at c.in_ok-step.ensures.falls, c.pieces.invariant, c.take_piece.ensures)
]

pub returns-in-LineEnd-clause-asks : goal.returns-in-LineEnd-clause-asks
returns-in-LineEnd-clause-asks g c = asks_then c.pieces.invariant.3 c.in_ok-step.ensures.asks (λ goes. tt)

pub returns-in_err-step-clause-asks : goal.returns-in_err-step-clause-asks
returns-in_err-step-clause-asks g c =
    asks_ends _ _ c.from_residual.ensures.1 c.pieces.invariant.3 c.in_err-step.ensures.asks

pub returns-in_err-skip_line-in-Broken-clause-told : goal.returns-in_err-skip_line-in-Broken-clause-told
returns-in_err-skip_line-in-Broken-clause-told g c = λ a told.
    let r = c.from_residual-in_err-skip_line-in-Broken in
    let p = err_from_is_err_and r.result r.ensures.1 in
    let k = rw c.in-Broken.is at (pieced (c.pieces.invariant.2 a told) c.in_ok-step.ensures.told) in
    rw (p.1, p.2) (final_behind _ (λ bytes. no_line_feed bytes ≡ true) (λ bytes. no_line_feed bytes ≡ true)
    c.in_err-skip_line-in-Broken.field-0.0 k.moves (λ front later cut. none_after k.line front k.stands.0)
    (c.in_err-skip_line-in-Broken.ensures.told _ (told_behind told k.moves)))

pub returns-in_err-skip_line-in-Broken-clause-asks : goal.returns-in_err-skip_line-in-Broken-clause-asks
returns-in_err-skip_line-in-Broken-clause-asks g c =
    asks_ends _ _ c.from_residual-in_err-skip_line-in-Broken.ensures.1
    (asks_then c.pieces.invariant.3 c.in_ok-step.ensures.asks (λ goes. tt)) c.in_err-skip_line-in-Broken.ensures.asks

pub returns-in-Broken-clause-told : goal.returns-in-Broken-clause-told
returns-in-Broken-clause-told g c = λ a told.
    let k = pieced (c.pieces.invariant.2 a told) c.in_ok-step.ensures.told in
    in_line-breaks told (rw c.in-Broken.is at k) c.in_ok-skip_line-in-Broken.ensures.told

pub returns-in-Broken-clause-asks : goal.returns-in-Broken-clause-asks
returns-in-Broken-clause-asks g c =
    asks_on _ _ _ _ (asks_then c.pieces.invariant.3 c.in_ok-step.ensures.asks (λ goes. tt))
    c.in_ok-skip_line-in-Broken.ensures.asks

pub pieces-preserved : goal.pieces-preserved
pieces-preserved g c =
    let less : input_measure c.read_more.new.self < input_measure c.args.input.now =
    omega (arith, c.pieces.invariant.0, c.take_piece.ensures.measure, c.in_ok-read_more-in-Unread.ensures.falls) in (
      omega (arith, less),
      inl less,
      λ a told.
          let k = rw c.in-Unread.is at (pieced (c.pieces.invariant.2 a told) c.in_ok-step.ensures.told) in record {
            so_far = so_far_more told k.moves k.stands.0 c.in_ok-read_more-in-Unread.ensures.told;
            is_text = k.is_text;
            walks = k.walks;
            waits = λ e. omega (arith, k.waits e, c.read_more.ensures.grows);
          },
      asks_on _ _ _ _ (asks_then c.pieces.invariant.3 c.in_ok-step.ensures.asks (λ goes. tt))
          c.in_ok-read_more-in-Unread.ensures.asks,
    )

pub returns-in_err-read_more-in-Unread-clause-told : goal.returns-in_err-read_more-in-Unread-clause-told
returns-in_err-read_more-in-Unread-clause-told g c = λ a told.
    let r = c.from_residual-in_err-read_more-in-Unread in
    let p = err_from_is_err_and r.result r.ensures.1 in
    let k = rw c.in-Unread.is at (pieced (c.pieces.invariant.2 a told) c.in_ok-step.ensures.told) in
    rw (p.1, p.2) (final_behind _ (λ bytes. length bytes ≡ c.take_piece.new.input.unread)
    (λ bytes. no_line_feed bytes ≡ true) c.in_err-read_more-in-Unread.field-0.0 k.moves
    (λ front later cut read.
    none_after k.line front k.stands.0 (rw (read_front k.left front later _ cut read) at k.stands.1))
    (c.in_err-read_more-in-Unread.ensures.told _ (told_behind told k.moves)))

pub returns-in_err-read_more-in-Unread-clause-asks : goal.returns-in_err-read_more-in-Unread-clause-asks
returns-in_err-read_more-in-Unread-clause-asks g c =
    asks_ends _ _ c.from_residual-in_err-read_more-in-Unread.ensures.1
    (asks_then c.pieces.invariant.3 c.in_ok-step.ensures.asks (λ goes. tt)) c.in_err-read_more-in-Unread.ensures.asks
