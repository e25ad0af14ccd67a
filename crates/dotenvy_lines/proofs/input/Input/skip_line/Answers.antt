use Rattle.std.proofs.Common.{◌≡◌, arith, refl, sym, ◌∙◌, ◌<◌, inl, inr, length, append-nil, true}
use Rattle.std.proofs.lemmas.Bool.{MatchBool-at_true, MatchBool-at_false}
use Rattle.std.proofs.lemmas.Result.{err_from_is_err_and}
use Rattle.dotenvy_lines.specs.Input.{input_measure}
use Rattle.dotenvy_base.proofs.Basics.{nil_of}
use Rattle.dotenvy_format.specs.PhysicalLines.{no_line_feed}
use Rattle.dotenvy_lines.proofs.Inputs.{so_far_none, so_far_more, read_on, final_behind, told_behind}
use Rattle.dotenvy_lines.proofs.AskedReads.{asks_none, asks_on, asks_used, asks_ends}
use Rattle.dotenvy_lines.proofs.input.Input.skip_line.Goals as goal
use Rattle.dotenvy_lines.proofs.input.Input.skip_line.Goals.{then-is_whole-via-then-is_whole}
use Rattle.dotenvy_lines.proofs.input.Input.skip_line.Goals.{then-is_whole-via-else-is_whole+then-is_at_end}

pub skipping-init : goal.skipping-init
skipping-init g c = (
  omega arith,
  λ some. inr some,
  λ a told. so_far_none told,
  asks_none _ _ _ refl refl refl refl,
)

pub returns-then-is_whole-clause-told : goal.returns-then-is_whole-clause-told
returns-then-is_whole-clause-told g c = λ a told.
    let m = read_on (c.skipping.invariant.2 a told) c.line_piece-piece.ensures c.use_up.ensures in (
      m.line,
      record {
        left = m.left;
        moves = m.moves;
        is_line = elim c.then-is_whole.branch [
          | then-is_whole-via-then-is_whole w ↦ inl (MatchBool-at_true _ _ w.if-is_whole.true m.is_line)
          | then-is_whole-via-else-is_whole+then-is_at_end w ↦
              let is = MatchBool-at_false _ _ w.if-is_whole.false m.is_line in
              let all = w.is_at_end.ensures.told _ m.moves.is_left w.if-is_at_end.true in
              inr (is.0, nil_of m.left (all.0 ∙ is.1), all.1, sym w.is_at_end.ensures.value ∙ w.if-is_at_end.true)
        ];
      },
    )

pub skipping-preserved : goal.skipping-preserved
skipping-preserved g c =
    let less : input_measure c.read_more.new.self < input_measure c.args.self.now =
    omega (arith, rw c.use_up.ensures at c.in_ok-read_more.ensures.falls, c.skipping.invariant.0) in (
      omega (arith, less),
      λ some. inl less,
      λ a told.
          let m = read_on (c.skipping.invariant.2 a told) c.line_piece-piece.ensures c.use_up.ensures in
          so_far_more told m.moves (MatchBool-at_false _ _ c.if-is_whole.false m.is_line).0
          c.in_ok-read_more.ensures.told,
      asks_on _ _ _ _ (asks_used _ c.use_up.ensures c.skipping.invariant.3) c.in_ok-read_more.ensures.asks,
    )

pub returns-in_err-read_more-clause-told : goal.returns-in_err-read_more-clause-told
returns-in_err-read_more-clause-told g c = λ a told.
    let p = err_from_is_err_and c.from_residual.result c.from_residual.ensures.1 in
    let m = read_on (c.skipping.invariant.2 a told) c.line_piece-piece.ensures c.use_up.ensures in
    let is = MatchBool-at_false _ _ c.if-is_whole.false m.is_line in
    rw (p.1, p.2) (final_behind _ (λ bytes. length bytes ≡ c.use_up.new.self.unread)
    (λ bytes. no_line_feed bytes ≡ true) c.in_err-read_more.field-0.0 m.moves
    (λ front later cut none. rw (nil_of front (none ∙ is.1), append-nil) is.0)
    (c.in_err-read_more.ensures.told _ (told_behind told m.moves)))

pub returns-in_err-read_more-clause-asks : goal.returns-in_err-read_more-clause-asks
returns-in_err-read_more-clause-asks g c =
    asks_ends _ _ c.from_residual.ensures.1 (asks_used _ c.use_up.ensures c.skipping.invariant.3)
    c.in_err-read_more.ensures.asks
