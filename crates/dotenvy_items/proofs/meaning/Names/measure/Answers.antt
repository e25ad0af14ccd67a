use Rattle.std.proofs.Common.{rules, [], ◌++◌, refl, sym, arith, ap, length, length-append, Fits, w64}
use Rattle.std.specs.Str.{chars}
use Rattle.std.proofs.lemmas.Str.{chars-nil}
use Rattle.dotenvy_items.specs.Meaning.{look_up_of}
use Rattle.dotenvy_format.proofs.values.Readings.{none_read, read_then, stop_then}
use Rattle.dotenvy_items.proofs.Meanings.{counted, all_read}
use Rattle.dotenvy_items.proofs.meaning.Names.measure.Goals as goal

pub returns-in-Some : goal.returns-in-Some
returns-in-Some g c =
    let alone = c.in-Some.ensures c.args.dialect in
    let look_up = look_up_of c.args.self.now in
    let bound : Fits w64 (length c.in-Some.text.now) = search rules in (
      refl,
      rw alone.1 (record {
        len = omega (arith, bound.fits, ap length (alone.2 look_up));
        whole = alone.2 look_up;
        known = tt;
      }),
    )

pub pieces-init : goal.pieces-init
pieces-init g c = (c.utf8.value, ([], none_read _ _ _, refl, tt))

pub returns-in-End : goal.returns-in-End
returns-in-End g c =
    let i = c.pieces.invariant.1 in
    let look_up = look_up_of c.args.self.now in
    let texts = c.measure_texts-texts.ensures in
    let read = texts.reads c.args.dialect in
    let len = counted look_up i.0 read.pieces i.2 texts.len (sym (read.means look_up)) in (
      refl,
      rw (all_read _ _ _ _ _ _ (read_then i.1 read.is_read) c.in-End.ensures.next) (record {
        len = rw c.saturating_add-len.ensures len;
        whole = tt;
        known = i.3;
      }),
    )

pub step-step-requires : goal.step-step-requires
step-step-requires g c = c.pieces.invariant.1.3

pub returns-in-Unfinished : goal.returns-in-Unfinished
returns-in-Unfinished g c =
    let i = c.pieces.invariant.1 in
    let read = c.measure_texts-texts.ensures.reads c.args.dialect in
    rw chars-nil (stop_then (read_then i.1 read.is_read) c.in-Unfinished.ensures.next)

pub returns-in-Fault : goal.returns-in-Fault
returns-in-Fault g c =
    let i = c.pieces.invariant.1 in
    let read = c.measure_texts-texts.ensures.reads c.args.dialect in
    stop_then (read_then i.1 read.is_read) c.in-Fault.ensures.next

pub pieces-preserved : goal.pieces-preserved
pieces-preserved g c =
    let i = c.pieces.invariant.1 in
    let next = c.in-Piece.ensures.next in
    let look_up = look_up_of c.args.self.now in
    let texts = c.measure_texts-texts.ensures in
    let read = texts.reads c.args.dialect in
    let len = counted look_up i.0 read.pieces i.2 texts.len (sym (read.means look_up)) in
    let more = counted look_up (i.0 ++ read.pieces) next.pieces (rw c.saturating_add-len.ensures len)
    c.step-step.ensures.len (next.means look_up) in (
      next.follows,
      (
        (i.0 ++ read.pieces) ++ next.pieces,
        read_then (read_then i.1 read.is_read) next.is_read,
        rw c.saturating_add-len-in-pieces.ensures more,
        c.step-step.ensures.known,
      ),
    )

pub pieces-smaller : goal.pieces-smaller
pieces-smaller g c =
    let read = c.measure_texts-texts.ensures.reads c.args.dialect in
    omega (
      arith,
      c.in-Piece.ensures.shorter,
      ap length read.is_read.spelled,
      length-append read.is_read.front (chars c.measure_texts-texts.result.rest.now),
    )
