use Rattle.std.proofs.Common.{rules, arith, refl, ap, ◌≡◌, ◌∙◌, drop}
use Rattle.dotenvy_base.proofs.Basics.{tested_empty, tested_some}
use Rattle.dotenvy_base.proofs.Writes.{slice_rest, sending_start, sending_more, sending_again}
use Rattle.dotenvy_base.proofs.Writes.{sends_all, sends_none_left, sends_failed, sends_zero}
use Rattle.dotenvy_base.proofs.Writes.{is_no_interruption, is_interruption}
use Rattle.dotenvy_base.proofs.output.write_all.Goals as goal
use Rattle.dotenvy_base.proofs.output.write_all.Goals.{in-Ok, in-Err+else-ne}

pub writes-init : goal.writes-init
writes-init g c = sending_start (g.W.Sink.told c.args.writer.now) c.args.bytes.now

pub returns-then-is_empty : goal.returns-then-is_empty
returns-then-is_empty g c =
    sends_all g.W.Sink.told c.writes.invariant (tested_empty _ _ _ c.is_empty.ensures refl c.if-is_empty.true)
    (omega arith)

pub returns-in-Ok-eq0 : goal.returns-in-Ok-eq0
returns-in-Ok-eq0 g c =
    let zero : c.in-Ok-eq0.field-0 ≡ 0 = search rules in
    let e = c.in-Ok-eq0.ensures in
    sends_zero g.W.Sink.told c.writes.invariant
    (rw (← zero) (record { bytes = e.bytes; fault = e.fault; calls = e.calls })) c.writes-test.true
    (tested_some _ _ _ c.is_empty.ensures refl c.if-is_empty.false).1 (search rules)

pub returns-then-ne : goal.returns-then-ne
returns-then-ne g c =
    let e = c.in-Err.ensures in
    sends_failed g.W.Sink.told c.writes.invariant
    (record { bytes = e.bytes; fault = e.fault; calls = e.calls }) c.writes-test.true
    (tested_some _ _ _ c.is_empty.ensures refl c.if-is_empty.false).1
    (is_no_interruption c.in-Err.e c.kind.ensures c.ne.ensures c.if-ne.true)

pub writes-preserved : goal.writes-preserved
writes-preserved g c = elim c.match-write_some.branch [
  | in-Ok w ↦ (
      let e = w.in-Ok.ensures in
      let same : c.match-write_some.rest.now ≡ drop w.in-Ok.n c.writes.rest.now =
      ap (λ r. r.now) w.rest-is ∙ slice_rest w.in-Ok.n c.writes.rest.now in
      rw same (sending_more c.writes.invariant (record { bytes = e.bytes; fault = e.fault; calls = e.calls })
      (search rules) e.bound))
  | in-Err+else-ne w ↦ (
      let e = w.in-Err.ensures in
      let same : c.match-write_some.rest.now ≡ c.writes.rest.now = ap (λ r. r.now) w.rest-is in
      rw same (sending_again c.writes.invariant (record { bytes = e.bytes; fault = e.fault; calls = e.calls })
      (tested_some _ _ _ c.is_empty.ensures refl c.if-is_empty.false).1
      (is_interruption w.in-Err.e w.kind.ensures w.ne.ensures w.if-ne.false)))
]

pub returns-then-is_empty-2 : goal.returns-then-is_empty-2
returns-then-is_empty-2 g c =
    let within = c.writes.auto.counter-end in
    sends_all g.W.Sink.told c.writes.invariant (tested_empty _ _ _ c.is_empty-2.ensures refl c.if-is_empty-2.true)
    (omega (arith, within))

pub returns-else-is_empty-2 : goal.returns-else-is_empty-2
returns-else-is_empty-2 g c =
    let within = c.writes.auto.counter-end in
    let ended = c.writes-test.false in
    sends_none_left g.W.Sink.told c.writes.invariant (omega (arith, within, ended))
    (tested_some _ _ _ c.is_empty-2.ensures refl c.if-is_empty-2.false).1 c.other.ensures.kind
