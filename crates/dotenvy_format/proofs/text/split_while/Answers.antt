use Rattle.std.proofs.Common.{◌∙◌, sym, arith, ap, length, length-drop}
use Rattle.std.proofs.lemmas.Str.{chars-nil}
use Rattle.dotenvy_format.proofs.bytes.Slices.{begins_shorter}
use Rattle.dotenvy_format.proofs.bytes.ByteRuns.{run_passes, passed_none, passed_run, passed_first}
use Rattle.dotenvy_format.proofs.bytes.ByteRuns.{passed_boundary, passed_all, run_cut}
use Rattle.dotenvy_format.proofs.text.split_while.Goals as goal
use Rattle.dotenvy_format.proofs.text.split_while.Goals.{in_default-via-in-Some+else-contains, in_default-via-in_default}

pub split_at-requires : goal.split_at-requires
split_at-requires c =
    let run =
    run_passes c.args.class c.utf8.text c.as_bytes-bytes.ensures.value c.run_end.ensures c.unwrap_or.ensures in
    run.boundary

pub returns-then-ends_by_bytes-clause-span : goal.returns-then-ends_by_bytes-clause-span
returns-then-ends_by_bytes-clause-span c =
    rw (c.split_at.ensures.front, c.split_at.ensures.back) (run_cut c.args.class c.utf8.text
    c.as_bytes-bytes.ensures.value c.run_end.ensures c.unwrap_or.ensures
    (sym c.ends_by_bytes.ensures ∙ c.if-ends_by_bytes.true))

pub runs-init : goal.runs-init
runs-init c = (c.utf8.text, passed_none c.utf8.text)

pub split_at-requires-in-runs : goal.split_at-requires-in-runs
split_at-requires-in-runs c =
    let run =
    run_passes c.args.class c.runs.invariant.0 c.as_bytes-bytes-in-runs.ensures.value
    c.run_end-in-runs.ensures c.unwrap_or-in-runs.ensures in
    run.boundary

pub split_at-requires-in_default : goal.split_at-requires-in_default
split_at-requires-in_default c =
    let run =
    run_passes c.args.class c.runs.invariant.0 c.as_bytes-bytes-in-runs.ensures.value
    c.run_end-in-runs.ensures c.unwrap_or-in-runs.ensures in
    passed_boundary (passed_run c.utf8.text c.runs.invariant.1 run c.split_at-in-runs.ensures.back)

pub runs-smaller : goal.runs-smaller
runs-smaller c =
    let less = begins_shorter c.in-Some.ensures in
    omega (arith, ap length c.split_at-in-runs.ensures.back, length-drop c.unwrap_or-in-runs.result c.runs.rest.now)

pub runs-preserved : goal.runs-preserved
runs-preserved c =
    let run =
    run_passes c.args.class c.runs.invariant.0 c.as_bytes-bytes-in-runs.ensures.value
    c.run_end-in-runs.ensures c.unwrap_or-in-runs.ensures in
    let passed = passed_run c.utf8.text c.runs.invariant.1 run c.split_at-in-runs.ensures.back in
    let after = passed_first c.utf8.text passed c.in-Some.ensures in
    (c.in-Some.ensures.follows, after (rw (← c.contains.ensures) c.if-contains.true))

pub returns-in_default-clause-span : goal.returns-in_default-clause-span
returns-in_default-clause-span c =
    let run =
    run_passes c.args.class c.runs.invariant.0 c.as_bytes-bytes-in-runs.ensures.value
    c.run_end-in-runs.ensures c.unwrap_or-in-runs.ensures in
    rw (c.split_at-in_default.ensures.front, c.split_at-in_default.ensures.back) (passed_all c.utf8.text
    (passed_run c.utf8.text c.runs.invariant.1 run c.split_at-in-runs.ensures.back)
    (elim c.in_default.branch [
      | in_default-via-in-Some+else-contains w ↦
          rw (w.in-Some.ensures.characters, ← w.contains.ensures, w.if-contains.false)
      | in_default-via-in_default w ↦ rw (w.in_default.ensures, chars-nil)
    ]))
