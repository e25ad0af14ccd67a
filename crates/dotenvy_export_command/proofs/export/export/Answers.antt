use Rattle.std.proofs.Common.{Err, Ok, arith, length, refl}
use Rattle.std.proofs.lemmas.List.{length-map}
use Rattle.dotenvy_export_command.proofs.Endings.{kept_refused, load_refused, stops_within, unwritten_same}
use Rattle.dotenvy_export_command.proofs.export.export.Goals as goal

pub returns-in_err-clone : goal.returns-in_err-clone
returns-in_err-clone g c =
    load_refused g.W.Sink.told c.args.how c.args.inputs.now c.in_err-clone.field-0.0 c.args.writer.now
    c.from_residual.result c.from_residual.ensures.1

pub stop-requires : goal.stop-requires
stop-requires g c =
    let has = c.args.inputs.now.has_names in
    let contents = c.as_slice.ensures.len in
    let names = c.as_slice-in-Err.ensures.len in
    stops_within c.args.how.mode c.args.how.dialect c.args.inputs.now.env.names _
    (length c.as_slice-in-Err.result.now) c.in-Err.stopped
    (omega (arith, has, contents, names, length-map c.as_slice.result.now (λ file. file.items))) c.in-Err.ensures

pub returns-in_err-stop-in-Err : goal.returns-in_err-stop-in-Err
returns-in_err-stop-in-Err g c =
    load_refused g.W.Sink.told c.args.how c.args.inputs.now c.in_err-stop-in-Err.field-0.0 c.args.writer.now
    c.from_residual-in_err-stop-in-Err.result c.from_residual-in_err-stop-in-Err.ensures.1

pub returns-in-Err : goal.returns-in-Err
returns-in-Err g c = (
  Err c.in-Err.stopped,
  rw c.as_slice.ensures.value at c.in-Err.ensures,
  (rw c.as_slice-in-Err.ensures.value at c.in_ok-stop-in-Err.ensures, refl),
)

pub returns-in_err-not_written-in-Err-write_for : goal.returns-in_err-not_written-in-Err-write_for
returns-in_err-not_written-in-Err-write_for g c =
    let same =
    unwritten_same g.W.Sink.told c.args.how.target _ c.args.writer.now c.write_for.new.writer
    c.in-Err-write_for.unwritten c.in-Err-write_for.ensures c.in_err-not_written-in-Err-write_for.ensures.memory in (
      Ok c.in-Ok.env,
      rw c.as_slice.ensures.value at c.in-Ok.ensures,
      kept_refused g.W.Sink.told c.args.how _ c.args.writer.now c.write_for.new.writer
          c.from_residual-in_err-not_written-in-Err-write_for.result
          c.from_residual-in_err-not_written-in-Err-write_for.ensures.1 same,
    )
