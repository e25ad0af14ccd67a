use Rattle.std.proofs.Common.{◌≡◌, ◌∙◌, ap, arith, inl, length, length-append, refl, rules}
use Rattle.dotenvy_c.specs.Warnings.{warning_names}
use Rattle.dotenvy_c.proofs.Warned.{length-told_from}
use Rattle.dotenvy_c.proofs.edit.answer_edit.Goals.{then-len-warnings, else-len-warnings}
use Rattle.dotenvy_c.proofs.edit.answer_edit.Goals as goal

pub returns : goal.returns
returns c =
    let has = c.in-Ok-told_file.ensures in
    let edited = c.in-Ok.edited in
    let file : c.len-file_len.result ≡ length edited.bytes.items = search rules in
    let measured : c.len-2.result ≡ length c.in-Ok-told_file.told.bytes.items = search rules in
    let counted : c.len-3.result ≡ length c.in-Ok-told_file.told.warnings.items = search rules in
    let whole = ap length has.bytes in
    let size = ap length has.warnings ∙ length-told_from (length edited.bytes.items) edited.warnings.items in
    let parts = length-append edited.bytes.items (warning_names edited.warnings.items) in
    rw c.in-Ok.is
    (inl record {
      status = refl;
      line = refl;
      file_len = file;
      names_len = omega (arith, measured, whole, parts, file);
      warnings = counted ∙ size;
      reserved = refl;
      fits = rw (← size, ← whole) (elim c.if-len-warnings.branch [
        | then-len-warnings w ↦ search rules
        | else-len-warnings w ↦ search rules
      ]);
      records = rw (c.as_slice.ensures.value ∙ has.warnings) at c.write_if.ensures;
      bytes = rw (c.as_slice-2.ensures.value ∙ has.bytes) at c.write_if-2.ensures;
    })
