use Rattle.std.proofs.Common.{◌≡◌, inl, refl, ap, rules, ◌∙◌, length}
use Rattle.dotenvy_c.proofs.Telling.{length-records_from}
use Rattle.dotenvy_c.proofs.items.answer_items.Goals.{then-len-items, else-len-items}
use Rattle.dotenvy_c.proofs.items.answer_items.Goals as goal

pub returns-clause-items : goal.returns-clause-items
returns-clause-items c =
    let has = c.in-Ok.ensures.ok in
    let counted : c.len-2.result ≡ length c.in-Ok.records.items.items = search rules in
    let measured : c.len-3.result ≡ length c.in-Ok.records.text.items = search rules in
    let size = ap length has.items ∙ length-records_from c.args.file.now 0 has.told in
    λ known.
    inl record {
      given = has.given;
      tells = has.tells;
      told = has.told;
      asked = has.asked;
      status = refl;
      items = counted ∙ size;
      text_len = measured ∙ ap length has.text;
      reserved = refl;
      fits = rw (← size, ← has.text) (elim c.if-len-items.branch [
        | then-len-items w ↦ search rules
        | else-len-items w ↦ search rules
      ]);
      records = rw (c.as_slice.ensures.value ∙ has.items) at c.write_if.ensures;
      texts = rw (c.as_slice-2.ensures.value ∙ has.text) at c.write_if-2.ensures;
    }
