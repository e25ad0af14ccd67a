use Rattle.std.proofs.Common.{◌≡◌, length, inl, refl, rules, ◌∙◌}
use Rattle.std.proofs.lemmas.Bool.{le-leb, leb-true}
use Rattle.dotenvy_c.proofs.load.answer_load.Goals as goal

pub returns-clause-loads : goal.returns-clause-loads
returns-clause-loads c =
    let is = c.in-Ok.ensures.ok in
    let size : c.len.result ≡ length c.in-Ok.loaded.bytes.items = search rules in
    λ known.
    inl record {
      names = is.names;
      told = is.told;
      loads = is.loads;
      status = is.status;
      index = is.index;
      block_len = is.block_len;
      text_len = is.text_len;
      reserved = refl;
      fits = rw (size, is.bytes) (leb-true _ _, le-leb _ _);
      written = rw (c.as_slice.ensures.value ∙ is.bytes) at c.write_if.ensures;
    }
