use Rattle.std.proofs.Common.{◌≡◌, refl, sym}
use Rattle.std.specs.Prelude.{None}
use Rattle.dotenvy_items.specs.Listed.{pairs_of}
use Rattle.dotenvy_exporter.specs.Targets.{first_refusal}
use Rattle.dotenvy_exporter.proofs.ReadsBack.{reads_back}
use Rattle.dotenvy_exporter.proofs.export.write_for.Goals as goal

pub returns-in-Ok : goal.returns-in-Ok
returns-in-Ok g c =
    let pairs = pairs_of c.args.env.now.names in
    let none : first_refusal c.args.target pairs ≡ None = sym (rw c.in_default.is at
    c.in_ok-refused.ensures.refused) in (
      none,
      (
        reads_back c.args.target pairs (c.in_ok-refused.ensures.texts (rw c.in_default.is refl)) none,
        rw (c.as_slice.ensures.value, c.in_ok-bytes.ensures) at c.in-Ok.ensures,
      ),
    )

pub returns : goal.returns
returns g c =
    let pairs = pairs_of c.args.env.now.names in
    let none : first_refusal c.args.target pairs ≡ None = sym (rw c.in_default.is at
    c.in_ok-refused.ensures.refused) in (
      none,
      (
        reads_back c.args.target pairs (c.in_ok-refused.ensures.texts (rw c.in_default.is refl)) none,
        rw (c.as_slice.ensures.value, c.in_ok-bytes.ensures) at c.in-Err.ensures,
      ),
    )
