use Rattle.std.proofs.Common.{refl}
use Rattle.std.proofs.lemmas.Bool.{false≢true}
use Rattle.std.proofs.lemmas.Str.{is_utf8-from_IsUtf8}
use Rattle.dotenvy_c.proofs.Entries.{is_no_utf8}
use Rattle.dotenvy_c.proofs.calls.dotenvy_is_key.Goals as goal

pub returns-in-Ok : goal.returns-in-Ok
returns-in-Ok c =
    let utf8 = is_utf8-from_IsUtf8 c.args.text.now c.in-Ok.ensures.cases.1 in
    let key = rw c.in-Ok.ensures.cases.0 at c.is_key.ensures.key in
    rw (utf8, key) (λ k. (refl, k), λ both. both.1)

pub returns-in-Err : goal.returns-in-Err
returns-in-Err c = rw (is_no_utf8 c.args.text.now c.in-Err.ensures.cases.0) (λ f. absurd (false≢true f), λ both. both.0)
