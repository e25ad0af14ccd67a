use Rattle.std.proofs.Common.{◌+◌, inl, string_bytes}
use Rattle.std.proofs.lemmas.List.{take-map}
use Rattle.std.proofs.lemmas.Result.{IfOk-weaker}
use Rattle.dotenvy_words.specs.Found.{texts}
use Rattle.dotenvy_words.proofs.Refusals.{stay_by_next}
use Rattle.dotenvy_words.proofs.reading.stay_refused.Goals as goal

pub returns-then-not-branch : goal.returns-then-not-branch
returns-then-not-branch g c =
    inl (rw (take-map string_bytes _ c.args.words.now) (rw c.if-not-branch.true at c.in_ok-is_refused.ensures))

pub returns : goal.returns
returns g c =
    let words = c.args.words.now in
    IfOk-weaker c.is_refused-2.result _ _
    (λ found next. stay_by_next g.L.CommandLine.described (texts words) c.args.place
    (rw (take-map string_bytes c.args.place words) (rw c.if-not-branch.false at c.in_ok-is_refused.ensures)) found
    (rw (take-map string_bytes (c.args.place + 1) words) next)) c.is_refused-2.ensures
