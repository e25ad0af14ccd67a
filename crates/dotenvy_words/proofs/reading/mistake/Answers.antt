use Rattle.std.proofs.Common.{◌+◌, string_bytes}
use Rattle.std.proofs.lemmas.List.{take-map}
use Rattle.dotenvy_words.specs.Found.{texts}
use Rattle.dotenvy_words.specs.Refused.{IsFirstRefused}
use Rattle.dotenvy_words.proofs.Refusals.{front_refused, mistake_told, same_told, some_kinds}
use Rattle.dotenvy_words.proofs.reading.mistake.Goals as goal

pub told_kind-requires : goal.told_kind-requires
told_kind-requires g c =
    let line = g.L.CommandLine.described in
    let words = c.args.words.now in
    let first : IsFirstRefused line (texts words) c.in-Some.place c.in-Some.word.now =
    rw c.in-Some.is at c.in_ok-place.ensures (some_kinds _ _ c.requires.1.1) in
    rw (← take-map string_bytes (c.in-Some.place + 1) words)
    (front_refused line (texts words) c.in-Some.place c.in-Some.word.now first)

pub returns : goal.returns
returns g c =
    let line = g.L.CommandLine.described in
    let words = c.args.words.now in
    let first : IsFirstRefused line (texts words) c.in-Some.place c.in-Some.word.now =
    rw c.in-Some.is at c.in_ok-place.ensures (some_kinds _ _ c.requires.1.1) in
    let front = take-map string_bytes (c.in-Some.place + 1) words in
    let told = same_told line _ _ c.in_ok-kind-in-Some.kind front c.in_ok-kind-in-Some.ensures in
    mistake_told line (texts words) c.in-Some.place c.in-Some.word.now _ c.in_ok-kind-in-Some.kind c.requires first told
    c.in_ok-one_line-in-Some.ensures
