use Rattle.std.proofs.Common.{◌≡◌, ◌∷◌, drop}
use Rattle.std.proofs.lemmas.List.Sums.{prefix_len-le-length}
use Rattle.dotenvy_format.specs.Characters.{line_feed}
use Rattle.dotenvy_format.specs.inside.Slices.{is_of_kind}
use Rattle.dotenvy_format.proofs.bytes.ByteLines.{line_found, line_parts, first_is}
use Rattle.dotenvy_format.proofs.text.line_of.Goals as goal
use Rattle.dotenvy_format.proofs.text.line_of.Goals.{in_default-via-in-Some+in_default, in_default-via-in_default}

pub split_at-requires : goal.split_at-requires
split_at-requires c = rw c.kind_run.ensures (prefix_len-le-length (is_of_kind c.args.kind) c.args.bytes.now)

pub returns-in-Some-eq10 : goal.returns-in-Some-eq10
returns-in-Some-eq10 c =
    let after = c.split_at.result.1.now in
    let first : after ≡ line_feed ∷ drop 1 after =
    first_is after c.in-Some-eq10.field-0.now line_feed c.in-Some-eq10.ensures.value c.in-Some-eq10.field-0-test in
    line_found _ (rw c.kind_run.ensures at c.split_at.ensures.front)
    (rw (c.split_at.ensures.back, c.kind_run.ensures) at first)

pub returns-in_default : goal.returns-in_default
returns-in_default c = λ line is.
    let rest : c.split_at.result.1.now ≡ line_feed ∷ is.later =
    rw (c.split_at.ensures.back, c.kind_run.ensures) (line_parts c.requires is).1 in
    let value = rw rest at c.first.ensures.value in
    elim c.in_default.branch [
      | in_default-via-in-Some+in_default w ↦
          let same = rw w.in_default.is at value in w.in_default.field-0-test.1 cc
      | in_default-via-in_default w ↦ let none = rw w.in_default.is at value in cc
    ]
