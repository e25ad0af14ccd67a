use Rattle.std.proofs.Common.{refl}
use Rattle.std.proofs.lemmas.Str.{scalars-chars}
use Rattle.dotenvy_editor.proofs.SpotParts.{before_value, old_of, spot_cut, statement_cut}
use Rattle.dotenvy_editor.proofs.spot.Spot.new.Goals as goal

pub before_assigned-before-requires : goal.before_assigned-before-requires
before_assigned-before-requires c = (before_value c.requires.statement, statement_cut c.requires.statement)

pub split_at-requires : goal.split_at-requires
split_at-requires c =
    let s = c.requires.statement in
    let front = c.front_len.ensures (before_value s) (c.before_assigned-before.ensures (before_value s)
    (statement_cut s)) in
    (spot_cut c.utf8.line (scalars-chars c.args.text.now c.utf8.text) c.requires.line s
    (old_of c.args.value c.requires.part.1).1 front refl).boundary

pub split_at-requires-2 : goal.split_at-requires-2
split_at-requires-2 c =
    let s = c.requires.statement in
    let front = c.front_len.ensures (before_value s) (c.before_assigned-before.ensures (before_value s)
    (statement_cut s)) in
    let (old, is_old, len) = c.old_len.ensures c.requires.part.0 c.requires.part.1 in
    rw c.split_at.ensures.back
    (spot_cut c.utf8.line (scalars-chars c.args.text.now c.utf8.text) c.requires.line s is_old front len).boundary_back

pub returns : goal.returns
returns c =
    λ dialect tells.
    let s = c.requires.statement in
    let front = c.front_len.ensures (before_value s) (c.before_assigned-before.ensures (before_value s)
    (statement_cut s)) in
    let (old, is_old, len) = c.old_len.ensures dialect tells in
    let is =
    spot_cut {dialect = dialect} c.utf8.line (scalars-chars c.args.text.now c.utf8.text) c.requires.line s is_old front
    len in
    rw (c.split_at-2.ensures.front, c.split_at-2.ensures.back, c.split_at.ensures.front, c.split_at.ensures.back)
    is.is_spot
