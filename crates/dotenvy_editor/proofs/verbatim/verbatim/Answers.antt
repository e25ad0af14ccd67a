use Rattle.std.proofs.Common.{◌≡◌, ◌∙◌, [], ap, append-nil}
use Rattle.std.specs.Str.{chars}
use Rattle.std.proofs.lemmas.Str.{chars-nil}
use Rattle.dotenvy_format.proofs.bytes.Slices.{begins_shorter}
use Rattle.dotenvy_editor.proofs.VerbatimSteps.{one_given}
use Rattle.dotenvy_editor.proofs.verbatim.verbatim.Goals as goal

pub characters-smaller : goal.characters-smaller
characters-smaller g c = begins_shorter c.in-Some.ensures

pub characters-preserved : goal.characters-preserved
characters-preserved g c = (
  c.in-Some.ensures.follows,
  rw (c.in_ok-push_given.ensures, c.given.ensures, c.after-reading.ensures)
      (one_given c.args.dialect c.characters.reading c.in-Some.first (chars c.in-Some.later.now) _ _
      (rw c.in-Some.ensures.characters at c.characters.invariant.1)),
)

pub returns : goal.returns
returns g c =
    let none : chars c.characters.rest.now ≡ [] = ap chars c.in_default.ensures ∙ chars-nil in
    rw (none, append-nil) at c.characters.invariant.1
