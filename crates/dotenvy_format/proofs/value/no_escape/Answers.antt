use Rattle.std.proofs.Common.{[], ◌∷◌, refl}
use Rattle.std.proofs.lemmas.Str.{chars-nil}
use Rattle.dotenvy_format.specs.Value.{LastBackslash}
use Rattle.dotenvy_format.proofs.values.Readings.{end_read, lacks_end}
use Rattle.dotenvy_format.proofs.values.NextPiece.{no_escape_stops}
use Rattle.dotenvy_format.proofs.value.no_escape.Goals as goal

pub returns-in-Some : goal.returns-in-Some
returns-in-Some c =
    λ dialect.
    let first = c.in-Some.ensures in
    rw first.characters (no_escape_stops dialect c.args.quoting _ _ (rw first.characters at c.requires))

pub returns-in-Unquoted : goal.returns-in-Unquoted
returns-in-Unquoted c =
    λ dialect.
    rw c.in-Unquoted.is (record {
      pieces = LastBackslash ∷ [];
      is_read = rw (c.in-None.ensures, chars-nil) (end_read refl);
      follows = c.utf8.left;
      means = λ look_up. refl;
      names = refl;
    })

pub returns-in-DoubleQuoted : goal.returns-in-DoubleQuoted
returns-in-DoubleQuoted c = λ dialect. rw (c.in-DoubleQuoted.is, c.in-None.ensures, chars-nil) (lacks_end refl)
