-- What is looked up for one finding after another.
use Rattle.std.proofs.Common.{◌≡◌, ◌<◌, ◌≤◌, ℕ, List, refl}
use Rattle.std.proofs.lemmas.Bool.{le-ltb, lt-ltb}
use Rattle.std.proofs.lemmas.List.{drop-map, length-map}
use Rattle.dotenvy_findings.specs.Comments.{allow, Allow}
use Rattle.dotenvy_findings.specs.declared.kind.Kind.{Kind}
use Rattle.dotenvy_checker.specs.Findings.{comments_from}
use Rattle.dotenvy_checker.specs.inside.ToldLines.{kinds_on, next_above}

-- a line that isn't after the last one above a finding changes nothing
pub next_stays : (line : ℕ) (seen : List Allow) (last : Allow) → line ≤ last.line → last ≡ next_above line seen last
next_stays line seen last before = rw (le-ltb last.line line before) refl

-- a line after it is the next one, with what the comment on it allows
pub next_moves : (line : ℕ) (seen : List Allow) (last : Allow) (kinds : List Kind) → last.line < line →
    kinds ≡ kinds_on line (comments_from line seen) → allow line kinds ≡ next_above line seen last
next_moves line seen last kinds behind is = rw (lt-ltb last.line line behind, is) refl

-- what is left of the comments that the code keeps is what is left of those that were seen
pub ruleset seen_comments = (drop-map, length-map)
