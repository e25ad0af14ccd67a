-- What is written for a target, that target reads as exactly the pairs; and what is refused, it reads
-- of no text.
use Rattle.std.specs.Prelude.{ℕ, ◌≡◌, Bool, true, false, not, ◌||◌, List, [], ◌∷◌, ◌++◌, Some, None}
use Rattle.std.specs.Prelude.{is_none, IsTrue}
use Rattle.std.specs.List.{list_all}
use Rattle.std.specs.Str.{all_scalars}
use Rattle.dotenvy_exporter.specs.declared.target.Target.{Target}
use Rattle.dotenvy_exporter.specs.declared.target.Target.TheVariants as target
use Rattle.dotenvy_exporter.specs.Shell.{is_shell_name}
use Rattle.dotenvy_exporter.specs.Targets.{first_refusal, reads, refusal, written_for}
use Rattle.dotenvy_exporter.specs.Texts.{Pair, has, has_distinct, begins_with_mark}

-- pairs of Unicode scalar values, whose names are distinct
pub record AreTexts (pairs : List Pair) : Type 0 where
  pub scalars : list_all (λ pair. all_scalars (pair.0 ++ pair.1)) pairs ≡ true
  pub distinct : has_distinct pairs ≡ true

-- the target reads of what is written exactly the pairs, in order
abbrev pub ReadsBack : Type 0
ReadsBack =
    (target : Target) (pairs : List Pair) → AreTexts pairs → first_refusal target pairs ≡ None →
    reads target (written_for target pairs) ≡ Some pairs

-- the target may read the pair, but is not given it. docker and kubectl read a NUL, and docker a byte
-- order mark that begins a name in a later line; systemd's files may have names that no variable has
abbrev pub is_left_out : Target → Pair → Bool
is_left_out target.Docker (name, value) = has 0 (name ++ value) || begins_with_mark name
is_left_out target.Kubernetes (name, value) = has 0 (name ++ value)
is_left_out target.Systemd (name, value) = not (is_shell_name name)
is_left_out target.Sh pair = false
is_left_out target.Json pair = false
is_left_out target.Exec pair = false

-- the target can be given each pair that isn't left out
abbrev pub AllGivable : Target → List Pair → Type 0
AllGivable t [] = Unit {0}
AllGivable t (pair ∷ pairs) =
    IsTrue (is_none (refusal t pair) || is_left_out t pair) × AllGivable t pairs

-- of whatever text, a target reads only pairs that it can be given, or that are left out
abbrev pub ReadsNoOther : Type 0
ReadsNoOther =
    (target : Target) (bytes : List ℕ) (pairs : List Pair) → reads target bytes ≡ Some pairs →
    AllGivable target pairs
