-- The names that a command sets, one after another.
use Rattle.std.proofs.Common.{◌≡◌, ℕ, Bool, true, false, ◌&&◌, cond, T, List, [], ◌∷◌, Option}
use Rattle.std.proofs.Common.{Some, None, refl, sym, ◌∙◌}
use Rattle.std.specs.Prelude.{option_map}
use Rattle.std.specs.Cmp.Lexicographic.{bytes_decides, slice_cmp}
use Rattle.std.specs.FinMap as fin
use Rattle.std.specs.FinMap.Entries.{below_all, find, is_sorted}
use Rattle.std.specs.Option.{option_or}
use Rattle.std.specs.Ordering.{is_eq, is_lt, nat_cmp}
use Rattle.std.specs.Process.{command_var, SameOtherVars}
use Rattle.std.specs.declared.cmp.Ordering.{Ordering}
use Rattle.std.specs.declared.cmp.Ordering.TheVariants.{Less, Equal, Greater}
use Rattle.std.specs.declared.process.command.Command.{Command}
use Rattle.std.proofs.lemmas.Bool.{both_ways, cond_both}
use Rattle.std.proofs.lemmas.Map.Text.{is_eq-slice_cmp}
use Rattle.dotenvy.specs.Environment.{Texts}

-- the byte order of names
abbrev pub bytes_cmp : List ℕ → List ℕ → Ordering
bytes_cmp = slice_cmp nat_cmp

-- of two things that hold together, each holds
each_holds : (a b : Bool) → T (a && b) → T a × T b
each_holds true b h = (tt, h)
each_holds false b h = absurd h

-- what the command says of a name once those that are left are set is what the environment has
pub record SetsWithLeft {A : Type 0} (names : Texts) (left : List (List ℕ × List ℕ))
    (command : Command A) : Type 0 where
  pub sorted : T (is_sorted bytes_cmp left)
  pub says : (name : List ℕ) →
      option_or (option_map Some (find bytes_cmp name left)) (command_var command name) ≡ option_map Some
      (fin.get names name)

-- a name below all of these is none of them
none_later : (name : List ℕ) (es : List (List ℕ × List ℕ)) → T (below_all bytes_cmp name es) →
    find bytes_cmp name es ≡ None
none_later name [] below = refl
none_later name (e ∷ es) below =
    elim (bytes_cmp name e.0) as (λ o. T (is_lt o && below_all bytes_cmp name es) →
    cond (is_eq o) (Some e.1) (find bytes_cmp name es) ≡ None) [
      | Less ↦ none_later name es
      | Equal ↦ λ never. absurd never
      | Greater ↦ λ never. absurd never
    ] below

-- before the first name is set
pub none_set : {A : Type 0} (names : Texts) (command : Command A) →
    ((name : List ℕ) → command_var command name ≡ None) →
    SetsWithLeft names (fin.entries names) command
none_set names command none = record {
  sorted = fin.entries_sorted names;
  says = λ name. rw (none name, fin.get-entries names name) (or_none _);
}
  where
    or_none : {X : Type 0} (value : Option X) → option_or value None ≡ value
    or_none None = refl
    or_none (Some x) = refl

-- one name more is set
pub one_set : {A : Type 0} (names : Texts) (name value : List ℕ) (left : List (List ℕ × List ℕ)) (old new : Command A) →
    SetsWithLeft names ((name, value) ∷ left) old → command_var new name ≡ Some (Some value) →
    SameOtherVars old new name → SetsWithLeft names left new
one_set names name value left old new before set others =
    let holds = each_holds (below_all bytes_cmp name left) (is_sorted bytes_cmp left) before.sorted in record {
      sorted = holds.1;
      says = λ other.
          cond_both (is_eq (bytes_cmp other name)) (Some value) (find bytes_cmp other left)
          (λ found. option_or (option_map Some found) (command_var old other) ≡ option_map Some (fin.get names other) →
          option_or (option_map Some (find bytes_cmp other left)) (command_var new other)
          ≡ option_map Some (fin.get names other))
          (λ is says. let same : other ≡ name = (bytes_decides other name).0 (sym (is_eq-slice_cmp other name) ∙ is) in
          rw (same, none_later name left holds.0, set) (rw same at says))
          (λ is says.
          let differs = λ (same : other ≡ name).
          both_ways _ is (is_eq-slice_cmp other name ∙ (bytes_decides other name).1 same) in
          rw (others other differs) says) (before.says other);
    }
