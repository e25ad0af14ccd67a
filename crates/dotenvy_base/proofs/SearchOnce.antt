-- A search asks one list of candidates, and has one answer.
use Rattle.std.proofs.Common.{◌≡◌, ℕ, zero, suc, ◌+◌, ◌<◌, not, List, []}
use Rattle.std.proofs.Common.{◌∷◌, map, Some, None, refl, sym, ◌∙◌, ap, arith}
use Rattle.std.proofs.Common.{length, inl, inr}
use Rattle.std.specs.Prelude.{◌-◌}
use Rattle.std.specs.List.{suffix_len}
use Rattle.dotenvy_base.specs.declared.search.Look.{Look}
use Rattle.std.proofs.lemmas.List.{length-take}
use Rattle.dotenvy_base.specs.Search.{is_slash, path_in, parent_of, Ascends}
use Rattle.dotenvy_base.specs.Search.{SearchEnd, ends_search, AreAsked, search_answer, Searches, Sees}
use Rattle.std.proofs.lemmas.Bool.{cases_Bool}

-- the directory above, where there is one, has fewer characters
pub parent_shorter : (directory parent : List ℕ) → parent_of directory ≡ Some parent → length parent < length directory
parent_shorter [] parent h = cc
parent_shorter (c ∷ []) parent h = grind arith
parent_shorter (c ∷ d ∷ cs) parent h =
    let e = length-take (length (c ∷ d ∷ cs) - suffix_len (λ x. not (is_slash x)) (c ∷ d ∷ cs) - 1) (c ∷ d ∷ cs) in
    grind arith

-- the directories from this one up are some list, which comes to an end
abbrev HasAscent : List ℕ → Type 0
HasAscent directory = (others : List (List ℕ)) × Ascends directory (directory ∷ others)

-- from a directory of less than n characters, the directories above come to an end
ascent_within : (n : ℕ) (directory : List ℕ) → length directory < n → HasAscent directory
ascent_within zero directory h = absurd (omega (arith, h))
ascent_within (suc n) directory h = elim (parent_of directory) as (λ p. parent_of directory ≡ p → HasAscent directory) [
  | None ↦ λ e. ([], (refl, e))
  | Some parent ↦ λ e.
      let s = parent_shorter directory parent e in
      let a = ascent_within n parent (omega (arith, s, h)) in (parent ∷ a.0, (refl, e, a.1))
] refl

-- from each directory, the directories above come to an end
pub ascent_exists : (directory : List ℕ) → HasAscent directory
ascent_exists directory = ascent_within (suc (length directory)) directory (omega arith)

-- there is at most one list of a directory and those above it
pub one_ascent : (directory : List ℕ) (a b : List (List ℕ)) → Ascends directory a → Ascends directory b → a ≡ b
one_ascent directory [] b x y = absurd x
one_ascent directory (f ∷ a) [] x y = absurd y
one_ascent directory (f ∷ []) (g ∷ b) x y = grind arith
one_ascent directory (f ∷ h ∷ a) (g ∷ []) x y = grind arith
one_ascent directory (f ∷ h ∷ a) (g ∷ i ∷ b) x y = grind (arith, one_ascent h (h ∷ a) (i ∷ b))

-- some of the candidates are asked in turn, with what is at each
abbrev HasAsked : List (List ℕ) → (ℕ → Look) → Type 0
HasAsked paths looks = (asked : List (List ℕ × Look)) × AreAsked paths asked × Sees looks asked

-- whatever is at the candidates, some list of them is asked
asked_exist : (paths : List (List ℕ)) (looks : ℕ → Look) → HasAsked paths looks
asked_exist [] looks = ([], refl, tt)
asked_exist (path ∷ paths) looks =
    let later = asked_exist paths (λ n. looks (1 + n)) in
    elim (cases_Bool (ends_search (looks 0))) [
      | inl e ↦ ((path, looks 0) ∷ [], (refl, inl (e, refl)), (refl, tt))
      | inr e ↦ ((path, looks 0) ∷ later.0, (refl, inr (ap not e, later.1)), (refl, later.2))
    ]

-- where the same is at the candidates, at most one list of them is asked
asked_once : (paths : List (List ℕ)) (looks : ℕ → Look) (a b : List (List ℕ × Look)) → AreAsked paths a →
    AreAsked paths b → Sees looks a → Sees looks b → a ≡ b
asked_once [] looks a b x y s t = x ∙ sym y
asked_once (path ∷ paths) looks [] b x y s t = absurd x
asked_once (path ∷ paths) looks (c ∷ a) [] x y s t = absurd y
asked_once (path ∷ paths) looks ((p, l) ∷ a) ((q, m) ∷ b) x y s t =
    grind (arith, asked_once paths (λ n. looks (1 + n)) a b)

-- whatever is at the candidates, the search has one answer
pub search_exists : (directory name : List ℕ) (looks : ℕ → Look) →
    (asked : List (List ℕ × Look)) × Searches directory name asked (search_answer asked) × Sees looks asked
search_exists directory name looks =
    let a = ascent_exists directory in
    let k = asked_exist (map (λ d. path_in d name) (directory ∷ a.0)) looks in
    (k.0, record { directories = directory ∷ a.0; ascends = a.1; are_asked = k.1; answers = refl }, k.2)

-- where the same is at the candidates, a search asks one list of them and has one answer
pub one_search : (directory name : List ℕ) (looks : ℕ → Look) (a b : List (List ℕ × Look)) (x y : SearchEnd) →
    Searches directory name a x → Searches directory name b y → Sees looks a → Sees looks b → (b ≡ a) × (y ≡ x)
one_search directory name looks a b x y s t h k =
    let d = one_ascent directory t.directories s.directories t.ascends s.ascends in
    let e = asked_once (map (λ d. path_in d name) s.directories) looks b a (rw d at t.are_asked) s.are_asked k h in
    (e, t.answers ∙ ap search_answer e ∙ sym s.answers)
