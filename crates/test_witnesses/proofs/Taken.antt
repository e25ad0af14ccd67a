-- The items that were taken so far, and those of a whole source.
use Rattle.std.proofs.Common.{◌≡◌, List, [], ◌∷◌, ◌++◌, refl}
use Rattle.std.specs.Prelude.{Some, None}
use Rattle.dotenvy.specs.Environment.{Texts}
use Rattle.dotenvy.specs.Errors.{IsMemoryErr}
use Rattle.dotenvy.specs.Iter.{IterState}
use Rattle.dotenvy.specs.Iteration.{GivesItems, NoneRefused}
use Rattle.dotenvy.specs.NextItem.{Item, NextItem}

-- calls of `next_item` from s on gave these items, and left t
abbrev pub GivesUpTo : {A : Type 0} → Texts → IterState → List (Item A) → IterState → Type 0
GivesUpTo names s [] t = s ≡ t
GivesUpTo names s (item ∷ items) t =
    (next : IterState) × NextItem names s (Some item) next × GivesUpTo names next items t

-- these items were taken from s to t, and none of them is refused memory
pub record HasTaken {A : Type 0} (names : Texts) (s t : IterState) (given : List (Item A)) : Type 0 where
  pub gives : GivesUpTo names s given t
  pub granted : NoneRefused given

-- one item more
gives_more : {A : Type 0} (names : Texts) (s t u : IterState) (given : List (Item A)) (item : Item A) →
    GivesUpTo names s given t → NextItem names t (Some item) u → GivesUpTo names s (given ++ item ∷ []) u
gives_more names s t u [] item before next = (u, rw before next, refl)
gives_more names s t u (first ∷ given) item (x, is, before) next =
    (x, is, gives_more names x t u given item before next)

-- and then none
gives_all : {A : Type 0} (names : Texts) (s t u : IterState) (given : List (Item A)) → GivesUpTo names s given t →
    NextItem {A = A} names t None u → GivesItems names s given
gives_all names s t u [] before none = (u, rw before none)
gives_all names s t u (first ∷ given) (x, is, before) none = (x, is, gives_all names x t u given before none)

-- none of the items is refused memory, nor is one more
granted_more : {A : Type 0} (given : List (Item A)) (item : Item A) → NoneRefused given → ¬ (IsMemoryErr item) →
    NoneRefused (given ++ item ∷ [])
granted_more [] item granted one = (one, tt)
granted_more (first ∷ given) item granted one = (granted.0, granted_more given item granted.1 one)

-- nothing was taken yet
pub none_taken : {A : Type 0} (names : Texts) (s : IterState) (given : List (Item A)) → given ≡ [] →
    HasTaken names s s given
none_taken names s given none = rw none (record { gives = refl; granted = tt })

-- an item was taken, and added
pub one_taken : {A : Type 0} {names : Texts} {s t u : IterState} {given more : List (Item A)} {item : Item A} →
    HasTaken names s t given → NextItem names t (Some item) u → ¬ (IsMemoryErr item) →
    more ≡ given ++ item ∷ [] → HasTaken names s u more
one_taken {names = names} {s} {t} {u} {given} {item = item} before next one same = rw same (record {
  gives = gives_more names s t u given item before.gives next;
  granted = granted_more given item before.granted one;
})

-- all were taken
pub all_taken : {A : Type 0} {names : Texts} {s t u : IterState} {given : List (Item A)} →
    HasTaken names s t given → NextItem {A = A} names t None u → GivesItems names s given × NoneRefused given
all_taken {names = names} {s} {t} {u} {given} before none =
    (gives_all names s t u given before.gives none, before.granted)
