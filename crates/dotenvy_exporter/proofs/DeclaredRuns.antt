-- A load over the names of files alone, and the load of the same entries over the whole environment.
use Rattle.std.proofs.Common.{◌≡◌, ℕ, Bool, true, false, ◌&&◌, List, [], ◌∷◌, inl, inr, refl, ap, sym, ◌∙◌, arith}
use Rattle.std.proofs.Common.{Some, None, Ok}
use Rattle.std.proofs.Math.Path.{fun_ext}
use Rattle.std.specs.Prelude.{bytes_eq, if◌then◌else◌, is_none, is_some}
use Rattle.std.specs.List.{list_any}
use Rattle.std.specs.Cmp.Lexicographic.{same_text}
use Rattle.std.proofs.lemmas.Bool.{cases_Bool}
use Rattle.std.proofs.lemmas.Slice.Eq.{bytes_eq-Decides}
use Rattle.dotenvy_format.specs.Value.{Piece}
use Rattle.dotenvy_format.specs.Entries.{Entry, Declares, Fails}
use Rattle.dotenvy_format.specs.Items.{LookUp, meaning, or_else, with_value}
use Rattle.dotenvy_format.specs.Run.{Mode, Keep, Replace, has_nul, run, sets}
use Rattle.dotenvy_exporter.specs.Declarations.{declares}

-- what a declaration leaves, if it sets its name
abbrev pub step : Bool → LookUp → List ℕ → List ℕ → LookUp
step is_set old key value = if is_set then with_value old key value else old

-- a name that a load doesn't set is there
is_there : (mode : Mode) (old : LookUp) (key name : List ℕ) → sets mode old key ≡ false → bytes_eq key name ≡ true →
    is_some (old name) ≡ true
is_there Keep old key name there is =
    let some : is_some (old key) ≡ true = grind (arith, there) in
    rw (same_text key name (sym is)) at some
is_there Replace old key name there is = cc

-- a load without an error sets or finds each name that its entries declare, and changes no other
pub record Ran (entries : List Entry) (old new : LookUp) : Type 0 where
  pub has : (name : List ℕ) → list_any (declares name) entries ≡ true → is_some (new name) ≡ true
  pub stays : (name : List ℕ) → is_some (old name) ≡ true → is_some (new name) ≡ true
  pub others : (name : List ℕ) → list_any (declares name) entries ≡ false → new name ≡ old name

-- behind its declaration a name is there
there_after : (is_set : Bool) (old : LookUp) (key value name : List ℕ) → bytes_eq key name ≡ true →
    ((other : List ℕ) → is_set ≡ false → bytes_eq key other ≡ true → is_some (old other) ≡ true) →
    is_some (step is_set old key value name) ≡ true
there_after true old key value name here there = rw here refl
there_after false old key value name here there = there name refl here

-- a name that was there is there behind any declaration
stays_after : (is_set : Bool) (old : LookUp) (key value name : List ℕ) → is_some (old name) ≡ true →
    is_some (step is_set old key value name) ≡ true
stays_after true old key value name is = grind (arith, is)
stays_after false old key value name is = is

-- the declaration of another name changes nothing of a name
same_after_other : (is_set : Bool) (old : LookUp) (key value name : List ℕ) → bytes_eq key name ≡ false →
    step is_set old key value name ≡ old name
same_after_other true old key value name not = rw not refl
same_after_other false old key value name not = refl

-- one more declaration in front
ran_more : (old new : LookUp) (key value : List ℕ) (pieces : List Piece) (entries : List Entry) (is_set : Bool) →
    ((name : List ℕ) → is_set ≡ false → bytes_eq key name ≡ true → is_some (old name) ≡ true) →
    Ran entries (step is_set old key value) new → Ran (Declares key pieces ∷ entries) old new
ran_more old new key value pieces entries is_set there ran = record {
  has = λ name is. elim (cases_Bool (bytes_eq key name)) [
    | inl here ↦
        let some : is_some (step is_set old key value name) ≡ true = there_after is_set old key value name here there in
        ran.stays name some
    | inr not ↦ ran.has name (rw not at is)
  ];
  stays = λ name is. ran.stays name (stays_after is_set old key value name is);
  others = λ name is. elim (cases_Bool (bytes_eq key name)) [
    | inl here ↦ let never = rw here at is in cc
    | inr not ↦ ran.others name (rw not at is) ∙ same_after_other is_set old key value name not
  ];
}

-- what a load without an error leaves
pub ran : (mode : Mode) (old remembered : LookUp) (entries : List Entry) →
    (run mode old remembered entries).answer ≡ Ok tt → Ran entries old (run mode old remembered entries).env
ran mode old remembered [] ok = record { has = λ name is. cc; stays = λ name is. is; others = λ name is. refl }
ran mode old remembered (Fails failure ∷ entries) ok = cc
ran mode old remembered (Declares key pieces ∷ entries) ok =
    let value = meaning (or_else old remembered) pieces in
    let is_set = sets mode old key in
    elim (cases_Bool (is_set && has_nul value)) [
      | inl nul ↦ let stops = rw nul at ok in cc
      | inr good ↦
          rw good (ran_more old _ key value pieces entries is_set (is_there mode old key)
          (ran mode (step is_set old key value) (with_value remembered key value) entries (rw good at ok)))
    ]

-- the environment is the names that are loaded and else what is outside, and a name that is wanted and absent so far is
-- absent outside, where names keep their values
pub record Over (mode : Mode) (outside : LookUp) (wanted : List ℕ → Bool) (whole own : LookUp) : Type 0 where
  pub overlay : (name : List ℕ) → whole name ≡ or_else own outside name
  pub absent : mode ≡ Keep → (name : List ℕ) → wanted name ≡ true → own name ≡ None → outside name ≡ None

-- a load sets a name in one where it sets it in the other
sets_alike : {mode : Mode} {outside : LookUp} {wanted : List ℕ → Bool} {whole own : LookUp} (key : List ℕ) →
    wanted key ≡ true → Over mode outside wanted whole own → sets mode whole key ≡ sets mode own key
sets_alike {mode = Keep} {whole = whole} {own = own} key is over =
    let both = over.overlay key in
    let none = over.absent refl key is in
    elim (own key) as (λ found. own key ≡ found → is_none (whole key) ≡ is_none found) [
      | None ↦ λ e. rw (both, e, none e) refl
      | Some value ↦ λ e. rw (both, e) refl
    ] refl
sets_alike {mode = Replace} key is over = refl

-- of a name that is there a load over the whole environment knows what the other one does
same_after : (whole own first second outside : LookUp) (key value : List ℕ) (is_set : Bool) (name : List ℕ) →
    or_else whole first name ≡ or_else own second name → whole name ≡ or_else own outside name →
    (is_set ≡ false → bytes_eq key name ≡ true → is_some (own name) ≡ true) →
    or_else (step is_set whole key value) (with_value first key value) name
    ≡ or_else (step is_set own key value) (with_value second key value) name
same_after whole own first second outside key value true name same overlay there = grind (arith, same)
same_after whole own first second outside key value false name same overlay there =
    elim (cases_Bool (bytes_eq key name)) [
      | inl here ↦ rw here (grind (arith, overlay, there refl here))
      | inr not ↦ rw not same
    ]

-- with one declaration more the environment is still the names that are loaded and else what is outside
over_after : {mode : Mode} {outside : LookUp} {wanted : List ℕ → Bool} {whole own : LookUp} (key value : List ℕ)
    (is_set : Bool) → Over mode outside wanted whole own →
    Over mode outside wanted (step is_set whole key value) (step is_set own key value)
over_after key value true over = record {
  overlay = λ name. grind (arith, over.overlay name);
  absent = λ keep name is none. elim (cases_Bool (bytes_eq key name)) [
    | inl here ↦ let never = rw here at none in cc
    | inr not ↦ over.absent keep name is (rw not at none)
  ];
}
over_after key value false over = over

-- a load over the names alone without an error is one over the whole environment, which leaves the same of them
pub compare : (mode : Mode) {outside : LookUp} {wanted : List ℕ → Bool} (whole own first second : LookUp)
    (entries : List Entry) → ((name : List ℕ) → list_any (declares name) entries ≡ true → wanted name ≡ true) →
    ((name : List ℕ) → or_else whole first name ≡ or_else own second name) → Over mode outside wanted whole own →
    (run mode own second entries).answer ≡ Ok tt →
    ((run mode whole first entries).answer ≡ Ok tt)
    × Over mode outside wanted (run mode whole first entries).env (run mode own second entries).env
compare mode whole own first second [] wants same over ok = (refl, over)
compare mode whole own first second (Fails failure ∷ entries) wants same over ok = cc
compare mode {outside} whole own first second (Declares key pieces ∷ entries) wants same over ok =
    let value = meaning (or_else own second) pieces in
    let is_set = sets mode own key in
    let means : meaning (or_else whole first) pieces ≡ value = ap (λ look_up. meaning look_up pieces) (fun_ext same) in
    let here : bytes_eq key key ≡ true = (bytes_eq-Decides key key).1 refl in
    let alike : sets mode whole key ≡ is_set = sets_alike key (wants key (rw here refl)) over in
    rw (means, alike) (elim (cases_Bool (is_set && has_nul value)) [
      | inl nul ↦ let stops = rw nul at ok in cc
      | inr good ↦
          rw good (compare mode (step is_set whole key value) (step is_set own key value)
          (with_value first key value) (with_value second key value) entries
          (λ name is. wants name (rw is (grind arith)))
          (λ name. same_after whole own first second outside key value is_set name (same name) (over.overlay name)
          (is_there mode own key name)) (over_after key value is_set over) (rw good at ok))
    ])
