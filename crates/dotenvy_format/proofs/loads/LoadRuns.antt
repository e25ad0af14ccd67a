-- A load, one entry after another: what a run is the same for, and where it goes on or stops.
use Rattle.std.proofs.Common.{◌≡◌, ℕ, Bool, true, false, ◌&&◌, cond, List, [], ◌∷◌, ◌++◌, Option}
use Rattle.std.proofs.Common.{Ok, Err, refl, sym, ◌∙◌, inl, inr, arith}
use Rattle.std.specs.Prelude.{Some, bytes_eq, unwrap_or, is_none, if◌then◌else◌}
use Rattle.std.specs.Option.{option_or}
use Rattle.std.specs.Cmp.Lexicographic.{same_text}
use Rattle.std.proofs.lemmas.Bool.{cases_Bool, false_from_ne_true}
use Rattle.std.proofs.lemmas.Slice.Eq.{bytes_eq-Decides}
use Rattle.dotenvy_format.specs.Value.{Piece}
use Rattle.dotenvy_format.specs.Outcome.{Outcome, Nothing, Pair, Fault}
use Rattle.dotenvy_format.specs.Entries.{Failure, Entry, Declares, Fails, Nul, outcome_entries}
use Rattle.dotenvy_format.specs.Items.{LookUp, meaning, or_else, with_value, text_of}
use Rattle.dotenvy_format.specs.Run.{Mode, Loaded, sets, after_declaration, run, has_nul}
use Rattle.dotenvy_format.specs.Loads.{SameLoad}

-- look-ups with the same texts give the same meaning
pub meaning-text : (l k : LookUp) (pieces : List Piece) → ((n : List ℕ) → text_of l n ≡ text_of k n) →
    meaning l pieces ≡ meaning k pieces
meaning-text l k [] same = refl
meaning-text l k (piece ∷ pieces) same = grind (arith, meaning-text l k pieces same, same)

-- the second of two look-ups counts where the first lacks a name, and there an absent name counts as the empty text
pub or_else-text : (x y a b : Option (List ℕ)) → x ≡ y → (is_none x ≡ true → unwrap_or a [] ≡ unwrap_or b []) →
    unwrap_or (option_or x a) [] ≡ unwrap_or (option_or y b) []
or_else-text x y a b h k = grind arith

-- where two look-ups give a name the same text, so they do once both, or neither, give it one value
pub with_value-text : (value : List ℕ) (x y : Option (List ℕ)) (b : Bool) → unwrap_or x [] ≡ unwrap_or y [] →
    unwrap_or (cond b (Some value) x) [] ≡ unwrap_or (cond b (Some value) y) []
with_value-text value x y b h = grind arith

-- after a declaration its name is there
pub declared_there : (mode : Mode) (e : LookUp) (key value : List ℕ) →
    is_none (after_declaration mode e key value key) ≡ false
declared_there mode e key value = let same = (bytes_eq-Decides key key).1 refl in grind arith

-- a name that is absent after a declaration is not the one that was declared
still_absent : (mode : Mode) (e : LookUp) (key value n : List ℕ) →
    is_none (after_declaration mode e key value n) ≡ true → bytes_eq key n ≡ false
still_absent mode e key value n absent =
    false_from_ne_true (bytes_eq key n) (λ is.
    let name = same_text key n (sym is) in
    let there = rw name at (declared_there mode e key value) in cc)

-- a load is the same from an environment with the same values, where the names that it lacks are remembered with
-- the same texts
pub run-same : (mode : Mode) (e f r q : LookUp) (entries : List Entry) → ((n : List ℕ) → e n ≡ f n) →
    ((n : List ℕ) → is_none (e n) ≡ true → text_of r n ≡ text_of q n) →
    SameLoad (run mode e r entries) (run mode f q entries)
run-same mode e f r q [] same texts = record { env = same; answer = refl }
run-same mode e f r q (Fails failure ∷ entries) same texts = record { env = same; answer = refl }
run-same mode e f r q (Declares key pieces ∷ entries) same texts =
    let w = meaning (or_else f q) pieces in
    let means : meaning (or_else e r) pieces ≡ w =
    meaning-text (or_else e r) (or_else f q) pieces
    (λ n. or_else-text (e n) (f n) (r n) (q n) (same n) (texts n)) in
    let b = sets mode f key in
    let here = same key in
    let sets_same : sets mode e key ≡ b = grind arith in
    rw (means, sets_same) (elim (cases_Bool (b && has_nul w)) [
      | inl stops ↦ rw stops (record { env = same; answer = refl })
      | inr goes ↦
          rw goes (run-same mode (if b then with_value e key w else e) (if b then with_value f key w else f)
          (with_value r key w) (with_value q key w) entries
          (λ n. grind (arith, same n)) (λ n absent. grind (arith, texts n)))
    ])

-- where a load is the same as a second, and that as a third, the first is the same as the third
pub same-then : (x y z : Loaded) → SameLoad x y → SameLoad y z → SameLoad x z
same-then x y z h k = record { env = λ n. h.env n ∙ k.env n; answer = h.answer ∙ k.answer }

-- what is remembered of a declaration in a load is never looked up
pub run-forgets : (mode : Mode) (e f r : LookUp) (key value : List ℕ) (entries : List Entry) →
    ((n : List ℕ) → after_declaration mode e key value n ≡ f n) →
    SameLoad (run mode (after_declaration mode e key value) (with_value r key value) entries) (run mode f r entries)
run-forgets mode e f r key value entries same =
    run-same mode (after_declaration mode e key value) f (with_value r key value) r entries same
    (λ n absent. rw (still_absent mode e key value n absent))

-- a load of one declaration sets its name or passes it by, or stops where a NUL would be set
pub run-one : (mode : Mode) (e r : LookUp) (key value : List ℕ) (pieces : List Piece) (is_set nul : Bool) →
    value ≡ meaning (or_else e r) pieces → sets mode e key ≡ is_set → has_nul value ≡ nul →
    run mode e r (Declares key pieces ∷ []) ≡
    (if is_set && nul then record { env = e; answer = Err (Nul key) }
    else record { env = if is_set then with_value e key value else e; answer = Ok tt })
run-one mode e r key value pieces is_set nul means is has = rw (← means, is, has)

-- a load goes on from what the entry of one line left
pub run-goes_on : (mode : Mode) (e f r : LookUp) (outcome : Outcome) (more : List Entry) →
    (run mode e r (outcome_entries outcome)).answer ≡ Ok tt →
    ((n : List ℕ) → f n ≡ (run mode e r (outcome_entries outcome)).env n) →
    SameLoad (run mode e r (outcome_entries outcome ++ more)) (run mode f r more)
run-goes_on mode e f r Nothing more through values = run-same mode e f r r more (λ n. sym (values n)) (λ n absent. refl)
run-goes_on mode e f r (Fault text index) more through values = cc
run-goes_on mode e f r (Pair key pieces) more through values =
    let v = meaning (or_else e r) pieces in
    grind (arith, run-forgets mode e f r key v more, values)

-- what follows the stop of a load does not count
pub run-stops : (mode : Mode) (e r : LookUp) (front more : List Entry) (failure : Failure) →
    (run mode e r front).answer ≡ Err failure → run mode e r (front ++ more) ≡ run mode e r front
run-stops mode e r [] more failure h = cc
run-stops mode e r (Fails first ∷ front) more failure h = refl
run-stops mode e r (Declares key pieces ∷ front) more failure h =
    let v = meaning (or_else e r) pieces in
    grind (arith, run-stops mode (after_declaration mode e key v) (with_value r key v) front more failure)
