-- Loading one entry after another is the closed rule of the load.
use Rattle.std.proofs.Common.{◌≡◌, ℕ, Bool, true, ◌&&◌, List, [], ◌∷◌, ◌++◌, refl}
use Rattle.std.proofs.Common.{sym, arith}
use Rattle.std.specs.Prelude.{bytes_eq}
use Rattle.std.specs.Option.{option_or}
use Rattle.std.specs.Cmp.Lexicographic.{same_text}
use Rattle.std.proofs.Common.{inl, inr}
use Rattle.std.proofs.lemmas.Bool.{cases_Bool}
use Rattle.dotenvy_format.specs.Entries.{Entry, Declares, Fails}
use Rattle.dotenvy_format.specs.Items.{LookUp, meaning, or_else, first_value, with_value}
use Rattle.dotenvy_format.specs.Run.{Mode, Keep, Replace, sets, after_declaration, run, has_nul}
use Rattle.dotenvy_format.specs.Loads.{declared_from, load_look_up, override_look_up}
use Rattle.dotenvy_format.specs.Loads.{is_first_of_absent, load_result, override_result, last_value}
use Rattle.dotenvy_format.specs.Loads.{SameLoad}
use Rattle.dotenvy_format.proofs.loads.LoadRuns.{meaning-text, run-same, run-forgets, same-then}

-- the first value of a name in two lists of pairs is that in the first, else that in the second
first_value-append : (xs ys : List (List ℕ × List ℕ)) (n : List ℕ) →
    first_value (xs ++ ys) n ≡ option_or (first_value xs n) (first_value ys n)
first_value-append [] ys n = refl
first_value-append ((k, v) ∷ xs) ys n = rw (first_value-append xs ys n) (grind arith)

-- with one pair more at the end, its key has its value last, and other names what they had
last_value-append : (xs : List (List ℕ × List ℕ)) (k v n : List ℕ) →
    last_value (xs ++ (k, v) ∷ []) n ≡ with_value (last_value xs) k v n
last_value-append [] k v n = refl
last_value-append ((j, w) ∷ xs) k v n = rw (last_value-append xs k v n) (grind arith)

-- a rule: the environment after declarations, what a name means then, and whether a NUL in a key's value stops
record IsRule (mode : Mode) (m : LookUp) (env look : List (List ℕ × List ℕ) → LookUp)
    (matters : List (List ℕ × List ℕ) → List ℕ → Bool)
    : Type 0 where
  looks : (earlier : List (List ℕ × List ℕ)) (n : List ℕ) → or_else (env earlier) m n ≡ look earlier n
  stops : (earlier : List (List ℕ × List ℕ)) (key : List ℕ) → sets mode (env earlier) key ≡ matters earlier key
  declares : (earlier : List (List ℕ × List ℕ)) (key value n : List ℕ) →
      after_declaration mode (env earlier) key value n ≡ env (earlier ++ (key, value) ∷ []) n

-- after declarations, a run leaves and returns what its rule says
run-rule : {mode : Mode} {m : LookUp} {env look : List (List ℕ × List ℕ) → LookUp}
    {matters : List (List ℕ × List ℕ) → List ℕ → Bool}
    (rule : IsRule mode m env look matters) (earlier : List (List ℕ × List ℕ)) (entries : List Entry) →
    (let d = declared_from look matters earlier entries in
    SameLoad (run mode (env earlier) m entries) (record { env = env d.pairs; answer = d.stop }))
run-rule rule earlier [] = record { env = λ n. refl; answer = refl }
run-rule rule earlier (Fails failure ∷ entries) = record { env = λ n. refl; answer = refl }
run-rule {mode} {m} {env} {look} {matters} rule earlier (Declares key pieces ∷ entries) =
    let v = meaning (look earlier) pieces in
    let more = earlier ++ (key, v) ∷ [] in
    let means = meaning-text (or_else (env earlier) m) (look earlier) pieces (λ n. rw (rule.looks earlier n)) in
    rw (means, ← rule.stops earlier key) (
    elim (cases_Bool (sets mode (env earlier) key && has_nul v)) [
      | inl stops ↦ rw stops (record { env = λ n. refl; answer = refl })
      | inr goes ↦
          let forgets = run-forgets mode (env earlier) (env more) m key v entries (rule.declares earlier key v) in
          rw goes (same-then _ _ _ forgets (run-rule rule more entries))
    ])

-- loading one entry after another, with values kept, is `load_result`
pub run-keep : (env m : LookUp) (entries : List Entry) → SameLoad (run Keep env m entries) (load_result env m entries)
run-keep env m entries =
    same-then _ _ _
    (run-same Keep env (or_else env (first_value [])) m m entries (λ n. grind arith) (λ n absent. refl))
    (run-rule rule [] entries)
  where
    rule : IsRule Keep m (λ earlier. or_else env (first_value earlier)) (load_look_up env m) (is_first_of_absent env)
    rule = record {
      looks = λ earlier n. grind arith;
      stops = λ earlier key. grind arith;
      declares = λ earlier key value n.
          let name = λ (is : bytes_eq key n ≡ true). same_text key n (sym is) in rw first_value-append (grind arith);
    }

-- replacing values one by one is `override_result`
pub run-replace : (env m : LookUp) (entries : List Entry) →
    SameLoad (run Replace env m entries) (override_result env m entries)
run-replace env m entries = run-rule rule [] entries
  where
    rule : IsRule Replace m (λ earlier. or_else (last_value earlier) env) (override_look_up env m) (λ earlier key. true)
    rule = record {
      looks = λ earlier n. grind arith;
      stops = λ earlier key. refl;
      declares = λ earlier key value n. rw last_value-append (grind arith);
    }
