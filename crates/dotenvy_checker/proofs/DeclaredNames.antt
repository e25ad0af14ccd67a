-- The names that a file declared so far, each with its first line.
use Rattle.std.proofs.Common.{arith, ◌≡◌, ℕ, false, List, Option, refl, string_bytes}
use Rattle.std.specs.Prelude.{bytes_eq, Some, None}
use Rattle.std.specs.Prelude.{is_some}
use Rattle.std.specs.HashMap.{HashMap, UpdatesBy, get_by_text}
use Rattle.std.specs.String.{string_eq}
use Rattle.std.specs.declared.string.String.{String}
use Rattle.std.proofs.lemmas.Map.Text.{hash_map_updates_text}
use Rattle.dotenvy_checker.specs.Findings.{Declared, with_key}

-- names that are the same for each text are the same
same_declared : {names others : Declared} → ((name : List ℕ) → names name ≡ others name) → names ≡ others
same_declared h = λ i name. h name i

-- what is none by the test is none
pub none_is : {T : Type 0} (x : Option T) → is_some x ≡ false → x ≡ None
none_is None h = refl
none_is (Some x) h = cc

-- with a name that was not declared inserted, it is declared on its line
pub declared_more : {A S : Type 0} (old new : HashMap (String A) ℕ S) (text key : List ℕ) (line : ℕ) → text ≡ key →
    get_by_text old key ≡ None →
    UpdatesBy string_eq (λ k. bytes_eq text (string_bytes k)) old new (Some line) →
    get_by_text new ≡ with_key key line (get_by_text old)
declared_more old new text key line same none updates =
    let more = rw same at updates in
    same_declared (λ name. rw (hash_map_updates_text key old new (Some line) more name, none) (grind arith))
