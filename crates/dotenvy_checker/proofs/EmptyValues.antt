-- Names that are set to the empty value.
use Rattle.std.proofs.Common.{◌≡◌, Bool, true, false, cond, List, [], ◌∷◌, Option, refl, sym, ◌∙◌, ap, string_bytes}
use Rattle.std.proofs.lemmas.Bool.{false≢true}
use Rattle.std.specs.Prelude.{◌||◌, ◌&&◌, bytes_eq, is_some, Some, None}
use Rattle.std.specs.Cmp.Lexicographic.{same_text}
use Rattle.std.specs.FinMap as fin
use Rattle.std.specs.Option.{option_or}
use Rattle.std.specs.declared.string.String.{String}
use Rattle.dotenvy_base.specs.Environment.{Texts, name_ok}
use Rattle.dotenvy_findings.specs.Readings.{Known}
use Rattle.dotenvy_items.proofs.KeyLookUps.{get-inserted}
use Rattle.clap.specs.Words.{Text}
use Rattle.dotenvy_words.specs.Found.{texts}
use Rattle.dotenvy_checker.specs.Checks.{names_in}
use Rattle.dotenvy_checker.specs.Folders.{is_among}
use Rattle.dotenvy_checker.specs.Together.{empty_if, settable, with_empty, with_names}

-- what is there stays, and what is no name is not set
kept : (o : Option Text) (n e : Bool) → (e ≡ true → is_some o ≡ true) → o ≡ option_or o (empty_if (n && e))
kept (Some v) n e there = refl
kept None n true there = absurd (false≢true (there refl))
kept None true false there = refl
kept None false false there = refl

-- what is set has the empty value
put : (o : Option Text) (n e : Bool) → (e ≡ true → (is_some o ≡ false) × (n ≡ true)) →
    cond e (Some []) o ≡ option_or o (empty_if (n && e))
put o n false there = kept o n false (λ h. absurd (false≢true h))
put (Some v) n true there = absurd (false≢true (sym (there refl).0))
put None true true there = refl
put None false true there = absurd (false≢true (there refl).1)

-- a name that is there stays, and one that is absent has the empty value then
pub set_one : (old new : Texts) (key : Text) → name_ok key ≡ true → (fin.contains_key old key ≡ true → new ≡ old) →
    (fin.contains_key old key ≡ false → new ≡ fin.insert old key []) → (name : Text) →
    fin.get new name ≡ with_empty old (settable (bytes_eq key)) name
set_one old new key good there absent name =
    elim (fin.contains_key old key) as (λ b. fin.contains_key old key ≡ b →
    fin.get new name ≡ with_empty old (settable (bytes_eq key)) name) [
      | true ↦ λ has. ap (λ m. fin.get m name) (there has) ∙ kept (fin.get old name) (name_ok name) (bytes_eq key name)
          (λ same. ap (λ n. fin.contains_key old n) (sym (same_text key name (sym same))) ∙ has)
      | false ↦ λ lacks. ap (λ m. fin.get m name) (absent lacks) ∙ get-inserted old key [] name
          ∙ put (fin.get old name) (name_ok name) (bytes_eq key name)
          (λ same. let is = sym (same_text key name (sym same)) in
          (ap (λ n. fin.contains_key old n) is ∙ lacks, ap name_ok is ∙ good))
    ] refl

-- the empty value, set for one name and then for others
put_more : (o : Option Text) (n a b : Bool) →
    option_or (option_or o (empty_if (n && a))) (empty_if (n && b)) ≡ option_or o (empty_if (n && (a || b)))
put_more (Some v) n a b = refl
put_more None false a b = refl
put_more None true true b = refl
put_more None true false b = refl

-- with one more name set, the others are left
pub set_more : {A : Type 0} (old new : Texts) (key : String A) (left after : List (String A))
    (all : Text → Option Text) → left ≡ key ∷ after →
    ((name : Text) → fin.get new name ≡ with_empty old (settable (bytes_eq (string_bytes key))) name) →
    ((name : Text) → with_empty old (settable (is_among (texts left))) name ≡ all name) →
    (name : Text) → with_empty new (settable (is_among (texts after))) name ≡ all name
set_more old new key left after all is sets h name =
    ap (λ o. option_or o (empty_if (name_ok name && is_among (texts after) name))) (sets name)
    ∙ put_more (fin.get old name) (name_ok name) (bytes_eq (string_bytes key) name) (is_among (texts after) name)
    ∙ ap (λ names. with_empty old (settable (is_among (texts names))) name) (sym is) ∙ h name

-- nothing more is set
put_none : (o : Option Text) (n : Bool) → o ≡ option_or o (empty_if (n && false))
put_none o n = kept o n false (λ h. absurd (false≢true h))

-- with none left, all are set
pub set_all : {A : Type 0} (new : Texts) (left : List (String A)) (all : Text → Option Text) → left ≡ [] →
    ((name : Text) → with_empty new (settable (is_among (texts left))) name ≡ all name) → (name : Text) →
    fin.get new name ≡ all name
set_all new left all none h name =
    put_none (fin.get new name) (name_ok name)
    ∙ ap (λ names. with_empty new (settable (is_among (texts names))) name) (sym none) ∙ h name

-- a value, or the empty one
some_or : (o : Option Text) (b : Bool) → is_some (option_or o (empty_if b)) ≡ (is_some o || b)
some_or (Some v) b = refl
some_or None true = refl
some_or None false = refl

-- the names that have a value then
pub names_set : (old new : Texts) (names : Known) → ((name : Text) → fin.get new name ≡ with_empty old names name) →
    names_in new ≡ with_names (names_in old) names
names_set old new names h = λ i name. (ap is_some (h name) ∙ some_or (fin.get old name) (names name)) i
