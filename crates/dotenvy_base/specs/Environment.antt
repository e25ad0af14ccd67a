-- What an environment is: a finite map from names to values, as bytes, and a `loaded` flag.
use Rattle.std.specs.Prelude.{ℕ, ◌≡◌, Bool, true, false, not, ◌&&◌, ◌==◌, List, [], ◌∷◌, map, Some}
use Rattle.std.specs.Prelude.{is_some, string_bytes, bytes_eq, IsUtf8, IsTrue, refl}
use Rattle.std.specs.List.{list_all, list_any}
use Rattle.std.specs.Ordering.{nat_cmp}
use Rattle.std.specs.Bool.{beq}
use Rattle.std.specs.Cmp.{IsEquivalence, and_equiv, on_equiv, bool_eq_equiv}
use Rattle.std.specs.Cmp.Lexicographic.{slice_cmp, pointwise, lists_equiv, nat_list_eq_equiv}
use Rattle.std.specs.Coded.{Coded, code_by, coded×, coded_ℕ, coded_list, coded_bool}
use Rattle.std.specs.FinMap as fin
use Rattle.std.specs.declared.string.String.{String}

-- names and their values, in the byte order of the names
abbrev pub Texts : Type 0
Texts = fin.FinMap (slice_cmp nat_cmp) (List ℕ)

-- an environment: its names with their values, and its `loaded` flag
pub record Env : Type 0 where
  pub names : Texts
  pub loaded : Bool

-- the encoding of this record, made of those of its fields
abbrev pub env_code : Coded Env
env_code =
    code_by (Texts × Bool) (coded× (fin.code (coded_list coded_ℕ) (coded_list coded_ℕ)) coded_bool)
    (λ e. (e.names, e.loaded)) (λ p. record { names = p.0; loaded = p.1 }) (λ _. refl)

-- the byte between a name and its value
abbrev pub name_separator : ℕ
name_separator = 61

-- the bytes are a name: they are not empty, and have no `=` and no NUL
abbrev pub name_ok : List ℕ → Bool
name_ok [] = false
name_ok (b ∷ bs) =
    not (list_any (λ c. c == name_separator) (b ∷ bs)) && not (list_any (λ c. c == 0) (b ∷ bs))

-- the bytes are a value: they have no NUL
abbrev pub value_ok : List ℕ → Bool
value_ok bs = not (list_any (λ c. c == 0) bs)

-- every name is a valid name, and every value a valid value
abbrev pub IsEnvironment : Env → Type 0
IsEnvironment e =
    (k v : List ℕ) → fin.get e.names k ≡ Some v → IsTrue (name_ok k) × IsTrue (value_ok v)

-- each value is UTF-8
abbrev pub AreTexts : Texts → Type 0
AreTexts names = (name text : List ℕ) → fin.get names name ≡ Some text → IsUtf8 text

-- pairs of strings, as pairs of bytes
abbrev pub text_entries : {A : Type 0} → List (String A × String A) → List (List ℕ × List ℕ)
text_entries = map (λ p. (string_bytes p.0, string_bytes p.1))

-- the environment with these pairs and this flag; of several pairs with one name the first counts
abbrev pub env_of : {A : Type 0} → List (String A × String A) → Bool → Env
env_of es loaded = record { names = fin.from_entries (text_entries es); loaded = loaded }

-- each name of the old map has the same value in the new one
abbrev pub KeepsNames : Texts → Texts → Type 0
KeepsNames old new = (k : List ℕ) → is_some (fin.get old k) ≡ true → fin.get new k ≡ fin.get old k

-- a pair of a valid name and a valid value
abbrev pub pair_ok : List ℕ × List ℕ → Bool
pair_ok p = name_ok p.0 && value_ok p.1

-- each of these pairs has a valid name and a valid value
abbrev pub AreGood : List (List ℕ × List ℕ) → Type 0
AreGood pairs = IsTrue (list_all pair_ok pairs)

-- two lists have the same pairs, in the same order
abbrev pub are_same_pairs : List (List ℕ × List ℕ) → List (List ℕ × List ℕ) → Bool
are_same_pairs = pointwise (λ p q. bytes_eq p.0 q.0 && bytes_eq p.1 q.1)

-- two environments have the same names with the same values, and the same flag
abbrev pub is_same : Env → Env → Bool
is_same a b = are_same_pairs (fin.entries a.names) (fin.entries b.names) && beq a.loaded b.loaded

-- being the same is an equivalence: reflexive, symmetric and transitive
pub is_same-equiv : IsEquivalence is_same
is_same-equiv =
    let same_keys = on_equiv (λ p. p.0) nat_list_eq_equiv in
    let same_values = on_equiv (λ p. p.1) nat_list_eq_equiv in
    let same_pairs = lists_equiv (and_equiv same_keys same_values) in
    and_equiv (on_equiv (λ e. fin.entries e.names) same_pairs)
    (on_equiv (λ e. e.loaded) bool_eq_equiv)
