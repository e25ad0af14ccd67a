-- Which of the names that are required are absent.
use Rattle.std.specs.Prelude.{ℕ, ◌≡◌, ◌++◌, not, List, [], ◌∷◌, filter, map, Result, Ok, IsErrAnd, codes, string_bytes}
use denote.Ref.{Bor}
use Rattle.std.specs.FinMap as fin
use Rattle.std.specs.List.{join_by}
use Rattle.std.specs.declared.string.String.{String}
use Rattle.dotenvy.specs.Environment.{Texts}
use Rattle.env_layers.specs.declared.missing.Missing.{Missing}
use Rattle.env_layers.specs.declared.missing.Missing.TheVariants.{Names, Memory}

-- the texts that are lent, by their bytes
abbrev pub lent_texts : List (Bor (List ℕ)) → List (List ℕ)
lent_texts lent = map (λ text. text.now) lent

-- the names that an environment lacks, in the order asked, and as often as asked
abbrev pub absent_names : Texts → List (List ℕ) → List (List ℕ)
absent_names names asked = filter (λ name. not (fin.contains_key names name)) asked

-- these are the bytes of the texts
abbrev pub HoldsTexts : {A : Type 0} → List (String A) → List (List ℕ) → Type 0
HoldsTexts found names = map string_bytes found ≡ names

-- memory was refused
abbrev pub IsMemoryMissing : {A : Type 0} → Missing A → Type 0
IsMemoryMissing (Names names) = ⊥
IsMemoryMissing (Memory error) = Unit {0}

-- these names are told, unless memory was refused
abbrev pub TellsNames : {A : Type 0} → List (List ℕ) → Missing A → Type 0
TellsNames absent (Names names) = HoldsTexts names.items absent
TellsNames absent (Memory error) = Unit {0}

-- Ok exactly where no name is absent; else the absent names are told
abbrev pub AnswersRequire : {A : Type 0} → List (List ℕ) → Result (Unit {0}) (Missing A) → Type 0
AnswersRequire [] answer = answer ≡ Ok tt
AnswersRequire (name ∷ absent) answer = IsErrAnd answer (TellsNames (name ∷ absent))

-- what is printed
abbrev pub missing_text : {A : Type 0} → Missing A → List ℕ
missing_text (Names names) =
    codes "environment variables not found: " ++ join_by string_bytes (codes ", ") names.items
missing_text (Memory error) = codes "out of memory"
