-- What the code returns for one logical line, and what it remembers.
use Rattle.std.specs.Prelude.{ℕ, ◌≡◌, ◌⊎◌, List, [], ◌∷◌, map, Option, Some, None, Result, Ok, Err}
use Rattle.std.specs.Prelude.{string_bytes, IsTrue, if◌then◌else◌}
use Rattle.std.specs.Str.{chars}
use Rattle.std.specs.FinMap as fin
use Rattle.std.specs.declared.string.String.{String}
use Rattle.dotenvy_base.specs.declared.errors.Error.{Error}
use Rattle.dotenvy_base.specs.Errors.{IsMemoryErr}
use Rattle.dotenvy_format.specs.declared.dialect.Dialect.{Dialect}
use Rattle.dotenvy_format.specs.Characters.{is_empty_or_comment}
use Rattle.dotenvy_format.specs.Statement.{IsStatement}
use Rattle.dotenvy_format.specs.Keys.{is_key}
use Rattle.dotenvy_format.specs.Outcome.{Outcome, Says, trimmed}
use Rattle.dotenvy_format.specs.Items.{LookUp}
use Rattle.dotenvy_format.specs.Entries.{outcome_entries}
use Rattle.dotenvy_items.specs.NextItem.{Item, entry_item}
use Rattle.dotenvy_items.specs.Iteration.{SayItems}
use Rattle.dotenvy_items.specs.Remembered.{Remembered}

-- the items that the result for a line gives: none, or one
abbrev pub given_items : {A : Type 0} → Result (Option (String A × String A)) (Error A) →
    List (Item A)
given_items (Ok None) = []
given_items (Ok (Some pair)) = Ok pair ∷ []
given_items (Err e) = Err e ∷ []

-- the result for a line gives what the line's entries say, where names stand for these texts
abbrev pub IsLineAnswer : {A : Type 0} → LookUp → Outcome →
    Result (Option (String A × String A)) (Error A) → Type 0
IsLineAnswer look_up outcome answer =
    SayItems (given_items answer) (map (entry_item look_up) (outcome_entries outcome))

-- memory was refused, or the result gives what the line says, where names stand for these texts
abbrev pub AnswersLine : {A : Type 0} → Dialect → LookUp → List ℕ →
    Result (Option (String A × String A)) (Error A) → Type 0
AnswersLine dialect look_up line answer =
    IsMemoryErr answer
    ⊎ ((outcome : Outcome) × Says dialect line outcome × IsLineAnswer look_up outcome answer)

-- a pair is remembered, without a value where nothing or a comment is assigned; else all stays
abbrev pub Remembers : {A : Type 0} → List ℕ → Remembered → Remembered →
    Result (Option (String A × String A)) (Error A) → Type 0
Remembers line old new (Ok None) = new ≡ old
Remembers line old new (Ok (Some pair)) =
    (rest : List ℕ) × IsStatement (trimmed line) (chars (string_bytes pair.0)) rest
    × (new
    ≡ fin.insert old (string_bytes pair.0)
    (if is_empty_or_comment rest then None else Some (string_bytes pair.1)))
Remembers line old new (Err e) = new ≡ old

-- the key of a pair is one
abbrev pub HasKey : {A : Type 0} → Option (String A × String A) → Type 0
HasKey None = Unit {0}
HasKey (Some pair) = IsTrue (is_key (chars (string_bytes pair.0)))
