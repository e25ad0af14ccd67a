-- Texts that are sent to a sink in parts.
use Rattle.std.specs.Prelude.{ℕ, ◌≡◌, ◌≤◌, ◌⊎◌, List, [], ◌∷◌, length, Result, Ok, IsErr}
use Rattle.std.specs.List.{concat}
use Rattle.dotenvy_base.specs.Output.{Sends, most_writes}
use Rattle.dotenvy_base.specs.Source.{SinkTold}
use Rattle.dotenvy_base.specs.declared.errors.Error.{Error}

-- texts are sent to a sink one after another; with an error the last of them is not sent to its end
abbrev pub SendsEach : {A W : Type 0} → (W → SinkTold) → W → List (List ℕ) →
    Result (Unit {0}) (Error A) → W → Type 0
SendsEach told old [] answer new = (answer ≡ Ok tt) × (new ≡ old)
SendsEach {A = A} {W = W} told old (text ∷ texts) answer new =
    (IsErr answer × (texts ≡ []) × Sends told most_writes old new text answer)
    ⊎ ((middle : W) × Sends {A = A} told most_writes old middle text (Ok tt)
    × SendsEach told middle texts answer new)

-- so many bytes are a part, also where more follow
abbrev pub part_len : ℕ
part_len = 65536

-- each of these is long enough for a part, or the last one
abbrev pub AreParts : List (List ℕ) → Type 0
AreParts [] = Unit {0}
AreParts (part ∷ parts) = ((parts ≡ []) ⊎ (part_len ≤ length part)) × AreParts parts

-- a text is sent to a sink in parts, one after another, with this result
pub record SendsParts {A W : Type 0} (told : W → SinkTold) (old : W) (text : List ℕ)
    (answer : Result (Unit {0}) (Error A)) (new : W) : Type 0 where
  pub parts : List (List ℕ)
  pub cut : text ≡ concat parts
  pub are : AreParts parts
  pub sends : SendsEach told old parts answer new
