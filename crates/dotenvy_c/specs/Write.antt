-- What a call that writes one text tells C, and what it writes.
use Rattle.std.specs.Prelude.{ℕ, ◌≡◌, ◌≤◌, ◌⊎◌, ◌↔◌, false, IsTrue, List, [], ◌∷◌, length}
use Rattle.dotenvy_c.specs.declared.write.Text.{Text}
use Rattle.dotenvy_c.specs.Buffer.{written_if}

-- nothing was written, for the reason that this status names
abbrev pub refused_text : ℕ → Text
refused_text status =
    record { status = status; fits = false; text_len = 0; reserved = 0 ∷ 0 ∷ [] }

-- a call for a text is refused, for the reason that this status names, and writes nothing
abbrev pub RefusesText : ℕ → Text → List ℕ → List ℕ → Type 0
RefusesText status answer old new = (answer ≡ refused_text status) × (new ≡ old)

-- these bytes stand in the buffer where they fit, and their number is told
pub record TellsText (bytes : List ℕ) (answer : Text) (old new : List ℕ) : Type 0 where
  pub status : answer.status ≡ 0
  pub text_len : answer.text_len ≡ length bytes
  pub reserved : answer.reserved ≡ 0 ∷ 0 ∷ []
  pub fits : IsTrue answer.fits ↔ (length bytes ≤ length old)
  pub written : new ≡ written_if answer.fits bytes old

-- the answer to a call that writes these bytes; or memory was refused
abbrev pub AnswersWrite : List ℕ → Text → List ℕ → List ℕ → Type 0
AnswersWrite bytes answer old new =
    TellsText bytes answer old new ⊎ RefusesText 5 answer old new
