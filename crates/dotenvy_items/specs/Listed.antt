-- What a listing of a file writes and answers.
use Rattle.std.specs.Prelude.{ℕ, ◌≡◌, List, map, Result, Ok, Err}
use Rattle.std.specs.Str.{chars}
use Rattle.std.specs.FinMap as fin
use Rattle.dotenvy_base.specs.declared.errors.Error.{Error}
use Rattle.dotenvy_format.specs.Written.{written_bytes}
use Rattle.dotenvy_base.specs.Output.{Writes}
use Rattle.dotenvy_base.specs.Source.{SinkTold}
use Rattle.dotenvy_base.specs.Environment.{AreTexts, Texts}
use Rattle.dotenvy_format.specs.Loads.{load_result}
use Rattle.dotenvy_items.specs.Iter.{IterState}
use Rattle.dotenvy_items.specs.LoadsRest.{ChangesKeys, LoadsRest}

-- the pairs of a map by their characters, in byte order of the names
abbrev pub pairs_of : Texts → List (List ℕ × List ℕ)
pairs_of names = map (λ p. (chars p.0, chars p.1)) (fin.entries names)

-- these texts, all of them under keys, are sent to a sink in their written form
abbrev pub WritesTexts : {A W : Type 0} → (W → SinkTold) → W → W → Texts →
    Result (Unit {0}) (Error A) → Type 0
WritesTexts sink old new names answer =
    ChangesKeys fin.empty names × AreTexts names
    × Writes sink old new (written_bytes (pairs_of names)) answer

-- behind a load that left these texts and answered so: its error is the answer, and the sink is as
-- it was; else they are written
abbrev pub WritesLoaded : {A W : Type 0} → (W → SinkTold) → W → W → Texts →
    Result (Unit {0}) (Error A) → Result (Unit {0}) (Error A) → Type 0
WritesLoaded sink old new names (Err e) answer = (answer ≡ Err e) × (new ≡ old)
WritesLoaded sink old new names (Ok done) answer = WritesTexts sink old new names answer

-- a listing of what s has left: it is loaded into an empty environment, and then written
abbrev pub Lists : {A W : Type 0} → IterState → (W → SinkTold) → W → W →
    Result (Unit {0}) (Error A) → Type 0
Lists {A = A} s sink old new answer =
    (names : Texts) × (loaded : Result (Unit {0}) (Error A))
    × LoadsRest load_result s fin.empty loaded names
    × WritesLoaded sink old new names loaded answer
